-- A table's declaration: the table's name and its columns, and the one text that spells it.
use Rattle.std.specs.Prelude.{◌≡◌, ℕ, Bool, true, false, List, ◌++◌, ◌==◌, ◌&&◌, ◌||◌, not, codes}
use Rattle.std.specs.Prelude.{length, nat_le, nat_lt, slice_index, position, Option, refl}
use Rattle.std.specs.Char.{is_ascii_digit, is_ascii_lowercase}
use Rattle.std.specs.Coded.{Coded, code_by, coded×, coded_bool, coded_list, coded_ℕ}
use Rattle.std.specs.List.{flat_map, list_all}
use Rattle.std.specs.Str.{bytes_eq}
use Rattle.wsegment.specs.declared.kind.Kind.{Kind}
use Rattle.wsegment.specs.declared.kind.Kind.TheVariants as kinds

-- a column: its name and what it holds
pub record Described : Type 0 where
  pub name : List ℕ
  pub kind : Kind

-- a table: its name and its columns
pub record Declaration : Type 0 where
  pub table : List ℕ
  pub columns : List Described

-- a small letter, a digit or '_'
abbrev pub is_name_byte : ℕ → Bool
is_name_byte b = is_ascii_lowercase b || is_ascii_digit b || (b == 95)

-- 1 to 63 such bytes, of which the first is no digit
abbrev pub is_name : List ℕ → Bool
is_name bs = nat_lt 0 (length bs) && nat_le (length bs) 63 && not (is_ascii_digit (slice_index bs 0)) && list_all is_name_byte bs

abbrev pub kind_text : Kind → List ℕ
kind_text kinds.Integer = codes " integer\n"
kind_text kinds.Text = codes " text\n"

-- the line of a column
abbrev pub column_text : Described → List ℕ
column_text c = c.name ++ kind_text c.kind

-- the line of the table's name
abbrev pub table_text : List ℕ → List ℕ
table_text table = codes "table " ++ (table ++ codes "\n")

-- the one spelling
abbrev pub declaration_text : Declaration → List ℕ
declaration_text d = table_text d.table ++ flat_map column_text d.columns

-- the place of the first column of a name
abbrev pub place_of : List ℕ → List Described → Option ℕ
place_of name columns = position (λ c. bytes_eq c.name name) columns

-- how a declaration is stored: as the pair of its parts
abbrev is_text : Kind → Bool
is_text kinds.Integer = false
is_text kinds.Text = true

abbrev kind_from : Bool → Kind
kind_from false = kinds.Integer
kind_from true = kinds.Text

pub kind-back : (k : Kind) → kind_from (is_text k) ≡ k
kind-back kinds.Integer = refl
kind-back kinds.Text = refl

abbrev pub coded_kind : Coded Kind
coded_kind = code_by Bool coded_bool is_text kind_from kind-back

abbrev pub coded_described : Coded Described
coded_described = code_by (List ℕ × Kind) (coded× (coded_list coded_ℕ) coded_kind) (λ c. (c.name, c.kind))
    (λ p. record { name = p.0; kind = p.1 }) (λ _. refl)

abbrev pub coded_declaration : Coded Declaration
coded_declaration = code_by (List ℕ × List Described) (coded× (coded_list coded_ℕ) (coded_list coded_described))
    (λ d. (d.table, d.columns)) (λ p. record { table = p.0; columns = p.1 }) (λ _. refl)
