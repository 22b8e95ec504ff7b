-- What bytes declare: the declaration that they spell, or the first fault.
use Rattle.std.specs.Prelude.{◌≡◌, ◌≤◌, ◌<◌, ◌⊎◌, ⊤, ℕ, Bool, true, false, List, [], ◌∷◌, ◌||◌, length, Result, Ok, Err}
use Rattle.std.specs.List.{AllByRecursion, list_any}
use Rattle.std.specs.Str.{bytes_eq}
use Rattle.wsegment.specs.Declaration.{Declaration, Described, declaration_text, is_name}
use Rattle.wsegment.specs.declared.schema_fault.SchemaFault.{SchemaFault}
use Rattle.wsegment.specs.declared.schema_fault.SchemaFault.TheVariants as faults

abbrev pub HasName : Described → Type 0
HasName c = is_name c.name ≡ true

-- the bytes are the spelling of the declaration, however many columns it has
pub record Spells (d : Declaration) (bytes : List ℕ) : Type 0 where
  pub short : length bytes ≤ 65536
  pub table : is_name d.table ≡ true
  pub columns : AllByRecursion HasName d.columns
  pub text : bytes ≡ declaration_text d

-- two columns have one name
abbrev pub repeats_name : List Described → Bool
repeats_name [] = false
repeats_name (c ∷ cs) = list_any (λ other. bytes_eq other.name c.name) cs || repeats_name cs

-- a declaration that a schema can be of: spelled, of 1 to 64 columns with names of their own
pub record IsDeclaration (d : Declaration) : Type 0 where
  pub spelled : Spells d (declaration_text d)
  pub distinct : repeats_name d.columns ≡ false
  pub some : 0 < length d.columns
  pub few : length d.columns ≤ 64

-- the fault of these bytes: the form first, then a repeated name, then the number of columns
abbrev pub IsRefusedFor : List ℕ → SchemaFault → Type 0
IsRefusedFor bytes faults.Syntax = (d : Declaration) → Spells d bytes → ⊥
IsRefusedFor bytes faults.RepeatedColumn = (d : Declaration) × Spells d bytes × (repeats_name d.columns ≡ true)
IsRefusedFor bytes faults.ColumnCount = (d : Declaration) × Spells d bytes × (repeats_name d.columns ≡ false)
    × ((length d.columns ≡ 0) ⊎ (64 < length d.columns))
IsRefusedFor bytes faults.NoMemory = ⊤

-- what reading bytes gives: the declaration that they spell, or their fault, unless memory ran out
abbrev pub ReadsDeclaration : List ℕ → Result Declaration SchemaFault → Type 0
ReadsDeclaration bytes (Ok d) = IsDeclaration d × (bytes ≡ declaration_text d)
ReadsDeclaration bytes (Err fault) = IsRefusedFor bytes fault
