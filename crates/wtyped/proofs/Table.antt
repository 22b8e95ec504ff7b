-- The rows that live segments hold have cells of the declared types.
use Rattle.std.proofs.Common.{◌≡◌, ◌+◌, ◌==◌, ◌⊎◌, inl, inr, Bool, true, false, not, cond, ℕ, ℤ, List, [], ◌∷◌, ◌++◌, map, length}
use Rattle.std.proofs.Common.{get_or, Option, Some, None, Result, Ok, Err, IfOk, refl, sym, ap, subst, ◌∙◌, true≢false}
use Rattle.std.specs.Prelude.{if◌then◌else◌, nat_lt}
use Rattle.std.specs.List.{enumerate_from, list_all, list_any, position_or_len}
use Rattle.std.specs.Str.{bytes_eq, is_utf8}
use Rattle.std.proofs.Math.Numerals.{one-add}
use Rattle.std.proofs.lemmas.Bool.{and_parts, and_from, or_parts}
use Rattle.csv.specs.Reading.{default_config, records, strip_bom}
use Rattle.wvalues.specs.Meaning.{Meaning, Null}
use Rattle.wvalues.specs.Names.{NameParts}
use Rattle.wsegment.specs.Cells.{cell_of, cells_of, number_cell, row_of, rows_from, typed}
use Rattle.wsegment.specs.Declaration.{Declaration, Described}
use Rattle.wsegment.specs.Header.{cell_at, column_named, field_of, fresh, in_table_order, is_complete, kinds_of, named, named_each}
use Rattle.wsegment.specs.Integer.{integer_of}
use Rattle.wsegment.specs.Outcome.{◌>>=◌}
use Rattle.wsegment.specs.Rows.{rows_of, rows_of_records, rows_under}
use Rattle.wsegment.specs.Spelling.{repeats_name}
use Rattle.wsegment.specs.declared.fault.SegmentFault.{SegmentFault}
use Rattle.wsegment.specs.declared.kind.Kind.{Kind}
use Rattle.wsegment.specs.declared.kind.Kind.TheVariants as kinds
use Rattle.wset.specs.Tables.{TableRow, content_rows, rows_or_none, segment_rows, table_of}
use Rattle.wset.specs.Views.{View, lives}
use Rattle.wscope.specs.declared.data_type.DataType.{DataType}
use Rattle.wscope.proofs.Grouped.{name_sym}
use Rattle.wscope.specs.Sources.{declared_columns, kind_type}
use Rattle.wtable.specs.Tables.{rows_of_view}
use Rattle.wtyped.specs.Exact.{are_of, is_of}
use Rattle.wtyped.specs.Laws.{types_of}
use Rattle.wtyped.specs.Running.{all_of}
use Rattle.wtyped.proofs.Lists.{each_flat, mapped_all}

-- what a reader of segments answers, where nothing is at fault
then_read : {A B : Type 0} (r : Result A SegmentFault) (f : A → Result B SegmentFault) (P : A → Type 0) (Q : B → Type 0)
    → IfOk r P → ((x : A) → P x → IfOk (f x) Q) → IfOk (r >>= f) Q
then_read (Ok x) f P Q h step = step x h
then_read (Err fault) f P Q h step = tt

-- and where the answer is one of two
either_read : {A : Type 0} (b : Bool) (r s : Result A SegmentFault) (P : A → Type 0) → IfOk r P → IfOk s P → IfOk (if b then r else s) P
either_read true r s P h g = h
either_read false r s P h g = g

-- cells

pub null_of : (k : Kind) → is_of (kind_type k) Null ≡ true
null_of kinds.Integer = refl
null_of kinds.Text = refl

abbrev OfKind : Kind → Meaning → Type 0
OfKind k m = is_of (kind_type k) m ≡ true

number_typed : (row : ℕ) (o : Option ℤ) → IfOk (number_cell row o) (OfKind kinds.Integer)
number_typed row None = tt
number_typed row (Some n) = refl

field_typed : (row : ℕ) (k : Kind) (text : List ℕ) → IfOk (typed row k text) (OfKind k)
field_typed row kinds.Text text = refl
field_typed row kinds.Integer text = number_typed row (integer_of text)

cell_typed : (row : ℕ) (k : Kind) (field : List ℕ) → IfOk (cell_of row k field) (OfKind k)
unfolding cell_of
cell_typed row k field =
    either_read (is_utf8 field) _ _ (OfKind k) (either_read (length field == 0) _ _ (OfKind k) (null_of k) (field_typed row k field)) tt

-- cells under the columns of a header; there may be fewer
abbrev are_under : List Described → List Meaning → Bool
are_under header [] = true
are_under [] (m ∷ ms) = false
are_under (h ∷ hs) (m ∷ ms) = cond (is_of (kind_type h.kind) m) (are_under hs ms) false

abbrev Under : List Described → List Meaning → Type 0
Under header cells = are_under header cells ≡ true

one_under : (h : Described) (hs : List Described) (m : Meaning) (ms : List Meaning) → OfKind h.kind m → Under hs ms
    → Under (h ∷ hs) (m ∷ ms)
one_under h hs m ms first rest = ap (λ (b : Bool). cond b (are_under hs ms) false) first ∙ rest

under_parts : (b c : Bool) → cond b c false ≡ true → (b ≡ true) × (c ≡ true)
under_parts true c e = (refl, e)
under_parts false c e = absurd (true≢false (sym e))

none_under : (header : List Described) → Under header []
none_under [] = refl
none_under (h ∷ hs) = refl

cells_under : (row : ℕ) (header : List Described) (fields : List (List ℕ)) → IfOk (cells_of row (kinds_of header) fields) (Under header)
unfolding cells_of
cells_under row [] fields = refl
cells_under row (h ∷ hs) [] = refl
cells_under row (h ∷ hs) (f ∷ fs) =
    then_read (cell_of row h.kind f) (λ x. cells_of row (kinds_of hs) fs >>= λ xs. Ok (x ∷ xs)) (OfKind h.kind)
    (Under (h ∷ hs)) (cell_typed row h.kind f)
    (λ x first. then_read (cells_of row (kinds_of hs) fs) (λ xs. Ok (x ∷ xs)) (Under hs) (Under (h ∷ hs))
    (cells_under row hs fs) (λ xs rest. one_under h hs x xs first rest))

row_under : (row : ℕ) (header : List Described) (fields : List (List ℕ)) → IfOk (row_of row (kinds_of header) fields) (Under header)
unfolding row_of
row_under row header fields = either_read (length fields == length (kinds_of header)) _ _ (Under header) (cells_under row header fields) tt

abbrev AllUnder : List Described → List (List Meaning) → Type 0
AllUnder header rows = list_all (are_under header) rows ≡ true

rows_typed : (header : List Described) (row : ℕ) (rs : List (List (List ℕ))) → IfOk (rows_from (kinds_of header) row rs) (AllUnder header)
unfolding rows_from
rows_typed header row [] = refl
rows_typed header row (r ∷ rs) =
    either_read (nat_lt 1000000 row) _ _ (AllUnder header) tt
    (then_read (row_of row (kinds_of header) r) (λ x. rows_from (kinds_of header) (row + 1) rs >>= λ xs. Ok (x ∷ xs))
    (Under header) (AllUnder header) (row_under row header r)
    (λ x first. then_read (rows_from (kinds_of header) (row + 1) rs) (λ xs. Ok (x ∷ xs)) (AllUnder header) (AllUnder header)
    (rows_typed header (row + 1) rs)
    (λ xs others. and_from _ _ first others)))

-- columns by name

abbrev IsIn : Described → List Described → Type 0
IsIn h [] = ⊥
IsIn h (c ∷ cs) = (h ≡ c) ⊎ IsIn h cs

no_other : (name : List ℕ) (cs : List Described) (h : Described) → list_any (λ other. bytes_eq other.name name) cs ≡ false → IsIn h cs
    → bytes_eq h.name name ≡ false
no_other name [] h e i = elim i [ ]
no_other name (c ∷ cs) h e (inl is) =
    ap (λ (d : Described). bytes_eq d.name name) is ∙ (or_parts _ _ e).0
no_other name (c ∷ cs) h e (inr i) = no_other name cs h (or_parts _ _ e).1 i

-- two columns of one name are one
one_kind : (cs : List Described) (c h : Described) → repeats_name cs ≡ false → IsIn c cs → IsIn h cs → bytes_eq h.name c.name ≡ true
    → h.kind ≡ c.kind
one_kind [] c h e i j same = elim i [ ]
one_kind (x ∷ xs) c h e (inl is) (inl at) same = ap (λ (d : Described). d.kind) (at ∙ sym is)
one_kind (x ∷ xs) c h e (inl is) (inr j) same =
    let p = or_parts _ _ e in
    absurd (true≢false (sym same ∙ ap (λ (d : Described). bytes_eq h.name d.name) is ∙ no_other x.name xs h p.0 j))
one_kind (x ∷ xs) c h e (inr i) (inl at) same =
    let p = or_parts _ _ e in
    absurd (true≢false (sym (name_sym c.name h.name ∙ same) ∙ ap (λ (d : Described). bytes_eq c.name d.name) at ∙ no_other
    x.name xs c p.0 i))
one_kind (x ∷ xs) c h e (inr i) (inr j) same =
    one_kind xs c h (or_parts _ _ e).1 i j same

-- the columns of a header are the table's

abbrev AreIn : List Described → List Described → Type 0
AreIn columns header = (h : Described) → IsIn h header → IsIn h columns

found_in : (name : List ℕ) (cs : List Described) (h : Described) → column_named name cs ≡ Some h → IsIn h cs
found_in name [] h e = cc
found_in name (c ∷ cs) h e = go (bytes_eq c.name name) e (found_in name cs h)
  where
    go : (b : Bool) → cond b (Some c) (column_named name cs) ≡ Some h → (column_named name cs ≡ Some h → IsIn h cs) → (h ≡ c) ⊎ IsIn h cs
    go true is rest = let same : h ≡ c = cc in inl same
    go false is rest = inr (rest is)

fresh_in : (columns earlier : List Described) (o : Option Described) → ((h : Described) → o ≡ Some h → IsIn h columns)
    → IfOk (fresh earlier o) (λ c. IsIn c columns)
fresh_in columns earlier None all = tt
fresh_in columns earlier (Some c) all =
    either_read (list_any (λ other. bytes_eq other.name c.name) earlier) _ (Ok c) (λ x. IsIn x columns) tt (all c refl)

named_in : (columns earlier : List Described) (field : List ℕ) → IfOk (named columns earlier field) (λ c. IsIn c columns)
unfolding named
named_in columns earlier field =
    either_read (is_utf8 field) _ _ (λ c. IsIn c columns) (fresh_in columns earlier (column_named field columns)
    (found_in field columns)) tt

with_one : (columns : List Described) (c : Described) (cs : List Described) → IsIn c columns → AreIn columns cs → AreIn columns (c ∷ cs)
with_one columns c cs first rest h (inl is) = subst (λ (d : Described). IsIn d columns) (sym is) first
with_one columns c cs first rest h (inr i) = rest h i

header_in : (columns earlier : List Described) (fields : List (List ℕ)) → IfOk (named_each columns earlier fields) (AreIn columns)
unfolding named_each
header_in columns earlier [] = λ h i. elim i [ ]
header_in columns earlier (f ∷ fs) =
    then_read (named columns earlier f) (λ c. named_each columns (earlier ++ c ∷ []) fs >>= λ cs. Ok (c ∷ cs))
    (λ c. IsIn c columns) (AreIn columns) (named_in columns earlier f)
    (λ c first. then_read (named_each columns (earlier ++ c ∷ []) fs) (λ cs. Ok (c ∷ cs)) (AreIn columns) (AreIn columns)
    (header_in columns (earlier ++ c ∷ []) fs)
    (λ cs rest. with_one columns c cs first rest))

-- a row in the order of the table's columns

-- each column of the header that has the name has the kind
abbrev Agrees : Described → List Described → Type 0
Agrees c header = (h : Described) → IsIn h header → bytes_eq h.name c.name ≡ true → h.kind ≡ c.kind

at_field : (c : Described) (header : List Described) (cells : List Meaning) → Agrees c header → Under header cells
    → OfKind c.kind (get_or cells (position_or_len (λ other. bytes_eq other.name c.name) header) Null)
at_field c [] [] a u = null_of c.kind
at_field c [] (m ∷ ms) a u = absurd (true≢false (sym u))
at_field c (h ∷ hs) [] a u = null_of c.kind
at_field c (h ∷ hs) (m ∷ ms) a u =
    let p = under_parts (is_of (kind_type h.kind) m) (are_under hs ms) u in
    go (bytes_eq h.name c.name) (a h (inl refl)) p.0 (at_field c hs ms (λ g i. a g (inr i)) p.1)
  where
    rest : ℕ
    rest = position_or_len (λ other. bytes_eq other.name c.name) hs

    go : (b : Bool) → (b ≡ true → h.kind ≡ c.kind) → OfKind h.kind m
        → OfKind c.kind (get_or ms (position_or_len (λ other. bytes_eq other.name c.name) hs) Null)
        → OfKind c.kind (get_or (m ∷ ms) (cond (not b) (1 + position_or_len (λ other. bytes_eq other.name c.name) hs) 0) Null)
    go true same first others = ap (λ (k : Kind). is_of (kind_type k) m) (sym (same refl)) ∙ first
    go false same first others = ap (λ (n : ℕ). is_of (kind_type c.kind) (get_or (m ∷ ms) n Null))
        (one-add (position_or_len (λ other. bytes_eq other.name c.name) hs)) ∙ others

cell_in_order : (c : Described) (header : List Described) (cells : List Meaning) → Agrees c header → Under header cells
    → OfKind c.kind (cell_at cells (field_of header c))
cell_in_order c header cells a u = go (nat_lt (position_or_len (λ other. bytes_eq other.name c.name) header) (length header))
  where
    go : (b : Bool) → OfKind c.kind (cell_at cells (cond b (Some (position_or_len (λ other. bytes_eq other.name c.name) header)) None))
    go true = at_field c header cells a u
    go false = null_of c.kind

abbrev table_types : List Described → List DataType
table_types cs = types_of (declared_columns cs)

row_in_order : (cs header : List Described) (cells : List Meaning) → ((c : Described) → IsIn c cs → Agrees c header) → Under header cells
    → are_of (table_types cs) (in_table_order cs header cells) ≡ true
row_in_order [] header cells a u = refl
row_in_order (c ∷ cs) header cells a u =
    and_from _ _ (cell_in_order c header cells (a c (inl refl)) u)
    (row_in_order cs header cells (λ d i. a d (inr i)) u)

-- segments

abbrev AllOf : Declaration → List (List Meaning) → Type 0
AllOf d rows = all_of (table_types d.columns) rows ≡ true

below_typed : (d : Declaration) (below : List (List (List ℕ))) (header : List Described) → repeats_name d.columns ≡ false
    → AreIn d.columns header
    → IfOk (rows_under d below header) (AllOf d)
unfolding rows_under
below_typed d below header e a =
    either_read (is_complete d.columns header) _ _ (AllOf d)
    (then_read (rows_from (kinds_of header) 1 below) (λ rows. Ok (map (in_table_order d.columns header) rows))
    (AllUnder header) (AllOf d) (rows_typed header 1 below)
    (λ rows u. mapped_all (are_under header) (are_of (table_types d.columns)) (in_table_order d.columns header) rows
    (λ cells under. row_in_order d.columns header cells (λ c i h j same. one_kind d.columns c h e i (a h j) same) under) u)) tt

records_typed : (d : Declaration) (rs : List (List (List ℕ))) → repeats_name d.columns ≡ false → IfOk (rows_of_records d rs) (AllOf d)
unfolding rows_of_records
records_typed d [] e = tt
records_typed d (header ∷ below) e =
    then_read (named_each d.columns [] header) (rows_under d below) (AreIn d.columns) (AllOf d)
    (header_in d.columns [] header) (λ h a. below_typed d below h e a)

segment_typed : (d : Declaration) (bytes : List ℕ) → repeats_name d.columns ≡ false → IfOk (rows_of d bytes) (AllOf d)
unfolding rows_of
segment_typed d bytes e =
    either_read (nat_lt 67108864 (length bytes)) _ _ (AllOf d) tt (records_typed d (records default_config (strip_bom bytes)) e)

-- the table

or_none : (d : Declaration) (r : Result (List (List Meaning)) SegmentFault) → IfOk r (AllOf d) → AllOf d (rows_or_none r)
or_none d (Ok rows) a = a
or_none d (Err fault) a = refl

abbrev is_row : Declaration → TableRow → Bool
is_row d row = are_of (table_types d.columns) row.cells

counted : (d : Declaration) (n : ℕ) (rows : List (List Meaning)) → AllOf d rows
    → list_all (λ (r : ℕ × List Meaning). are_of (table_types d.columns) r.1) (enumerate_from n rows) ≡ true
counted d n [] a = refl
counted d n (row ∷ rows) a =
    let h = and_parts _ _ a in
    and_from _ _ h.0 (counted d (n + 1) rows h.1)

live_typed : (d : Declaration) (s : NameParts × List ℕ) → repeats_name d.columns ≡ false → list_all (is_row d) (segment_rows d s) ≡ true
live_typed d s e =
    mapped_all (λ (r : ℕ × List Meaning). are_of (table_types d.columns) r.1) (is_row d)
    (λ (r : ℕ × List Meaning). record { name = s.0; place = r.0; cells = r.1 })
    (enumerate_from 0 (content_rows d s.1)) (λ r h. h)
    (counted d 0 (content_rows d s.1) (or_none d (rows_of d s.1) (segment_typed d s.1 e)))

pub table_typed : (d : Declaration) (v : View) → repeats_name d.columns ≡ false → AllOf d (rows_of_view d v)
table_typed d v e =
    mapped_all (is_row d) (are_of (table_types d.columns)) (λ (row : TableRow). row.cells) (table_of d v) (λ row h. h)
    (each_flat (is_row d) (segment_rows d) (lives v) (λ s. live_typed d s e))
