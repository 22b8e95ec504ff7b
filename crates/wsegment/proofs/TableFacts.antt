-- What is known of a segment that has rows.
use Rattle.std.proofs.Common.{◌≡◌, ◌≢◌, ◌∙◌, ◌++◌, ◌||◌, ◌==◌, ◌+◌, ◌<◌, ◌≤◌, Bool, true, false, true≢false, cond, subst, ℕ, zero}
use Rattle.std.proofs.Common.{suc, List, [], ◌∷◌, get_or, length, map, Option, Some, None, Result, Ok, Err, refl, sym, ap, arith}
use Rattle.std.proofs.lemmas.Bool.{eqb-true}
use Rattle.std.proofs.lemmas.Bool.Decides.{nat_tests}
use Rattle.std.proofs.lemmas.List.{get_or-map, length-map, map-append}
use Rattle.std.proofs.lemmas.List.Folds.{list_any-append}
use Rattle.std.proofs.lemmas.List.Quantifiers.{position-Some}
use Rattle.std.proofs.lemmas.Slice.Eq.{bytes_eq-Decides}
use Rattle.std.specs.List.{AllByRecursion, find, list_all, list_any, position}
use Rattle.std.specs.Option.{is_some}
use Rattle.std.specs.Prelude.{nat_lt}
use Rattle.std.specs.Str.{bytes_eq, is_utf8}
use Rattle.csv.specs.Reading.{default_config, records, strip_bom}
use Rattle.wvalues.specs.Meaning.{Meaning, Null}
use Rattle.wsegment.specs.Cells.{cell_of, cells_of, row_of, rows_from}
use Rattle.wsegment.specs.Declaration.{Declaration, Described, place_of}
use Rattle.wsegment.specs.Header.{cell_at, column_named, field_of, fresh, in_table_order, is_complete, kinds_of, named, named_each}
use Rattle.wsegment.specs.Outcome.{◌>>=◌}
use Rattle.wsegment.specs.Rows.{cell, rows_of, rows_of_records, rows_under}
use Rattle.wsegment.specs.Table.{IsTable}
use Rattle.wsegment.specs.declared.kind.Kind.{Kind}
use Rattle.wsegment.specs.declared.kind.Kind.TheVariants as kinds
use Rattle.wsegment.specs.declared.fault.SegmentFault.{SegmentFault}
use Rattle.wsegment.specs.declared.fault.SegmentFault.TheVariants as faults
use Rattle.wsegment.proofs.ListFacts.{list_any-map, position-map}

next-ok : {A B : Type 0} (read : Result A SegmentFault) (f : A → Result B SegmentFault) (y : B) → (read >>= f) ≡ Ok y
    → (x : A) × (read ≡ Ok x) × (f x ≡ Ok y)
next-ok (Ok x) f y e = (x, refl, e)
next-ok (Err fault) f y e = cc e

if-ok : {A : Type 0} (b : Bool) (x : Result A SegmentFault) (fault : SegmentFault) (y : A) → cond b x (Err fault) ≡ Ok y
    → (b ≡ true) × (x ≡ Ok y)
if-ok true x fault y e = (refl, e)
if-ok false x fault y e = cc e

else-ok : {A : Type 0} (b : Bool) (x : Result A SegmentFault) (fault : SegmentFault) (y : A) → cond b (Err fault) x ≡ Ok y
    → (b ≡ false) × (x ≡ Ok y)
else-ok true x fault y e = cc e
else-ok false x fault y e = (refl, e)

abbrev ok : {A : Type 0} → A → Result A SegmentFault
ok x = Ok x

same-ok : {A : Type 0} (x y : A) → ok x ≡ ok y → x ≡ y
same-ok x y e = cc e

find-passes : {A : Type 0} (p : A → Bool) (xs : List A) (x : A) → find p xs ≡ Some x → p x ≡ true
find-passes p [] x e = cc e
find-passes {A} p (y ∷ ys) x e = by (p y) refl e (find-passes p ys x)
  where
    by : (b : Bool) → p y ≡ b → cond b (Some y) (find p ys) ≡ Some x → (find p ys ≡ Some x → p x ≡ true) → p x ≡ true
    by true is e later = let same : y ≡ x = cc e in ap p (sym same) ∙ is
    by false is e later = later e

fresh-ok : (earlier : List Described) (column : Option Described) (c : Described) → fresh earlier column ≡ Ok c → column ≡ Some c
fresh-ok earlier None c e = cc e
fresh-ok earlier (Some x) c e = let same =
    same-ok x c (else-ok (list_any (λ other. bytes_eq other.name x.name) earlier) (Ok x) faults.RepeatedColumn c e).1 in
    ap (λ (c : Described). Some c) same

named-ok : (columns earlier : List Described) (field : List ℕ) (c : Described) → named columns earlier field ≡ Ok c
    → column_named field columns ≡ Some c
unfolding named
named-ok columns earlier field c e = fresh-ok earlier (column_named field columns) c
    (if-ok (is_utf8 field) (fresh earlier (column_named field columns)) faults.HeaderNotUtf8 c e).1

-- the header's words are the names of the columns, and each column is the one of its name
abbrev Names : List Described → List Described → List (List ℕ) → Type 0
Names columns found words = (map (λ c. c.name) found ≡ words) × AllByRecursion (λ c. column_named c.name columns ≡ Some c) found

name-found : (columns : List Described) (name : List ℕ) (c : Described) → column_named name columns ≡ Some c → c.name ≡ name
name-found columns name c e = (bytes_eq-Decides c.name name).0 (find-passes (λ (c : Described). bytes_eq c.name name) columns c e)

header-ok : (columns earlier : List Described) (words : List (List ℕ)) (found : List Described)
    → named_each columns earlier words ≡ Ok found → Names columns found words
unfolding named_each
header-ok columns earlier [] found e = rw (← same-ok [] found e) (refl, tt)
header-ok columns earlier (w ∷ ws) found e =
    let one = next-ok (named columns earlier w) (λ c. named_each columns (earlier ++ c ∷ []) ws >>= λ cs. Ok (c ∷ cs)) found e in
    let c = one.0 in
    let rest = next-ok (named_each columns (earlier ++ c ∷ []) ws) (λ cs. Ok (c ∷ cs)) found one.2 in
    let cs = rest.0 in
    let is = named-ok columns earlier w c one.1 in
    let name : c.name ≡ w = name-found columns w c is in
    let after = header-ok columns (earlier ++ c ∷ []) ws cs rest.1 in
    rw (← same-ok (c ∷ cs) found rest.2) (
      ap (λ (n : List ℕ). n ∷ map (λ c. c.name) cs) name
          ∙ ap (λ (ns : List (List ℕ)). w ∷ ns) after.0,
      (ap (λ n. column_named n columns) name ∙ is, after.1),
    )

-- no word is the name of an earlier field
abbrev AreNew : List (List ℕ) → List (List ℕ) → Type 0
AreNew earlier [] = Unit {0}
AreNew earlier (w ∷ ws) = (list_any (λ n. bytes_eq n w) earlier ≡ false) × AreNew (earlier ++ w ∷ []) ws

fresh-new : (earlier : List Described) (column : Option Described) (c : Described) → fresh earlier column ≡ Ok c
    → list_any (λ other. bytes_eq other.name c.name) earlier ≡ false
fresh-new earlier None c e = cc e
fresh-new earlier (Some x) c e =
    let h = else-ok (list_any (λ other. bytes_eq other.name x.name) earlier) (Ok x) faults.RepeatedColumn c e in
    ap (λ (c : Described). list_any (λ other. bytes_eq other.name c.name) earlier) (sym (same-ok x c h.1)) ∙ h.0

named-new : (columns earlier : List Described) (field : List ℕ) (c : Described) → named columns earlier field ≡ Ok c
    → list_any (λ other. bytes_eq other.name c.name) earlier ≡ false
unfolding named
named-new columns earlier field c e = fresh-new earlier (column_named field columns) c
    (if-ok (is_utf8 field) (fresh earlier (column_named field columns)) faults.HeaderNotUtf8 c e).1

header-new : (columns earlier : List Described) (words : List (List ℕ)) (found : List Described)
    → named_each columns earlier words ≡ Ok found → AreNew (map (λ c. c.name) earlier) words
    × (list_all (λ word. is_some (column_named word columns)) words ≡ true)
unfolding named_each
header-new columns earlier [] found e = (tt, refl)
header-new columns earlier (w ∷ ws) found e =
    let one = next-ok (named columns earlier w) (λ c. named_each columns (earlier ++ c ∷ []) ws >>= λ cs. Ok (c ∷ cs)) found e in
    let c = one.0 in
    let rest = next-ok (named_each columns (earlier ++ c ∷ []) ws) (λ cs. Ok (c ∷ cs)) found one.2 in
    let is = named-ok columns earlier w c one.1 in
    let name : c.name ≡ w = name-found columns w c is in
    let after = header-new columns (earlier ++ c ∷ []) ws rest.0 rest.1 in
    let names : map (λ (c : Described). c.name) (earlier ++ c ∷ []) ≡ map (λ (c : Described). c.name) earlier ++ w ∷ []
    = map-append (λ (c : Described). c.name) earlier (c ∷ []) ∙ ap (λ (n : List ℕ). map (λ (c : Described). c.name) earlier
    ++ n ∷ []) name in
    let none : list_any (λ n. bytes_eq n w) (map (λ (c : Described). c.name) earlier) ≡ false
    = list_any-map (λ n. bytes_eq n w) (λ (c : Described). c.name) earlier
    ∙ ap (λ n. list_any (λ (other : Described). bytes_eq other.name n) earlier) (sym name) ∙ named-new columns earlier w c one.1 in
    ((none, subst (λ ns. AreNew ns ws) names after.0), rw is after.1)

or-false : (a b : Bool) → (a || (b || false)) ≡ false → (a ≡ false) × (b ≡ false)
or-false true b e = cc e
or-false false true e = cc e
or-false false false e = (refl, refl)

later-new : (earlier ws : List (List ℕ)) (j : ℕ) → AreNew earlier ws → j < length ws
    → list_any (λ n. bytes_eq n (get_or ws j [])) earlier ≡ false
later-new earlier [] j h lt = absurd (omega arith)
later-new earlier (w ∷ ws) zero h lt = h.0
later-new earlier (w ∷ ws) (suc j) h lt =
    let p = λ (n : List ℕ). bytes_eq n (get_or ws j []) in
    (or-false (list_any p earlier) (p w) (sym (list_any-append p earlier (w ∷ [])) ∙ later-new (earlier ++ w ∷ []) ws j h.1
    (omega (arith, lt)))).0

words-apart : (earlier ws : List (List ℕ)) → AreNew earlier ws → (i j : ℕ) → i < j → j < length ws → get_or ws i [] ≢ get_or ws j []
words-apart earlier [] h i j below lt = absurd (omega (arith, lt))
words-apart earlier (w ∷ ws) h i zero below lt = absurd (omega (arith, below))
words-apart earlier (w ∷ ws) h zero (suc j) below lt =
    let p = λ (n : List ℕ). bytes_eq n (get_or ws j []) in
    let none = (or-false (list_any p earlier) (p w) (sym (list_any-append p earlier (w ∷ []))
    ∙ later-new (earlier ++ w ∷ []) ws j h.1 (omega (arith, lt)))).1 in
    λ same. true≢false (sym ((bytes_eq-Decides w (get_or ws j [])).1 same) ∙ none)
words-apart earlier (w ∷ ws) h (suc i) (suc j) below lt = words-apart (earlier ++ w ∷ []) ws h.1 i j (omega (arith, below))
    (omega (arith, lt))

row-ok : (row : ℕ) (ks : List Kind) (fs : List (List ℕ)) (xs : List Meaning) → row_of row ks fs ≡ Ok xs
    → (length fs ≡ length ks) × (cells_of row ks fs ≡ Ok xs)
unfolding row_of
row-ok row ks fs xs e = let h = if-ok (length fs == length ks) (cells_of row ks fs) (faults.RowLength row) xs e in
    (eqb-true (length fs) (length ks) h.0, h.1)

cells-ok : (row : ℕ) (ks : List Kind) (fs : List (List ℕ)) (xs : List Meaning) (field : ℕ) → cells_of row ks fs ≡ Ok xs
    → length fs ≡ length ks → field < length ks → cell_of row (get_or ks field kinds.Integer) (get_or fs field [])
    ≡ Ok (get_or xs field Null)
unfolding cells_of
cells-ok row [] fs xs field e long lt = absurd (omega arith)
cells-ok row (k ∷ ks) [] xs field e long lt = absurd (omega (arith, long))
cells-ok row (k ∷ ks) (f ∷ fs) xs field e long lt =
    let one = next-ok (cell_of row k f) (λ x. cells_of row ks fs >>= λ xs. Ok (x ∷ xs)) xs e in
    let rest = next-ok (cells_of row ks fs) (λ xs. Ok (one.0 ∷ xs)) xs one.2 in
    rw (← same-ok (one.0 ∷ rest.0) xs rest.2) (by one.0 rest.0 field one.1 (λ i h. cells-ok row ks fs rest.0 i rest.1
    (omega (arith, long)) h) lt)
  where
    by : (x : Meaning) (rest : List Meaning) (field : ℕ) → cell_of row k f ≡ Ok x
        → ((i : ℕ) → i < length ks → cell_of row (get_or ks i kinds.Integer) (get_or fs i []) ≡ Ok (get_or rest i Null))
        → field < length (k ∷ ks)
        → cell_of row (get_or (k ∷ ks) field kinds.Integer) (get_or (f ∷ fs) field []) ≡ Ok (get_or (x ∷ rest) field Null)
    by x rest zero ex er lt = ex
    by x rest (suc field) ex er lt = er field (omega (arith, lt))

-- each record is a row, and there are not too many
pub record AreRows (ks : List Kind) (n : ℕ) (below : List (List (List ℕ))) (rows : List (List Meaning)) : Type 0 where
  pub count : length rows ≡ length below
  pub few : 0 < length rows → n + length rows ≤ 1000001
  pub each : (i : ℕ) → i < length rows → row_of (n + i) ks (get_or below i []) ≡ Ok (get_or rows i [])

rows-ok : (ks : List Kind) (n : ℕ) (below : List (List (List ℕ))) (rows : List (List Meaning))
    → rows_from ks n below ≡ Ok rows → AreRows ks n below rows
unfolding rows_from
rows-ok ks n [] rows e = rw (← same-ok [] rows e) (record {
  count = refl;
  few = λ h. absurd (omega (arith, h));
  each =
      λ i h. absurd (omega (arith, h));
})
rows-ok ks n (r ∷ rs) rows e =
    let within = else-ok (nat_lt 1000000 n) (row_of n ks r >>= λ x. rows_from ks (n + 1) rs >>= λ xs. Ok (x ∷ xs))
    faults.TooManyRows rows e in
    let one = next-ok (row_of n ks r) (λ x. rows_from ks (n + 1) rs >>= λ xs. Ok (x ∷ xs)) rows within.1 in
    let rest = next-ok (rows_from ks (n + 1) rs) (λ xs. Ok (one.0 ∷ xs)) rows one.2 in
    let after = rows-ok ks (n + 1) rs rest.0 rest.1 in
    let tested = within.0 in
    let low : n ≤ 1000000 = grind (arith, nat_tests, tested) in
    rw (← same-ok (one.0 ∷ rest.0) rows rest.2) (record {
      count = ap suc after.count;
      few = λ h. few rest.0 low after.few;
      each = each one.0 rest.0 one.1 after.each;
    })
  where
    few : (xs : List (List Meaning)) → n ≤ 1000000 → (0 < length xs → (n + 1) + length xs ≤ 1000001) → n + suc (length xs) ≤ 1000001
    few [] low h = omega arith
    few (x ∷ xs) low h = let k = h (omega arith) in omega (arith, k)

    each : (x : List Meaning) (xs : List (List Meaning)) → row_of n ks r ≡ Ok x
        → ((i : ℕ) → i < length xs → row_of ((n + 1) + i) ks (get_or rs i []) ≡ Ok (get_or xs i [])) → (i : ℕ) → i < length (x ∷ xs)
        → row_of (n + i) ks (get_or (r ∷ rs) i []) ≡ Ok (get_or (x ∷ xs) i [])
    each x xs ex exs zero lt = let e : n + 0 ≡ n = omega arith in rw e ex
    each x xs ex exs (suc i) lt = let e : n + suc i ≡ (n + 1) + i = omega arith in rw e (exs i (omega (arith, lt)))

few-of : (n : ℕ) → (0 < n → 1 + n ≤ 1000001) → n ≤ 1000000
few-of zero h = omega arith
few-of (suc n) h = let k = h (omega arith) in omega (arith, k)

at-all : {A : Type 0} (P : A → Type 0) (xs : List A) (i : ℕ) (d : A) → AllByRecursion P xs → i < length xs → P (get_or xs i d)
at-all P [] i d all lt = absurd (omega arith)
at-all P (x ∷ xs) zero d all lt = all.0
at-all P (x ∷ xs) (suc i) d all lt = at-all P xs i d all.1 (omega (arith, lt))

complete-words : (found columns : List Described)
    → is_complete columns found ≡ list_all (λ c. is_some (position (λ word. bytes_eq word c.name) (map (λ c. c.name) found))) columns
complete-words found [] = refl
complete-words found (c ∷ cs) = rw (
  position-map (λ word. bytes_eq word c.name) (λ (c : Described). c.name) found,
  complete-words found cs,
) refl

-- the column that a name's field names is that of the name
field-column : (d : Declaration) (header : List (List ℕ)) (found : List Described) (name : List ℕ) (c : Described)
    (field : ℕ) → Names d.columns found header → column_named name d.columns ≡ Some c
    → position (λ word. bytes_eq word name) header ≡ Some field
    → (position (λ other. bytes_eq other.name name) found ≡ Some field) × (field < length found) × (get_or found field c ≡ c)
field-column d header found name c field names is at =
    let here : position (λ (other : Described). bytes_eq other.name name) found ≡ Some field =
    sym (position-map (λ word. bytes_eq word name) (λ (c : Described). c.name) found)
    ∙ ap (position (λ word. bytes_eq word name)) names.0 ∙ at in
    let first = position-Some (λ (other : Described). bytes_eq other.name name) found field c here in
    let its_name : (get_or found field c).name ≡ name = (bytes_eq-Decides (get_or found field c).name name).0 first.1 in
    let its_column : column_named (get_or found field c).name d.columns ≡ Some (get_or found field c) =
    at-all (λ c. column_named c.name d.columns ≡ Some c) found field c names.1 first.0 in
    let both : Some (get_or found field c) ≡ Some c = sym its_column ∙ ap (λ n. column_named n d.columns) its_name ∙ is in
    (here, first.0, cc both)

ordered-cell : (d : Declaration) (found : List Described) (raw : List (List Meaning)) (name : List ℕ) (c : Described)
    (row column field : ℕ) → row < length raw → place_of name d.columns ≡ Some column
    → position (λ other. bytes_eq other.name name) found ≡ Some field
    → cell (map (in_table_order d.columns found) raw) row column ≡ get_or (get_or raw row []) field Null
ordered-cell d found raw name c row column field lt placed here =
    let cells = get_or raw row [] in
    let first = position-Some (λ (c : Described). bytes_eq c.name name) d.columns column c placed in
    let its_name : (get_or d.columns column c).name ≡ name = (bytes_eq-Decides (get_or d.columns column c).name name).0 first.1 in
    let its_field : field_of found (get_or d.columns column c) ≡ Some field =
    ap (λ n. position (λ (other : Described). bytes_eq other.name n) found) its_name ∙ here in
    ap (λ cells. get_or cells column Null) (get_or-map (in_table_order d.columns found) raw row [] [] lt)
    ∙ get_or-map (λ c. cell_at cells (field_of found c)) d.columns column c Null first.0
    ∙ ap (cell_at cells) its_field

assemble : (d : Declaration) (bytes : List ℕ) (header : List (List ℕ)) (below : List (List (List ℕ)))
    (found : List Described) (raw : List (List Meaning)) → length bytes ≤ 67108864
    → named_each d.columns [] header ≡ Ok found → records default_config (strip_bom bytes) ≡ header ∷ below
    → Names d.columns found header
    → is_complete d.columns found ≡ true → AreRows (kinds_of found) 1 below raw → IsTable d bytes (map (in_table_order d.columns found) raw)
assemble d bytes header below found raw short named split names complete all =
    let long : length (map (in_table_order d.columns found) raw) ≡ length raw = length-map raw (in_table_order d.columns found) in
    let wide : length (kinds_of found) ≡ length found = length-map found (λ c. c.kind) in
    let new = header-new d.columns [] header found named in
    let words : length found ≡ length header = sym (length-map found (λ (c : Described). c.name)) ∙ ap length names.0 in
    record {
      short = short;
      header = header;
      below = below;
      split = split;
      count = long ∙ all.count;
      few = rw long (few-of (length raw) all.few);
      known = new.1;
      distinct = words-apart [] header new.0;
      complete = rw (← names.0) (sym (complete-words found d.columns) ∙ complete);
      widths = λ row lt. (row-ok (1 + row) (kinds_of found) (get_or below row []) (get_or raw row [])
          (all.each row (rw long at lt))).0 ∙ wide ∙ words;
      values = λ name c row column field lt is placed at.
          let in_raw : row < length raw = rw long at lt in
          let f = field-column d header found name c field names is at in
          let one = row-ok (1 + row) (kinds_of found) (get_or below row []) (get_or raw row []) (all.each row in_raw) in
          let in_kinds : field < length (kinds_of found) = rw wide f.1 in
          let said = cells-ok (1 + row) (kinds_of found) (get_or below row []) (get_or raw row []) field one.1 one.0 in_kinds in
          let kind : get_or (kinds_of found) field kinds.Integer ≡ c.kind =
          get_or-map (λ (c : Described). c.kind) found field c kinds.Integer f.1 ∙ ap (λ (c : Described). c.kind) f.2 in
          let number : row + 1 ≡ 1 + row = omega arith in
          rw (number, ← kind, ordered-cell d found raw name c row column field in_raw placed f.0) said;
    }

pub table : (d : Declaration) (bytes : List ℕ) (rows : List (List Meaning)) → rows_of d bytes ≡ Ok rows → IsTable d bytes rows
unfolding rows_of rows_of_records rows_under
table d bytes rows e =
    let within = else-ok (nat_lt 67108864 (length bytes)) (rows_of_records d (records default_config (strip_bom bytes)))
    faults.TooLong rows e in
    let tested = within.0 in
    let short : length bytes ≤ 67108864 = grind (arith, nat_tests, tested) in
    by short (records default_config (strip_bom bytes)) refl within.1
  where
    by : length bytes ≤ 67108864 → (all : List (List (List ℕ))) → records default_config (strip_bom bytes) ≡ all
        → rows_of_records d all ≡ Ok rows → IsTable d bytes rows
    by short [] split e = cc e
    by short (header ∷ below) split e =
        let one = next-ok (named_each d.columns [] header) (rows_under d below) rows e in
        let found = one.0 in
        let order = in_table_order d.columns found in
        let under = if-ok (is_complete d.columns found) (rows_from (kinds_of found) 1 below >>= λ rows. Ok (map order rows))
        faults.MissingColumn rows one.2 in
        let raw = next-ok (rows_from (kinds_of found) 1 below) (λ rows. Ok (map order rows)) rows under.1 in
        rw (← same-ok (map order raw.0) rows raw.2) (assemble d bytes header below found raw.0 short one.1 split
        (header-ok d.columns [] header found one.1) under.0 (rows-ok (kinds_of found) 1 below raw.0 raw.1))
