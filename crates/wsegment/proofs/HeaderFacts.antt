-- The fields of a header, by what was found out about them.
use Rattle.std.proofs.Common.{◌≡◌, ◌∙◌, ◌++◌, ◌<◌, Bool, true, false, cond, inl, inr, ℕ, zero, suc, List, [], ◌∷◌, Option}
use Rattle.std.proofs.Common.{Some, None, Result, Ok, Err, refl, sym, ap, map, drop, get_or, length, arith, append_assoc}
use Rattle.std.proofs.lemmas.List.{append-nil, length-map, map-append}
use Rattle.std.proofs.lemmas.Str.{IsUtf8-from_is_utf8, is_utf8-from_IsUtf8}
use Rattle.std.specs.Borrow.{Bor}
use Rattle.std.specs.List.{list_any}
use Rattle.std.specs.Str.{IsUtf8, bytes_eq, is_utf8}
use Rattle.std.specs.Prelude.{slice_index_or}
use Rattle.wvalues.specs.Meaning.{Meaning, Null}
use Rattle.wsegment.specs.Declaration.{Described}
use Rattle.wsegment.specs.Header.{cell_at, column_named, field_of, fresh, in_table_order, is_complete, kinds_of, named, named_each}
use Rattle.wsegment.specs.Kept.{cells_at}
use Rattle.wsegment.specs.Outcome.{Fails}
use Rattle.wsegment.specs.declared.fault.SegmentFault.{SegmentFault}
use Rattle.wsegment.specs.declared.fault.SegmentFault.TheVariants as faults
use Rattle.wsegment.proofs.Fronts.{regroup, with_front}
use Rattle.wsegment.proofs.ListFacts.{list_any-map}

pub named-no_text : (columns earlier : List Described) (field : List ℕ) → (IsUtf8 field → ⊥)
    → named columns earlier field ≡ Err faults.HeaderNotUtf8
unfolding named
named-no_text columns earlier field refused = by (is_utf8 field) refl
  where
    by : (b : Bool) → is_utf8 field ≡ b → named columns earlier field ≡ Err faults.HeaderNotUtf8
    by true e = absurd (refused (IsUtf8-from_is_utf8 field e))
    by false e = rw e refl

pub named-text : (columns earlier : List Described) (field text : List ℕ) (column : Option Described) → text ≡ field
    → IsUtf8 field → column ≡ column_named text columns → named columns earlier field ≡ fresh earlier column
unfolding named
named-text columns earlier field text column same utf8 e = rw (is_utf8-from_IsUtf8 field utf8, ← same, ← e) refl

-- whether an earlier field names the column of this one
pub taken : (earlier : List (Bor Described)) (column : Described) (name : List ℕ) (found b : Bool) → name ≡ column.name
    → found ≡ list_any (λ other. bytes_eq other.now.name name) earlier → found ≡ b
    → fresh (map (λ other. other.now) earlier) (Some column) ≡ cond b (Err faults.RepeatedColumn) (Ok column)
taken earlier column name found b same e is =
    let one : list_any (λ (other : Described). bytes_eq other.name column.name) (map (λ other. other.now) earlier) ≡ b =
    list_any-map (λ (other : Described). bytes_eq other.name column.name) (λ other. other.now) earlier
    ∙ ap (λ n. list_any (λ (other : Bor Described). bytes_eq other.now.name n) earlier) (sym same) ∙ sym e ∙ is in
    rw one refl

-- one more field
pub columns-go : (columns seen : List Described) (fs rest : List (List ℕ)) (f : List ℕ) (c : Described)
    (total : Result (List Described) SegmentFault)
    → fs ≡ f ∷ rest → named columns seen f ≡ Ok c → with_front seen (named_each columns seen fs) ≡ total
    → with_front (seen ++ c ∷ []) (named_each columns (seen ++ c ∷ []) rest) ≡ total
unfolding named_each
columns-go columns seen fs rest f c total e ec so_far =
    let one : with_front seen (named_each columns seen fs) ≡ with_front (seen ++ c ∷ [])
    (named_each columns (seen ++ c ∷ []) rest) = rw (e, ec) (regroup seen c (named_each columns (seen ++ c ∷ []) rest)) in
    sym one ∙ so_far

-- a field's fault is the header's
pub columns-stop : (fault : SegmentFault) (columns seen : List Described) (fs rest : List (List ℕ)) (f : List ℕ)
    (total : Result (List Described) SegmentFault)
    → fs ≡ f ∷ rest → Fails fault (named columns seen f) → with_front seen (named_each columns seen fs) ≡ total → Fails fault total
unfolding named_each
columns-stop fault columns seen fs rest f total e (inl memory) so_far = inl memory
columns-stop fault columns seen fs rest f total e (inr failed) so_far =
    let one : with_front seen (named_each columns seen fs) ≡ Err fault = rw (e, failed) refl in
    inr (sym so_far ∙ one)

pub columns-all : (columns seen : List Described) (fs : List (List ℕ)) (total : Result (List Described) SegmentFault)
    → fs ≡ [] → with_front seen (named_each columns seen fs) ≡ total → total ≡ Ok seen
unfolding named_each
columns-all columns seen fs total e so_far =
    let one : with_front seen (named_each columns seen fs) ≡ Ok seen = rw e (ap (λ (cs : List Described). Ok cs) (append-nil seen)) in
    sym so_far ∙ one

-- one more column with a field, and one without
pub fields-go : (header left rest : List Described) (fields : List ℕ) (c : Described) (field : ℕ) (total : List (Option ℕ))
    → left ≡ c ∷ rest → Some field ≡ field_of header c → map Some fields ++ map (field_of header) left ≡ total
    → map Some (fields ++ field ∷ []) ++ map (field_of header) rest ≡ total
fields-go header left rest fields c field total e found so_far =
    let one : map Some (fields ++ field ∷ []) ++ map (field_of header) rest ≡ map Some fields ++ map (field_of header)
    left = rw (map-append, append_assoc, e, ← found) refl in
    one ∙ so_far

pub complete-go : (header left rest : List Described) (c : Described) (field : ℕ) → left ≡ c ∷ rest
    → Some field ≡ field_of header c → is_complete left header ≡ is_complete rest header
complete-go header left rest c field e found = rw (e, ← found) refl

pub complete-stop : (header left rest : List Described) (c : Described) → left ≡ c ∷ rest → None ≡ field_of header c
    → is_complete left header ≡ false
complete-stop header left rest c e none = rw (e, ← none) refl

-- the kind of a field's column, in front of those behind it
pub kind-drop : (header : List (Bor Described)) (i : ℕ) (column : Bor Described) → i < length header → column ≡ get_or header i column
    → drop i (kinds_of (map (λ c. c.now) header)) ≡ column.now.kind ∷ drop (suc i) (kinds_of (map (λ c. c.now) header))
kind-drop [] i column lt is = absurd (omega arith)
kind-drop (h ∷ hs) zero column lt is = ap (λ (c : Bor Described). c.now.kind ∷ kinds_of (map (λ c. c.now) hs)) (sym is)
kind-drop (h ∷ hs) (suc i) column lt is = kind-drop hs i column (omega arith) is

pub kinds-long : (header : List (Bor Described)) → length (kinds_of (map (λ c. c.now) header)) ≡ length header
kinds-long header = length-map _ _ ∙ length-map _ _

-- cells by column and cells by field
fields-cells : (fields : List ℕ) (cells : List Meaning) → map (cell_at cells) (map Some fields) ≡ cells_at fields cells
fields-cells [] cells = refl
fields-cells (f ∷ fs) cells = ap (λ rest. slice_index_or cells f Null ∷ rest) (fields-cells fs cells)

columns-cells : (header columns : List Described) (cells : List Meaning)
    → map (cell_at cells) (map (field_of header) columns) ≡ in_table_order columns header cells
columns-cells header [] cells = refl
columns-cells header (c ∷ cs) cells = ap (λ rest. cell_at cells (field_of header c) ∷ rest) (columns-cells header cs cells)

pub in-order : (header columns : List Described) (fields : List ℕ) (rows : List (List Meaning))
    → map Some fields ≡ map (field_of header) columns → map (in_table_order columns header) rows ≡ map (cells_at fields) rows
in-order header columns fields [] e = refl
in-order header columns fields (cells ∷ rows) e =
    let row : in_table_order columns header cells ≡ cells_at fields cells = sym (columns-cells header columns cells)
    ∙ ap (map (cell_at cells)) (sym e) ∙ fields-cells fields cells in
    rw (row, in-order header columns fields rows e) refl

pub fields-long : (header columns : List Described) (fields : List ℕ) → map Some fields ≡ map (field_of header) columns
    → length fields ≡ length columns
fields-long header columns fields e = sym (length-map fields (λ f. Some f)) ∙ ap length e ∙ length-map columns (field_of header)
