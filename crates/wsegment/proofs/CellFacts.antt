-- A field of a row, by what was found out about it.
use Rattle.std.proofs.Common.{◌≡◌, ◌==◌, Bool, true, false, ℕ, List, length, Ok, Err, refl}
use Rattle.std.proofs.lemmas.Str.{IsUtf8-from_is_utf8, is_utf8-from_IsUtf8}
use Rattle.std.specs.Str.{IsUtf8, is_utf8}
use Rattle.wvalues.specs.Meaning.{Null}
use Rattle.wsegment.specs.Cells.{cell_of, typed}
use Rattle.wsegment.specs.declared.kind.Kind.{Kind}
use Rattle.wsegment.specs.declared.fault.SegmentFault.TheVariants as faults

pub cell-no_text : (row : ℕ) (kind : Kind) (field : List ℕ) → (IsUtf8 field → ⊥) → cell_of row kind field ≡ Err (faults.RowNotUtf8 row)
unfolding cell_of
cell-no_text row kind field refused = by (is_utf8 field) refl
  where
    by : (b : Bool) → is_utf8 field ≡ b → cell_of row kind field ≡ Err (faults.RowNotUtf8 row)
    by true e = absurd (refused (IsUtf8-from_is_utf8 field e))
    by false e = rw e refl

pub cell-empty : (row : ℕ) (kind : Kind) (field text : List ℕ) → text ≡ field → IsUtf8 field → true ≡ (length text == 0)
    → cell_of row kind field ≡ Ok Null
unfolding cell_of
cell-empty row kind field text same utf8 e = rw (is_utf8-from_IsUtf8 field utf8, ← same, ← e) refl

pub cell-typed : (row : ℕ) (kind : Kind) (field text : List ℕ) → text ≡ field → IsUtf8 field → false ≡ (length text == 0)
    → cell_of row kind field ≡ typed row kind text
unfolding cell_of
cell-typed row kind field text same utf8 e = rw (is_utf8-from_IsUtf8 field utf8, ← same, ← e) refl
