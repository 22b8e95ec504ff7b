-- Rows as one number each, and a note that is found.
use Rattle.std.proofs.Common.{◌≡◌, ℕ, ◌+◌, ◌*◌, ◌%◌, ◌<◌, ◌↔◌, Bool, IsTrue, List, map, Result, Option, Some, None, IfSome}
use Rattle.std.proofs.Common.{sym, ap, subst, ◌∙◌}
use Rattle.std.specs.declared.result.Result.TheVariants.{Ok, Err}
use Rattle.std.specs.Result.{OnOk}
use Rattle.wvalues.specs.declared.key.SortKey.{SortKey}
use Rattle.wvalues.specs.Meaning.{Meaning}
use Rattle.wruns.specs.Refs.{refs_by}
use Rattle.wruns.specs.declared.refs.RowRef.{RowRef}
use Rattle.wset.specs.declared.kept_order.KeptOrder.{KeptOrder}
use Rattle.std.proofs.lemmas.Nat.{div-mul-add, mod-mul-add}
use Rattle.wruns.specs.Lists.{ref}
use Rattle.wruns.specs.Differing.{AllDiffer}
use Rattle.wruns.specs.Runs.{joined}
use Rattle.wset.specs.declared.differing.Differing.{Differing}
use Rattle.wset.specs.KeptOrders.{IsNoteOf, IsOrderOf, unpacked}

-- a segment's number and a place below a width are told by one number
pub packed_is : (w s r n : ℕ) → r < w → n ≡ s * w + r → unpacked w n ≡ ref s r
packed_is w s r n lt e =
    ap (unpacked w) e ∙ ap (λ k. ref k ((s * w + r) % w)) (div-mul-add s w r lt) ∙ ap (λ k. ref s k) (mod-mul-add s w r lt)

-- what is kept of a list of rows is an order of them
pub order_of : (o : Option KeptOrder) (keys : List SortKey) (refs : List RowRef) (segments : List (List (List Meaning)))
    → IfSome o (λ order. order.keys.items ≡ keys) → IfSome o (λ order. 0 < order.width)
    → IfSome o (λ order. map (unpacked order.width) order.rows.items ≡ refs) → refs ≡ refs_by keys segments
    → IfSome o (IsOrderOf segments)
order_of None keys refs segments by wide told is = tt
order_of (Some order) keys refs segments by wide told is = record { wide = wide; list = told ∙ is ∙ ap (λ k. refs_by k segments) (sym by) }

pub kept_list : (o : Option KeptOrder) (order : KeptOrder) (segments : List (List (List Meaning))) → o ≡ Some order
    → IfSome o (IsOrderOf segments) → map (unpacked order.width) order.rows.items ≡ refs_by order.keys.items segments
kept_list o order segments is h = (subst (λ x. IfSome x (IsOrderOf segments)) is h).list

pub at_any_rate : {T E W : Type 0} (r : Result T E) → W → OnOk r W
at_any_rate (Ok t) w = w
at_any_rate (Err e) w = tt

-- what a note for these keys says
pub noted : (o : Option Differing) (note : Differing) (keys : List SortKey) (segments : List (List (List Meaning))) → o ≡ Some note
    → note.keys.items ≡ keys → IfSome o (IsNoteOf segments) → IsTrue note.differ ↔ AllDiffer keys (joined segments)
noted o note keys segments is same h =
    subst (λ k. IsTrue note.differ ↔ AllDiffer k (joined segments)) same (subst (λ x. IfSome x (IsNoteOf segments)) is h)

-- a note that says what is so
pub note_of : (o : Option Differing) (keys : List SortKey) (differ : Bool) (segments : List (List (List Meaning)))
    → IfSome o (λ note. note.keys.items ≡ keys) → IfSome o (λ note. note.differ ≡ differ)
    → (IsTrue differ ↔ AllDiffer keys (joined segments)) → IfSome o (IsNoteOf segments)
note_of None keys differ segments same told is = tt
note_of (Some note) keys differ segments same told is =
    subst (λ k. IsTrue note.differ ↔ AllDiffer k (joined segments)) (sym same)
    (subst (λ b. IsTrue b ↔ AllDiffer keys (joined segments)) (sym told) is)
