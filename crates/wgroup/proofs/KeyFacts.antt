-- Rows of cells are the same where their keys agree.
use Rattle.std.proofs.Common.{◌≡◌, ℕ, ◌+◌, ◌<◌, ◌++◌, ◌&&◌, take, get_or, true, false, List, [], ◌∷◌, length, map, suc}
use Rattle.std.proofs.Common.{cond, Option, Some, None, Ordering, Less, Equal, Greater, refl, sym, ap, ◌∙◌, true≢false}
use Rattle.std.specs.Bool.{one_answer}
use Rattle.std.specs.Ordering.{is_eq}
use Rattle.std.specs.Cmp.Lexicographic.{pointwise, pointwise_decides}
use Rattle.std.proofs.lemmas.Cmp.{tied_itself}
use Rattle.std.proofs.lemmas.List.{length-map, map-append, take_more}
use Rattle.wvalues.specs.declared.value.Value.{Value}
use Rattle.wvalues.specs.declared.key.SortKey.{SortKey}
use Rattle.wvalues.specs.Meaning.{Meaning, meaning}
use Rattle.wvalues.specs.Sameness.{same_meaning, meaning_decides}
use Rattle.wvalues.specs.Order.{keys_cmp}
use Rattle.wvalues.specs.OrderLaws.{keys_total, ties_are_same}
use Rattle.wrows.specs.Sorting.{ascending}
use Rattle.wgroupby.specs.Sets.{is_among}
use Rattle.wgroup.specs.Grouping.{SetColumns, group_cmp, set_columns}
use Rattle.wgroup.specs.Sight.{same_cells}

by_meaning : (xs ys : List Value) → same_cells xs ys ≡ pointwise same_meaning (map meaning xs) (map meaning ys)
by_meaning [] [] = refl
by_meaning [] (y ∷ ys) = refl
by_meaning (x ∷ xs) [] = refl
by_meaning (x ∷ xs) (y ∷ ys) = ap (λ b. same_meaning (meaning x) (meaning y) && b) (by_meaning xs ys)

pub length_ascending : {X : Type 0} (columns : List X) → length (ascending columns) ≡ length columns
length_ascending [] = refl
length_ascending (c ∷ cs) = ap suc (length_ascending cs)

from_eq : (o : Ordering) → is_eq o ≡ true → o ≡ Equal
from_eq Less h = absurd (true≢false (sym h))
from_eq Equal h = refl
from_eq Greater h = absurd (true≢false (sym h))

pub keys_decide : (keys : List SortKey) (a b : List Meaning) → length a ≡ length keys → length b ≡ length keys
    → (is_eq (keys_cmp keys a b) ≡ true → a ≡ b) × (a ≡ b → is_eq (keys_cmp keys a b) ≡ true)
keys_decide keys a b m n = (
  λ h. ties_are_same keys a b m n (from_eq (keys_cmp keys a b) h),
  λ e. ap (λ x. is_eq (keys_cmp keys a x)) (sym e) ∙ ap is_eq (tied_itself (keys_total keys) a),
)

pub cells_tie : (keys : List SortKey) (xs ys : List Value) (a b : List Meaning) → map meaning xs ≡ a → map meaning ys ≡ b
    → length a ≡ length keys → length b ≡ length keys → same_cells xs ys ≡ is_eq (keys_cmp keys a b)
cells_tie keys xs ys a b p q m n =
    by_meaning xs ys ∙ ap (λ x. pointwise same_meaning x (map meaning ys)) p ∙ ap (λ y. pointwise same_meaning a y) q
    ∙ one_answer (pointwise same_meaning a b) (is_eq (keys_cmp keys a b)) (pointwise_decides meaning_decides a b) (keys_decide keys a b m n)

pub cells_agree : (columns : SetColumns) (xs ys : List Value) (a b : List Meaning) → map meaning xs ≡ a → map meaning ys ≡ b
    → length a ≡ length columns → length b ≡ length columns → same_cells xs ys ≡ is_eq (group_cmp columns a b)
cells_agree columns xs ys a b p q m n =
    cells_tie (ascending columns) xs ys a b p q (m ∙ sym (length_ascending columns)) (n ∙ sym (length_ascending columns))

-- an ascending key more
pub ascending_made : (columns : SetColumns) (i : ℕ) (old new : List SortKey) → i < length columns
    → old ≡ ascending (take i columns) → new ≡ old ++ record { col = 0; desc = false; nulls_first = false } ∷ []
    → new ≡ ascending (take (i + 1) columns)
ascending_made columns i old new h e f =
    let key : Option ℕ → SortKey = λ x. record { col = 0; desc = false; nulls_first = false } in
    f ∙ ap (λ l. l ++ key None ∷ []) e ∙ sym (map-append key (take i columns) (get_or columns i None ∷ []))
    ∙ ap (map key) (sym (take_more columns i None h))

pub columns_long : (columns set : List ℕ) → length (set_columns columns set) ≡ length columns
columns_long columns set = length-map columns (λ c. cond (is_among c set) (Some c) None)
