use Rattle.std.specs.Ordering.{is_lt, is_gt}
use Rattle.std.proofs.Common.{◌≡◌, true, false}
use Rattle.std.proofs.lemmas.List.Elements.{recursion_from_All}
use Rattle.wframe.proofs.SortFacts.{stable_is_sorted, filter_sorted, first_of_sorted}
use Rattle.wframe.proofs.laws.stable_sorts_agree.Goals as goal

pub returns-clause-sort : goal.returns-clause-sort
returns-clause-sort c = λ cmp xs ys total up stable. stable_is_sorted cmp total xs ys up stable

pub returns-clause-picked : goal.returns-clause-picked
returns-clause-picked c = λ cmp p xs total. filter_sorted cmp total p xs

pub returns-clause-first : goal.returns-clause-first
returns-clause-first c = λ cmp none x left right total below above. first_of_sorted cmp total none x left right
    (recursion_from_All (λ y. is_lt (cmp x y) ≡ true) left below) (recursion_from_All (λ y. is_gt (cmp x y) ≡ false) right above)
