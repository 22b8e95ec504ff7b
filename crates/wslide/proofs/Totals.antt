-- What the laws give of `total`.
use Rattle.std.proofs.Common.{◌≡◌, List, [], ◌∷◌, ◌++◌, sym, ap, ◌∙◌}
use Rattle.std.specs.List.{fold, AllByRecursion, All}
use Rattle.std.proofs.lemmas.List.Sums.{fold-append}
use Rattle.std.proofs.lemmas.List.Elements.{recursion_from_All}
use Rattle.wslide.specs.Laws.{FoldLaws, total}

module _ {P : Type 0} {is_part : P → Type 0} {neutral : P} {joined : P → P → P} (laws : FoldLaws is_part neutral joined) where
  -- a fold of parts from a part is a part
  pub fold_is : (a : P) (xs : List P) → is_part a → AllByRecursion is_part xs → is_part (fold joined a xs)
  fold_is a [] ha hs = ha
  fold_is a (x ∷ xs) ha hs = fold_is (joined a x) xs (laws.closed a x ha hs.0) hs.1

  -- what a fold starts from can be joined at its front
  pub fold_from : (a : P) (xs : List P) → is_part a → AllByRecursion is_part xs → fold joined a xs ≡ joined a (total neutral joined xs)
  fold_from a [] ha hs = sym (laws.right_neutral a ha)
  fold_from a (x ∷ xs) ha hs =
      fold_from (joined a x) xs (laws.closed a x ha hs.0) hs.1
      ∙ laws.assoc a x (total neutral joined xs) ha hs.0 (fold_is neutral xs laws.neutral_is hs.1)
      ∙ ap (joined a) (sym (ap (λ y. fold joined y xs) (laws.left_neutral x hs.0) ∙ fold_from x xs hs.0 hs.1))

  pub total_is : (xs : List P) → All is_part xs → is_part (total neutral joined xs)
  total_is xs hs = fold_is neutral xs laws.neutral_is (recursion_from_All is_part xs hs)

  pub total-append : (xs ys : List P) → All is_part xs → All is_part ys → total neutral joined (xs ++ ys)
      ≡ joined (total neutral joined xs) (total neutral joined ys)
  total-append xs ys hx hy =
      fold-append joined neutral xs ys ∙ fold_from (total neutral joined xs) ys (total_is xs hx) (recursion_from_All is_part ys hy)
