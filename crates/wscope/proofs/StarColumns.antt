-- The columns that `*` brings into an answer.
use Rattle.std.proofs.Common.{◌≡◌, ℕ, suc, List, [], ◌∷◌, refl, ap, ◌∙◌, map}
use Rattle.std.proofs.lemmas.List.{append-nil}
use Rattle.wquery.specs.declared.query.Item.{Item}
use Rattle.wquery.specs.declared.query.Item.TheVariants as items
use Rattle.wquery.specs.QueryTree.{AllColumns, view_item}
use Rattle.wscope.specs.Sources.{answered, answered_column, columns_from, derived_column}
use Rattle.wscope.specs.Types.{Titled}

columns_answered : (n : ℕ) (cs : List Titled) → map answered_column (columns_from n cs) ≡ map derived_column cs
columns_answered n [] = refl
columns_answered n (c ∷ cs) = ap (λ (ts : List Titled). derived_column c ∷ ts) (columns_answered (suc n) cs)

star_answered : (cs : List Titled) → answered cs (AllColumns ∷ []) ≡ map derived_column cs
star_answered cs = ap (map answered_column) (append-nil (columns_from 0 cs)) ∙ columns_answered 0 cs

pub item_answered : (cs : List Titled) (i : Item) → i ≡ items.All → answered cs (view_item i ∷ []) ≡ map derived_column cs
item_answered cs i e = ap (λ (x : Item). answered cs (view_item x ∷ [])) e ∙ star_answered cs
