-- What stands at a place of the items.
use Rattle.std.proofs.Common.{◌≡◌, ℕ, zero, suc, ◌<◌, ◌≤◌, List, [], ◌∷◌, length, get_or, refl, ap, sym, arith}
use Rattle.wquery.specs.Tree.{NullWord}
use Rattle.wscope.specs.Sources.{Spelled}
use Rattle.wresolve.specs.declared.shown.ShownOutput.{ShownOutput}
use Rattle.wresolve.specs.Selecting.{item_at}
use Rattle.wresolve.specs.Shown.{shown_of, shown_items}

pub item_at_past : (os : List ShownOutput) (n : ℕ) → length os ≤ n → item_at n (shown_items os) ≡ Spelled NullWord
item_at_past [] n h = refl
item_at_past (o ∷ os) zero h = absurd (omega arith)
item_at_past (o ∷ os) (suc n) h = item_at_past os n (omega arith)

pub item_at_here : (os : List ShownOutput) (n : ℕ) (o : ShownOutput) → n < length os → o ≡ get_or os n o
    → item_at n (shown_items os) ≡ shown_of o.value
item_at_here [] n o h is = absurd (omega arith)
item_at_here (x ∷ xs) zero o h is = ap (λ (y : ShownOutput). shown_of y.value) (sym is)
item_at_here (x ∷ xs) (suc n) o h is = item_at_here xs n o (omega arith) is
