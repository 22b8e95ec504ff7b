-- Why each call is computed once: equal expressions of a SELECT are one over its row, and equal calls are one function over
-- one window.
use Rattle.std.specs.Prelude.{◌≡◌, ℕ, true, List}
use Rattle.wquery.specs.Tree.{Tree}
use Rattle.wnodes.specs.Sameness.{is_same}
use Rattle.wscope.specs.Windows.{NamedWindow}
use Rattle.wbinding.specs.Functions.{call_function}
use Rattle.wbinding.specs.Groups.{group_call_made}
use Rattle.wbinding.specs.Resolving.{Layout, resolved}
use Rattle.wresolve.specs.Selecting.{own_window, place_over}

-- over a row, these WINDOW entries, and the place that the next window of a call's own has
pub record AreOne (l : Layout) (ws : List NamedWindow) (next : ℕ) (t u : Tree) : Type 0 where
  pub value : resolved l t ≡ resolved l u
  pub group_call : group_call_made l t ≡ group_call_made l u
  pub function : call_function l t ≡ call_function l u
  pub window : own_window l ws t ≡ own_window l ws u
  pub place : place_over ws next t ≡ place_over ws next u

abbrev pub EqualIsOne : Type 0
EqualIsOne = (l : Layout) (ws : List NamedWindow) (next : ℕ) (t u : Tree) → is_same t u ≡ true → AreOne l ws next t u
