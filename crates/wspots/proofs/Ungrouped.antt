-- The first column that is not in GROUP BY.
use Rattle.std.proofs.Common.{◌≡◌, ℕ, suc, ◌+◌, ◌<◌, Bool, true, false, List, Some, drop, get_or, length, ap, sym, ◌∙◌, add-one}
use Rattle.std.proofs.Common.{if◌then◌else◌}
use Rattle.std.proofs.Math.Seq.{drop-cons}
use Rattle.std.specs.Rc.{rc_str_bytes}
use Rattle.wscope.specs.declared.source.SourceColumn.{SourceColumn}
use Rattle.wspots.specs.Scene.{first_ungrouped}

module _ (groups : List ℕ → Bool) (cs : List SourceColumn) (i : ℕ) (c : SourceColumn) (h : i < length cs) (is : c ≡ get_or cs i c) where
  step : first_ungrouped groups i (drop i cs)
      ≡ (if groups (rc_str_bytes c.name) then first_ungrouped groups (suc i) (drop (suc i) cs) else Some i)
  step =
      rw (drop-cons cs i c) (ap (λ (x : SourceColumn). if groups (rc_str_bytes x.name) then first_ungrouped groups (suc i) (drop (suc i) cs)
      else Some i) (sym is))

  -- it is here where this one is not grouped by
  pub ungrouped_here : groups (rc_str_bytes c.name) ≡ false → first_ungrouped groups i (drop i cs) ≡ Some i
  ungrouped_here e = step ∙ ap (λ b. if b then first_ungrouped groups (suc i) (drop (suc i) cs) else Some i) e

  -- and else behind
  pub ungrouped_behind : groups (rc_str_bytes c.name) ≡ true → first_ungrouped groups i (drop i cs)
      ≡ first_ungrouped groups (i + 1) (drop (i + 1) cs)
  ungrouped_behind e =
      rw add-one (step ∙ ap (λ b. if b then first_ungrouped groups (suc i) (drop (suc i) cs) else Some i) e)
