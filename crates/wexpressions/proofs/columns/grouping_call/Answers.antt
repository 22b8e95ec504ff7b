use Rattle.std.proofs.Common.{ℕ, List, refl, ap, ◌∙◌}
use Rattle.std.specs.Rc.{rc_str_bytes}
use Rattle.wquery.specs.Tree.{Given, Columns, Invoked, Unfiltered, ItsGroup, trees, views}
use Rattle.wquery.proofs.Says.{call_says, columns_says}
use Rattle.wexpressions.proofs.Steps.{got_along, after_got, after_missing, as_got, as_refused, handed_on}
use Rattle.wexpressions.proofs.columns.grouping_call.Goals as goal

pub returns-in_default : goal.returns-in_default
returns-in_default c = after_missing c.in_default.ensures

pub returns-in_err-columns : goal.returns-in_err-columns
returns-in_err-columns c = handed_on _ _ _ _ c.from_residual.ensures.1 (after_got c.in-Some.ensures (as_refused _ c.in_err-columns.ensures))

pub returns : goal.returns
returns c = got_along (call_says _ _ c.in_ok-call.ensures.ok
    ∙ ap (λ (g : Given). Invoked (rc_str_bytes c.in-Ok.made) g Unfiltered ItsGroup) (columns_says _)
    ∙ ap (λ (n : List ℕ). Invoked n (Columns (trees (views c.in_ok-columns.columns.items))) Unfiltered ItsGroup) c.in-Ok.ensures.ok)
    refl (after_got c.in-Some.ensures (as_got c.in_ok-columns.ensures))
