use Rattle.std.proofs.Common.{sym, ap, ◌∙◌}
use Rattle.std.specs.Ordering.{is_gt}
use Rattle.wframe.specs.KeyList.{list_in}
use Rattle.wvalues.specs.OrderLaws.{keys_total}
use Rattle.wframe.specs.Bounds.{along, against, moved, key_ends_before}
use Rattle.wframe.proofs.OrderFacts.{gt_is_lt}
use Rattle.wframe.proofs.order.key_is_after_end.Goals as goal

pub returns-in-Preceding : goal.returns-in-Preceding
returns-in-Preceding c =
    let keys = c.args.keys.now in
    let a = list_in c.args.a.now in
    let b = list_in c.args.b.now in
    c.is_gt.ensures ∙ ap is_gt c.compare_moved_lists.ensures ∙ gt_is_lt (keys_total keys) b
    (moved against keys c.in-Preceding.n a) ∙ sym (ap (λ bound. key_ends_before keys bound a b) c.in-Preceding.is)

pub returns-in-CurrentRow : goal.returns-in-CurrentRow
returns-in-CurrentRow c =
    let keys = c.args.keys.now in
    let a = list_in c.args.a.now in
    let b = list_in c.args.b.now in
    c.is_gt-in-CurrentRow.ensures ∙ ap is_gt c.compare_lists.ensures ∙ gt_is_lt (keys_total keys) b a
    ∙ sym (ap (λ bound. key_ends_before keys bound a b) c.in-CurrentRow.is)

pub returns-in-Following : goal.returns-in-Following
returns-in-Following c =
    let keys = c.args.keys.now in
    let a = list_in c.args.a.now in
    let b = list_in c.args.b.now in
    c.is_gt-in-Following.ensures ∙ ap is_gt c.compare_moved_lists-in-Following.ensures ∙ gt_is_lt (keys_total keys) b
    (moved along keys c.in-Following.n a) ∙ sym (ap (λ bound. key_ends_before keys bound a b) c.in-Following.is)
