use Rattle.std.proofs.Common.{◌≡◌, false, map, subst, take_all, arith}
use Rattle.std.specs.List.{list_any}
use Rattle.wplan.specs.Plans.{output_plan}
use Rattle.wrows.specs.Columns.{is_out_of_range}
use Rattle.wtable.proofs.leading.are_columns.Goals as goal

pub returns-clause-range : goal.returns-clause-range
returns-clause-range c = λ same row.
    subst (λ items. list_any (λ t. is_out_of_range t row) (map (λ o. o.value) (map output_plan items)) ≡ false)
    (take_all c.loop-item.item-index c.args.items.now (omega (arith, c.loop-item-test.false))) (c.loop-item.invariant row)
