use Rattle.std.proofs.Common.{◌≡◌, true, map, take}
use Rattle.std.specs.List.{list_all}
use Rattle.std.specs.Option.{is_some}
use Rattle.wplan.specs.Formula.{At}
use Rattle.wplan.specs.Plans.{output_plan}
use Rattle.wplan.specs.declared.expr.Expr.{out-Expr}
use Rattle.wplan.specs.declared.resolved.Output.{Output}
use Rattle.wrows.specs.PlainColumns.{plain_place}
use Rattle.wplanner.proofs.parts.item_places.Given as goal

abbrev pub invariant-loop-item : goal.invariant-loop-item
invariant-loop-item l = record {
  places : map (λ o. o.value) (map output_plan (take l.item-index l.items)) ≡ map At l.places.items;
  plain : list_all (λ (o : Output). is_some (plain_place (out-Expr o.value))) (take l.item-index l.items) ≡ true;
}
