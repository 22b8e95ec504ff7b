use Rattle.std.proofs.Common.{◌≡◌, map, take}
use Rattle.std.specs.List.{list_all}
use Rattle.std.specs.Option.{is_some}
use Rattle.wplan.specs.Formula.{formula}
use Rattle.wplan.specs.declared.expr.Expr.{Expr, out-Expr}
use Rattle.wrows.specs.Laid.{formulas_seen}
use Rattle.wrows.specs.PlainColumns.{is_plain, plain_place}
use Rattle.wcalls.proofs.parts.lent_values.Given as goal

abbrev pub invariant-loop-value : goal.invariant-loop-value
invariant-loop-value l = record {
  values : formulas_seen l.lent.items ≡ map formula (take l.value-index l.values);
  plain : list_all is_plain l.lent.items ≡ list_all (λ (e : Expr). is_some (plain_place (out-Expr e))) (take l.value-index l.values);
}
