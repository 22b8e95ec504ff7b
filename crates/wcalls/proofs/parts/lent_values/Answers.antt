use Rattle.std.proofs.Common.{◌∷◌, [], refl, ap, ◌∙◌}
use Rattle.std.specs.Option.{is_some}
use Rattle.std.proofs.lemmas.List.{map-append}
use Rattle.wplan.specs.Formula.{formula}
use Rattle.wplan.specs.declared.expr.Expr.{Expr, out-Expr}
use Rattle.wrows.specs.Laid.{formula_seen, formulas_seen}
use Rattle.wrows.specs.PlainColumns.{is_plain, plain_place}
use Rattle.wcalls.proofs.Listed.{mapped_more, tested_all, tested_more}
use Rattle.wcalls.proofs.parts.lent_values.Goals as goal

pub loop-value-preserved : goal.loop-value-preserved
loop-value-preserved c = record {
  values =
      mapped_more formula c.args.values.now c.loop-value.value-index c.value-item.result _ _ c.loop-value-test.true c.value-item.is
      c.loop-value.invariant.values
      (ap formulas_seen c.in_ok-push.ensures.items ∙ map-append formula_seen c.loop-value.lent.items (_ ∷ []));
  plain =
      tested_more (λ (e : Expr). is_some (plain_place (out-Expr e))) is_plain c.args.values.now c.loop-value.value-index
      c.value-item.result _ c.loop-value.lent.items _ c.loop-value-test.true c.value-item.is refl c.loop-value.invariant.plain
      c.in_ok-push.ensures.items;
}

pub returns-clause-plain : goal.returns-clause-plain
returns-clause-plain c = tested_all (λ (e : Expr). is_some (plain_place (out-Expr e))) is_plain c.args.values.now
    c.loop-value.value-index c.loop-value.lent.items c.loop-value-test.false c.loop-value.invariant.plain
