use Rattle.std.proofs.Common.{◌∷◌, [], refl, sym, ap, ◌∙◌}
use Rattle.std.specs.Option.{is_some}
use Rattle.std.proofs.lemmas.List.{length-map, map-append}
use Rattle.wplan.specs.Plans.{key_plan}
use Rattle.wplan.specs.declared.expr.Expr.{out-Expr}
use Rattle.wplan.specs.declared.resolved.ResolvedKey.{ResolvedKey}
use Rattle.wrows.specs.Laid.{formula_seen, formulas_seen}
use Rattle.wrows.specs.PlainColumns.{is_plain, plain_place}
use Rattle.wcalls.proofs.Listed.{listed_more, listed_all, listed_long, tested_all, tested_more}
use Rattle.wcalls.proofs.parts.key_values.Goals as goal

pub loop-key-preserved : goal.loop-key-preserved
loop-key-preserved c = record {
  values =
      listed_more key_plan (λ o. o.value) c.args.keys.now c.loop-key.key-index c.key-item.result _ _ c.loop-key-test.true
      c.key-item.is c.loop-key.invariant.values (ap formulas_seen c.in_ok-push.ensures.items
      ∙ map-append formula_seen c.loop-key.values.items (_ ∷ []));
  plain =
      tested_more (λ (k : ResolvedKey). is_some (plain_place (out-Expr k.value))) is_plain c.args.keys.now c.loop-key.key-index
      c.key-item.result _ c.loop-key.values.items _ c.loop-key-test.true c.key-item.is refl c.loop-key.invariant.plain
      c.in_ok-push.ensures.items;
}

pub returns-clause-values : goal.returns-clause-values
returns-clause-values c = listed_all key_plan (λ o. o.value) c.args.keys.now c.loop-key.key-index _ c.loop-key-test.false
    c.loop-key.invariant.values

pub returns-clause-plain : goal.returns-clause-plain
returns-clause-plain c = tested_all (λ (k : ResolvedKey). is_some (plain_place (out-Expr k.value))) is_plain c.args.keys.now
    c.loop-key.key-index c.loop-key.values.items c.loop-key-test.false c.loop-key.invariant.plain

pub returns-clause-len : goal.returns-clause-len
returns-clause-len c = sym (length-map c.loop-key.values.items formula_seen) ∙ listed_long key_plan (λ o. o.value)
    c.args.keys.now _ (returns-clause-values c)
