use Rattle.std.proofs.Common.{◌≡◌, map, take}
use Rattle.std.specs.List.{list_all}
use Rattle.std.specs.Option.{is_some}
use Rattle.wplan.specs.Plans.{key_plan}
use Rattle.wplan.specs.declared.expr.Expr.{out-Expr}
use Rattle.wplan.specs.declared.resolved.ResolvedKey.{ResolvedKey}
use Rattle.wrows.specs.Laid.{formulas_seen}
use Rattle.wrows.specs.PlainColumns.{is_plain, plain_place}
use Rattle.wcalls.proofs.parts.key_values.Given as goal

abbrev pub invariant-loop-key : goal.invariant-loop-key
invariant-loop-key l = record {
  values : formulas_seen l.values.items ≡ map (λ o. o.value) (map key_plan (take l.key-index l.keys));
  plain : list_all is_plain l.values.items
      ≡ list_all (λ (k : ResolvedKey). is_some (plain_place (out-Expr k.value))) (take l.key-index l.keys);
}
