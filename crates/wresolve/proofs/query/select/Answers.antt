use Rattle.std.proofs.Common.{Some, None, sym, ◌∙◌}
use Rattle.wplan.specs.Plans.{select_plan}
use Rattle.wresolve.proofs.Queried.{plan_is, rule_is}
use Rattle.wresolve.proofs.query.select.Goals as goal

pub returns-in-Some : goal.returns-in-Some
returns-in-Some c =
    rule_is c.args.schema.now c.args.last c.in_ok-scope.scope c.args.columns.now c.args.query.now (Some c.in-Some.rule)
    (c.in_ok-scope.ensures.table ∙ c.table.ensures) (c.in_ok-scope.ensures.alias ∙ c.alias_of.ensures c.args.schema.now)
    c.in_ok-scope.ensures.columns c.in_ok-scope.ensures.query
    (sym c.in-Some.is ∙ c.broken_rule.ensures)

pub returns : goal.returns
returns c = (
  rule_is c.args.schema.now c.args.last c.in_ok-scope.scope c.args.columns.now c.args.query.now None
      (c.in_ok-scope.ensures.table ∙ c.table.ensures) (c.in_ok-scope.ensures.alias ∙ c.alias_of.ensures c.args.schema.now)
      c.in_ok-scope.ensures.columns c.in_ok-scope.ensures.query
      (sym c.in-None.is ∙ c.broken_rule.ensures),
  plan_is c.in_ok-scope.scope c.args.columns.now c.args.query.now (select_plan c.in_ok-selection-in-None.selection)
      c.in_ok-scope.ensures.columns c.in_ok-scope.ensures.query c.in_ok-selection-in-None.ensures,
)
