use Rattle.std.proofs.Common.{map}
use Rattle.wvalues.specs.Meaning.{meaning}
use Rattle.wplan.specs.Formula.{formula}
use Rattle.wrows.proofs.TestFacts.{decided}
use Rattle.wrows.proofs.condition.Condition.holds.Goals as goal

pub returns-in-Some-clause-holds : goal.returns-in-Some-clause-holds
returns-in-Some-clause-holds c = decided c.in-Some.tests.tests.items (formula c.args.self.now.expr.now) (map meaning c.args.row.now)
    c.pass.result (c.args.self.now.decide c.in-Some.tests c.in-Some.is) c.pass.ensures
