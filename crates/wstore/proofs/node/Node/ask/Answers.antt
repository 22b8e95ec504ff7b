use Rattle.std.proofs.Common.{◌≡◌, ◌⊎◌, Ok, Err, MatchResult, subst}
use Rattle.wask.specs.Answer.{IsAnswer}
use Rattle.wplanner.specs.declared.fault.AskFault.TheVariants as queries
use Rattle.wstore.specs.Nodes.{NodeState}
use Rattle.wstore.proofs.Learning.{knows_same}
use Rattle.wstore.proofs.node.Node.ask.Goals as goal

pub returns-clause-answer : goal.returns-clause-answer
returns-clause-answer c =
    subst (λ (node : NodeState). MatchResult c.ask.result
    (λ bytes. IsAnswer node.schema node.view c.args.text.now (Ok bytes.items))
    (λ fault. (fault ≡ queries.NoMemory) ⊎ IsAnswer node.schema node.view c.args.text.now (Err fault)))
    c.self.view_is c.ask.ensures.answer

pub returns-clause-same : goal.returns-clause-same
returns-clause-same c = knows_same c.args.self.now c.self.inside.set c.ask.new.set c.self.inside.inbox.held
    c.self.inside.inbox.is_bad c.self.view_is c.ask.ensures.same
