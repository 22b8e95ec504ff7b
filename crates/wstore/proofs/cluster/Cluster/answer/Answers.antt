use Rattle.std.proofs.Common.{◌≤◌, List, length, IfOk, subst}
use Rattle.wsegment.specs.Declaration.{Declaration}
use Rattle.wreplies.specs.Texts.{bytes_of}
use Rattle.wscript.specs.Commands.{Ask, longest_text}
use Rattle.wstore.specs.History.{Step}
use Rattle.wstore.specs.Standing.{AnswersAs, StandAt}
use Rattle.wstore.proofs.Orders.{asked_so}
use Rattle.wstore.proofs.cluster.Cluster.answer.Goals as goal

pub returns-in-Ask-clause-answers : goal.returns-in-Ask-clause-answers
returns-in-Ask-clause-answers c =
    asked_so c.ask.result (λ text. bytes_of text) c.args.self.now c.ask.new.self c.args.node c.args.order.now c.in-Ask.text c.in-Ask.is
    (subst (λ t. IfOk c.ask.result (λ text. (d : Declaration) (h : List Step) → length t ≤ longest_text
    → StandAt d c.args.self.now h → AnswersAs d c.ask.new.self h (Ask c.args.node t) (bytes_of text)))
    c.deref-in-Ask.ensures.value c.ask.ensures.answers)
