use Rattle.std.proofs.Common.{subst, sym}
use Rattle.wreplies.specs.Texts.{bytes_of}
use Rattle.wstore.specs.Standing.{StandAt}
use Rattle.wstore.proofs.Answering.{ask_at}
use Rattle.wstore.proofs.Handling.{if_ok_then}
use Rattle.wstore.proofs.cluster.Cluster.ask.Goals as goal

pub returns-clause-answers : goal.returns-clause-answers
returns-clause-answers c = if_ok_then c.ask_text.result _
    (λ text is d h short told.
    ask_at d _ h c.args.node c.place-place.result c.index_mut.result.now (subst (λ at. StandAt d at h) (sym c.self.view_is)
    told) c.place-place.ensures.place c.place-place.ensures.in_range c.index_mut.ensures.value
    c.args.text.now c.ask-outcome.result c.ask-outcome.new.self (bytes_of text) short c.ask-outcome.ensures.answer
    c.ask-outcome.ensures.same (rw is at c.ask_text.ensures))
