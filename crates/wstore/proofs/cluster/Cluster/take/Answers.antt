use Rattle.std.proofs.Common.{subst, sym}
use Rattle.wreplies.specs.Texts.{bytes_of}
use Rattle.wstore.specs.Standing.{StandAt}
use Rattle.wstore.proofs.Answering.{take_at}
use Rattle.wstore.proofs.Handling.{if_ok_then}
use Rattle.wstore.proofs.cluster.Cluster.take.Goals as goal

pub returns-clause-answers : goal.returns-clause-answers
returns-clause-answers c = if_ok_then c.take_text.result _
    (λ text is d h origin number short named told.
    take_at d _ h c.args.node c.place-place.result c.index_mut.result.now (subst (λ at. StandAt d at h) (sym c.self.view_is)
    told) c.place-place.ensures.place c.place-place.ensures.in_range c.index_mut.ensures.value
    origin number c.args.bytes.now c.args.name c.take-outcome.result c.take-outcome.new.self (bytes_of text) short named
    c.take-outcome.ensures.word c.take-outcome.ensures.ok c.take-outcome.ensures.read c.take-outcome.ensures.refused
    c.take-outcome.ensures.err (rw is at c.take_text.ensures.text))
