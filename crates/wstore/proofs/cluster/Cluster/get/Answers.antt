use Rattle.std.proofs.Common.{◌∙◌, subst, sym}
use Rattle.wreplies.specs.Texts.{bytes_of}
use Rattle.wstore.specs.Standing.{StandAt}
use Rattle.wstore.proofs.Answering.{get_at}
use Rattle.wstore.proofs.Handling.{if_ok_then}
use Rattle.wstore.proofs.cluster.Cluster.get.Goals as goal

pub returns-clause-answers : goal.returns-clause-answers
returns-clause-answers c = if_ok_then c.get_text.result _
    (λ text is d h told.
    get_at d _ h c.args.node c.place-to.result c.index_mut.result.now (subst (λ at. StandAt d at h) (sym c.self.view_is)
    told) c.place-to.ensures.place c.place-to.ensures.in_range c.index_mut.ensures.value
    c.args.slot c.place-from.result c.as_slice-file.result.now _ c.get-outcome.result c.get-outcome.new.self (bytes_of text)
    c.place-from.ensures.place c.place-from.ensures.in_range (c.as_slice-file.ensures ∙ c.index.ensures)
    c.get-outcome.ensures.ok c.get-outcome.ensures.refused c.get-outcome.ensures.err (rw is at c.get_text.ensures.text))
