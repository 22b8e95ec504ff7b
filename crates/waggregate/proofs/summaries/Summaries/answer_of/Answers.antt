use Rattle.std.proofs.Common.{subst, ◌∙◌}
use Rattle.wvalues.specs.Meaning.{meaning}
use Rattle.wrows.specs.Outcomes.{Gives}
use Rattle.wrows.proofs.RowFacts.{same_at}
use Rattle.waggregate.specs.FrameAnswers.{answer_or_out_of_range}
use Rattle.waggregate.specs.Summaries.{answer_in}
use Rattle.waggregate.proofs.summaries.Summaries.answer_of.Goals as goal

pub returns : goal.returns
returns c = λ none.
    subst (λ s. Gives meaning c.answer.result (answer_or_out_of_range (answer_in c.args.function s)))
    (c.index.ensures ∙ same_at c.args.self.now.groups.items c.args.group c.index.result.now none c.requires) c.answer.ensures
