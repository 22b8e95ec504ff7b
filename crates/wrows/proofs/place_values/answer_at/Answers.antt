use Rattle.std.proofs.Common.{◌∙◌}
use Rattle.wrows.proofs.PickFacts.{answer_is}
use Rattle.wrows.proofs.place_values.answer_at.Goals as goal

pub returns-then-number-columns : goal.returns-then-number-columns
returns-then-number-columns c = c.value_or_null.ensures ∙ answer_is c.args.columns.now c.args.row c.args.number
    c.index-columns-number.result c.if-number-columns.true c.index-columns-number.is
