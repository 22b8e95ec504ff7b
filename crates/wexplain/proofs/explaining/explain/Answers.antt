use Rattle.std.proofs.Common.{string_bytes}
use Rattle.wexplain.proofs.Labels.{tells}
use Rattle.wexplain.proofs.explaining.explain.Goals as goal

pub returns-in-Some-clause-explains : goal.returns-in-Some-clause-explains
returns-in-Some-clause-explains c =
    tells string_bytes c.told.result c.args.reply.now c.in-Some.refusal c.in-Some.ensures.found c.told.ensures.begins
