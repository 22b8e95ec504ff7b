use Rattle.std.proofs.Common.{◌∙◌, ap, not}
use Rattle.wstore_program.proofs.Performed.{is_new, untouched}
use Rattle.wstore_program.proofs.acting.finish.Goals as goal

pub returns-then-is_none-clause-finished : goal.returns-then-is_none-clause-finished
returns-then-is_none-clause-finished g c =
    untouched _ _ _ _ _ _ _ c.requires.gives.1 (c.is_none.ensures ∙ ap not c.if-is_none.true)

pub carry_out-requires-clause-new : goal.carry_out-requires-clause-new
carry_out-requires-clause-new g c = is_new c.args.first (c.is_none.ensures ∙ ap not c.if-is_none.false)
