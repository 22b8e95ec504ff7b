use Rattle.std.proofs.Common.{refl, sym}
use Rattle.wstore_program.specs.Program.{Act, Shell}
use Rattle.wstore_program.proofs.Chosen.{is_shell}
use Rattle.wstore_program.proofs.run_choice.Goals as goal

pub returns-then-not-is_act : goal.returns-then-not-is_act
returns-then-not-is_act g c = Shell c.in-Some.paths
    (is_shell c.args.choice.now c.in-Some.paths (sym c.in-Some.ensures) (sym c.if-not-is_act.ensures)) c.answer_input.ensures

pub returns : goal.returns
returns g c = Act (sym c.if-not-is_act.ensures) refl c.run_on_files-status.ensures
