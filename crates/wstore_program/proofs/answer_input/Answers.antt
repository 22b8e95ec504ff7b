use Rattle.wstore_program.proofs.answer_input.Goals as goal

pub returns : goal.returns
returns g c = c.run_shell-status.ensures
