use Rattle.wstore_program.proofs.Shells.{run_outcome}
use Rattle.wstore_program.proofs.shelling.answer.Goals as goal

pub returns : goal.returns
returns g c = record {
  end = c.run-end.result;
  ran = run_outcome c.args.node _ _ _ _ _ _ c.run-end.result c.run-end.ensures.replies c.run-end.ensures.begun
      c.run-end.ensures.prompt c.run-end.ensures.sound c.run-end.ensures.cause;
  status_is = c.ended.ensures;
}
