use Rattle.wstore_program.proofs.Chosen.{script_outcome}
use Rattle.wstore_program.proofs.run_session.Goals as goal

pub returns : goal.returns
returns g c = record {
  end = c.run.result;
  ran = script_outcome _ c.run.new.input _ _ c.run.new.output c.run.result c.run.ensures.replies c.run.ensures.begun
      c.run.ensures.sound c.run.ensures.cause;
  status_is = c.ended-status.ensures;
}
