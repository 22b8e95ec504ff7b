use Rattle.std.proofs.Common.{arith, refl}
use Rattle.wfolder.specs.Names.{numbered_path}
use Rattle.wfolder.proofs.Steps.{misplaced, then_gives_up, then_made, then_tried, untried}
use Rattle.wfolder.proofs.replacing.make_new.Goals as goal

pub returns-in-Ok-Some-clause-made : goal.returns-in-Ok-Some-clause-made
returns-in-Ok-Some-clause-made g c = then_made (numbered_path c.args.target.now.folder c.tries.number)
    c.tries.invariant.tried (rw c.in-Ok-Some.field-0-is at c.in-Ok-Some.ensures.makes)

pub returns-in-Err-clause-idle : goal.returns-in-Err-clause-idle
returns-in-Err-clause-idle g c = then_gives_up c.tries.invariant.tried c.in-Err.ensures.idle

pub tries-init : goal.tries-init
tries-init g c = record { tried = untried; count = omega (arith); sound = c.requires.sound }

pub tries-preserved : goal.tries-preserved
tries-preserved g c = record {
  tried = then_tried c.tries.invariant.tried refl (rw c.in-Ok-None.field-0-is at c.in-Ok-None.ensures.makes);
  count = omega (arith, c.tries-test.true);
  sound = c.in-Ok-None.ensures.sound;
}

pub returns-clause-idle : goal.returns-clause-idle
returns-clause-idle g c = misplaced c.misplaced.ensures.fault c.misplaced.ensures.calls
    (omega (arith, c.tries-test.false, c.tries.invariant.count)) c.tries.invariant.tried
