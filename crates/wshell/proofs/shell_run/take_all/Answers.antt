use Rattle.std.proofs.Common.{◌∙◌}
use Rattle.wshell.proofs.Running.{after_block, front_after, front_block}
use Rattle.wshell.proofs.shell_run.take_all.Goals as goal

pub returns-in-Err-clause-part : goal.returns-in-Err-clause-part
returns-in-Err-clause-part g c = front_after _ _ _ _ _ _ _ _ _ c.reads.invariant.after

pub returns-in-Err-take_block-clause-part : goal.returns-in-Err-take_block-clause-part
returns-in-Err-take_block-clause-part g c = front_block _ _ _ _ _ _ _ _ _ _ _ _ c.reads.invariant.after
    c.in-Ok.ensures.bytes.0 (rw c.reads.invariant.same at c.in-Err-take_block.ensures.part)

pub reads-preserved : goal.reads-preserved
reads-preserved g c = record {
  same = c.take_block.ensures.same ∙ c.reads.invariant.same;
  input_sound = c.in-Ok.ensures.sound;
  output_sound = c.in_default.ensures.sound;
  after = after_block _ _ _ _ _ _ _ _ _ _ _ _ _ c.reads.invariant.after c.in-Ok.ensures.bytes.0
      (rw c.reads.invariant.same at c.in_default.ensures.ok);
}
