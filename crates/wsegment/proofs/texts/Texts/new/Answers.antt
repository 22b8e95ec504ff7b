use Rattle.std.specs.Rc.{rc_str_bytes}
use Rattle.wsegment.proofs.TextFacts.{all_mapped}
use Rattle.wsegment.proofs.texts.Texts.new.Goals as goal

pub returns : goal.returns
returns c = all_mapped rc_str_bytes _ c.slots.slots.items c.slots.invariant.empty
