use Rattle.std.proofs.Common.{◌∙◌, ap}
use Rattle.wset.specs.Running.{lives_before}
use Rattle.wset.proofs.LiveFacts.{before_end}
use Rattle.wset.proofs.starts.live_count_in.Goals as goal

pub returns : goal.returns
returns c = c.next_start.ensures ∙ ap (lives_before c.args.blocks.now) c.requires.placed ∙ before_end c.args.blocks.now
