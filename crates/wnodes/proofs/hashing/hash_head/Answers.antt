use Rattle.std.proofs.Common.{ap, ◌∙◌}
use Rattle.std.specs.Hash.{HashWrites}
use Rattle.wnodes.specs.Sketch.{behind}
use Rattle.wnodes.proofs.HeadFacts.{heads_written}
use Rattle.wnodes.proofs.hashing.hash_head.Goals as goal

pub returns : goal.returns
returns c = c.hash.ensures ∙ ap (λ (ws : HashWrites). behind ws c.args.state.now) (heads_written c.args.head.now)
