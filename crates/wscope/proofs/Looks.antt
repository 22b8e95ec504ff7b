-- Looks at nodes, put together in any way.
use Rattle.wnodes.proofs.Beside.{IsJoined}
use Rattle.wscope.specs.Seeking.{seeking}
use Rattle.wquery.specs.Tree.{Tree}
use Rattle.std.proofs.Common.{refl}
use Rattle.wscope.specs.declared.look.Look.{Look}
use Rattle.wscope.proofs.Links.{or_assoc, or_false}

pub looks_joined : (sees : Tree → Look) → IsJoined (seeking sees)
looks_joined sees = record { left = λ m. refl; right = or_false; three = or_assoc }
