-- Tests of nodes that either find a node or look below it.
use Rattle.std.specs.Prelude.{Bool, if◌then◌else◌}
use Rattle.wquery.specs.Tree.{Tree}
use Rattle.wscope.specs.declared.look.Look.{Look}
use Rattle.wscope.specs.declared.look.Look.TheVariants.{Found, Below}

-- the node is found where this holds of it
abbrev pub finds : (Tree → Bool) → Tree → Look
finds holds t = if holds t then Found else Below
