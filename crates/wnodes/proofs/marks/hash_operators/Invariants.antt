use Rattle.std.proofs.Common.{◌≡◌, ◌++◌, drop, flat_map, fold, map}
use Rattle.wquery.specs.Tree.{view_link}
use Rattle.wnodes.specs.Heads.{said_links}
use Rattle.wnodes.specs.Hashed.{list_end, written_links}
use Rattle.wnodes.proofs.Written.{operator_of}
use Rattle.wnodes.proofs.marks.hash_operators.Given as goal

abbrev pub invariant-links : goal.invariant-links
invariant-links g l = fold g.H.Hasher.write l.state (flat_map operator_of (map view_link (drop l.link-index l.links)) ++ list_end)
    ≡ fold g.H.Hasher.write l.fn.state (written_links (said_links l.links))
