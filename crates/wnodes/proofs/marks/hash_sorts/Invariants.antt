use Rattle.std.proofs.Common.{◌≡◌, drop, fold}
use Rattle.wnodes.specs.Heads.{said_keys}
use Rattle.wnodes.specs.Hashed.{written_keys}
use Rattle.wnodes.proofs.marks.hash_sorts.Given as goal

abbrev pub invariant-keys : goal.invariant-keys
invariant-keys g l = fold g.H.Hasher.write l.state (written_keys (said_keys (drop l.key-index l.keys)))
    ≡ fold g.H.Hasher.write l.fn.state (written_keys (said_keys l.keys))
