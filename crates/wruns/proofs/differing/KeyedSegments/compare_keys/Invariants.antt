use Rattle.std.proofs.Common.{◌≡◌, drop}
use Rattle.wvalues.specs.Order.{keys_cmp}
use Rattle.wruns.specs.Refs.{ref_keys}
use Rattle.wruns.specs.Dealing.{segment_rows}
use Rattle.wruns.proofs.differing.KeyedSegments.compare_keys.Given as goal

-- what is left decides
abbrev pub invariant-loop-key : goal.invariant-loop-key
invariant-loop-key l =
    keys_cmp (drop l.key-index l.self.keys.now) (ref_keys (drop l.key-index l.self.keys.now) (segment_rows l.self.segments.now) l.a)
    (ref_keys (drop l.key-index l.self.keys.now) (segment_rows l.self.segments.now) l.b)
    ≡ keys_cmp l.self.keys.now (ref_keys l.self.keys.now (segment_rows l.self.segments.now) l.a)
    (ref_keys l.self.keys.now (segment_rows l.self.segments.now) l.b)
