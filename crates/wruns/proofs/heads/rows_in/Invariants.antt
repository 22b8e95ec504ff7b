use Rattle.std.proofs.Common.{◌≡◌, take}
use Rattle.std.specs.List.{flat_map}
use Rattle.wruns.specs.Heads.{group_refs, groups_seen, head_at}
use Rattle.wruns.proofs.heads.rows_in.Given as goal

-- the rows of the groups so far
abbrev pub invariant-loop-number : goal.invariant-loop-number
invariant-loop-number l = l.refs.items ≡ flat_map (λ i. group_refs (groups_seen l.sources) (head_at l.heads i))
    (take l.number-index l.order)
