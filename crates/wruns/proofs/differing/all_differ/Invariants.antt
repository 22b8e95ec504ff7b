use Rattle.std.specs.Ordering.{on}
use Rattle.std.proofs.lemmas.Cmp.{on_total}
use Rattle.wvalues.specs.Order.{keys_cmp}
use Rattle.wvalues.specs.OrderLaws.{keys_total}
use Rattle.wruns.specs.Dealing.{segment_rows}
use Rattle.wruns.specs.Lists.{ref}
use Rattle.wruns.specs.Refs.{ref_keys}
use Rattle.wruns.proofs.DifferFacts.{RiseTo}
use Rattle.wruns.proofs.differing.all_differ.Given as goal

-- each row so far stands before the next one
abbrev pub invariant-loop-place : goal.invariant-loop-place
invariant-loop-place l =
    RiseTo (on (ref_keys l.keys (segment_rows l.fn.segments)) (keys_cmp l.keys))
    (on_total (ref_keys l.keys (segment_rows l.fn.segments)) (keys_total l.keys)) (ref 0 0) l.rows l.place
