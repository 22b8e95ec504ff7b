use Rattle.std.proofs.Common.{◌<◌, length, map, ap, ◌∙◌, arith}
use Rattle.std.specs.List.{flat_map}
use Rattle.std.proofs.lemmas.List.{length-map}
use Rattle.std.proofs.lemmas.List.Elements.{All-same, All-from_recursion, recursion_from_All}
use Rattle.wruns.specs.Heads.{group_refs, groups_seen, head_at, head_row, heads_from, IsHead}
use Rattle.wruns.specs.Merging.{has_keys, rows_seen}
use Rattle.wruns.specs.Runs.{run_of}
use Rattle.wruns.proofs.HeadFacts.{groups_in_order, heads_stand}
use Rattle.wruns.proofs.ordering.ordered_by_heads.Goals as goal

pub rows_in-requires-clause-heads : goal.rows_in-requires-clause-heads
rows_in-requires-clause-heads c =
    let ss = c.args.sources.now in
    let P = IsHead (groups_seen ss) in
    All-same P c.args.heads.now (heads_from 0 ss) c.requires.heads (All-from_recursion P (heads_from 0 ss) (heads_stand ss))

pub rows_in-requires-clause-below : goal.rows_in-requires-clause-below
rows_in-requires-clause-below c =
    let n = length-map c.args.heads.now (head_row (rows_seen c.args.sources.now)) in
    All-same (λ i. i < length c.args.heads.now) c.deref.result.now c.in_ok-order.order.items c.deref.ensures.value
    (λ k d h. omega (arith, c.in_ok-order.ensures.below k d h, n))

pub returns : goal.returns
returns c =
    let ss = c.args.sources.now in
    let keys = c.args.keys.now in
    let has = recursion_from_All (has_keys keys) ss c.requires.keys in
    c.in_ok-refs.ensures ∙ ap (λ hs. flat_map (λ i. group_refs (groups_seen ss) (head_at hs i)) c.deref.result.now) c.requires.heads
    ∙ groups_in_order keys ss has c.deref.result.now (c.deref.ensures.value ∙ c.in_ok-order.ensures.order
    ∙ ap (λ hs. run_of keys (map (head_row (rows_seen ss)) hs)) c.requires.heads)
