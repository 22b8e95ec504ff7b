use Rattle.std.proofs.Common.{ap, ◌∙◌}
use Rattle.wruns.specs.Refs.{refs_by}
use Rattle.wentries.specs.Blocks.{flat}
use Rattle.wentries.specs.Keeping.{rows_in}
use Rattle.wset.proofs.KeptOrderFacts.{kept_list}
use Rattle.wset.proofs.RunFacts.{rows_live}
use Rattle.wset.proofs.set.SegmentSet.kept_rows.Goals as goal

pub returns : goal.returns
returns c =
    let rows = rows_live c.self.inside c.args.self.now c.self.invariant c.self.view_is in
    c.in_ok-rows.ensures ∙ kept_list c.self.inside.order c.in-Some.order (rows_in (flat c.self.inside.blocks.items))
    c.in-Some.is c.self.invariant.ordered
    ∙ ap (λ k. refs_by k (rows_in (flat c.self.inside.blocks.items))) (c.is_by.ensures c.if-not-is_by.false)
    ∙ ap (refs_by c.args.keys.now) rows
