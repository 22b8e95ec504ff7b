use Rattle.std.proofs.Common.{ap, subst, ◌∙◌}
use Rattle.wruns.specs.Dealing.{segment_rows, AreRunsOf}
use Rattle.wruns.specs.Refs.{refs_by}
use Rattle.wentries.specs.Blocks.{flat}
use Rattle.wentries.specs.Keeping.{rows_in}
use Rattle.wset.proofs.RunFacts.{rows_live}
use Rattle.wset.proofs.set.SegmentSet.dealt.Goals as goal

pub returns-clause-rows : goal.returns-clause-rows
returns-clause-rows c =
    let rows = ap segment_rows c.deref-2.ensures.value ∙ c.in_ok-segments.ensures ∙ ap (λ b. rows_in (flat b))
    c.deref.ensures.value ∙ rows_live c.self.inside c.args.self.now c.self.invariant c.self.view_is in
    c.in_ok-dealt.ensures.rows ∙ ap (refs_by c.args.keys.now) rows

pub returns-clause-runs : goal.returns-clause-runs
returns-clause-runs c =
    let rows = ap segment_rows c.deref-2.ensures.value ∙ c.in_ok-segments.ensures ∙ ap (λ b. rows_in (flat b))
    c.deref.ensures.value ∙ rows_live c.self.inside c.args.self.now c.self.invariant c.self.view_is in
    subst (λ l. AreRunsOf c.args.keys.now l c.in_ok-dealt.dealt.runs.items) rows c.in_ok-dealt.ensures.runs
