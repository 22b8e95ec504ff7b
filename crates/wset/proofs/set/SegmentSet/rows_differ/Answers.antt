use Rattle.std.proofs.Common.{◌↔◌, IsTrue, ap, subst, sym, ◌∙◌}
use Rattle.wruns.specs.Dealing.{segment_rows}
use Rattle.wruns.specs.Differing.{AllDiffer}
use Rattle.wruns.specs.Refs.{refs_by}
use Rattle.wruns.specs.Runs.{joined}
use Rattle.wentries.specs.Blocks.{flat}
use Rattle.wentries.specs.Keeping.{rows_in}
use Rattle.wset.proofs.RunFacts.{rows_live}
use Rattle.wset.proofs.set.SegmentSet.rows_differ.Goals as goal

pub all_differ-requires : goal.all_differ-requires
all_differ-requires c =
    let rows = ap segment_rows c.deref-2.ensures.value ∙ c.in_ok-segments.ensures ∙ ap (λ b. rows_in (flat b))
    c.deref.ensures.value ∙ rows_live c.self.inside c.args.self.now c.self.invariant c.self.view_is in
    c.requires ∙ ap (refs_by c.args.keys.now) (sym rows)

pub returns : goal.returns
returns c =
    let rows = ap segment_rows c.deref-2.ensures.value ∙ c.in_ok-segments.ensures ∙ ap (λ b. rows_in (flat b))
    c.deref.ensures.value ∙ rows_live c.self.inside c.args.self.now c.self.invariant c.self.view_is in
    subst (λ l. IsTrue c.all_differ.result ↔ AllDiffer c.args.keys.now (joined l)) rows c.all_differ.ensures
