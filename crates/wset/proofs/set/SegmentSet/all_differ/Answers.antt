use Rattle.std.proofs.Common.{◌↔◌, ◌∙◌, IsTrue, subst, sym, true≢false}
use Rattle.wruns.specs.Differing.{AllDiffer}
use Rattle.wruns.specs.Runs.{joined}
use Rattle.wentries.specs.Blocks.{flat}
use Rattle.wentries.specs.Keeping.{rows_in}
use Rattle.wset.proofs.KeptOrderFacts.{note_of}
use Rattle.wset.proofs.RunFacts.{rows_live}
use Rattle.wset.proofs.set.SegmentSet.all_differ.Goals as goal

pub returns-in-Some-clause-differ : goal.returns-in-Some-clause-differ
returns-in-Some-clause-differ c =
    let rows = rows_live c.self.inside c.args.self.now c.self.invariant c.self.view_is in
    (subst (λ l. IsTrue c.in-Some.differ ↔ AllDiffer c.args.keys.now (joined l)) rows
    (c.in-Some.ensures (rows_in (flat c.self.inside.blocks.items)) c.self.invariant.noted)).0

pub returns-in-Some-clause-shared : goal.returns-in-Some-clause-shared
returns-in-Some-clause-shared c =
    let rows = rows_live c.self.inside c.args.self.now c.self.invariant c.self.view_is in
    let told = subst (λ l. IsTrue c.in-Some.differ ↔ AllDiffer c.args.keys.now (joined l)) rows
    (c.in-Some.ensures (rows_in (flat c.self.inside.blocks.items)) c.self.invariant.noted) in
    λ h differ. absurd (true≢false (sym (told.1 differ) ∙ h))

pub invariant_of-self : goal.invariant_of-self
invariant_of-self c =
    let s = c.self-2.inside in
    let rows = rows_live s c.make.new.self c.self-2.invariant c.self-2.view_is in
    record {
      rising = c.self-2.invariant.rising;
      settled = c.self-2.invariant.settled;
      counted = c.self-2.invariant.counted;
      few = c.self-2.invariant.few;
      read = c.self-2.invariant.read;
      placed = c.self-2.invariant.placed;
      starts = c.self-2.invariant.starts;
      ordered = c.self-2.invariant.ordered;
      noted = note_of c.note.result c.args.keys.now c.in_ok-differ.differ (rows_in (flat s.blocks.items)) c.note.ensures.keys
          c.note.ensures.differ (subst (λ l. IsTrue c.in_ok-differ.differ ↔ AllDiffer c.args.keys.now (joined l)) (sym rows)
          c.in_ok-differ.ensures);
    }
