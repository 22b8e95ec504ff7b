use Rattle.std.proofs.Common.{sym, ap, ◌∙◌}
use Rattle.wruns.specs.Runs.{joined, RunParts}
use Rattle.wruns.proofs.CutFacts.{joined_pieces}
use Rattle.wruns.proofs.run.Run.rows.Goals as goal

pub returns : goal.returns
returns c = c.as_slice.ensures.value ∙ sym (joined_pieces c.self.inside.ends c.self.inside.rows.items c.self.invariant)
    ∙ ap (λ (p : RunParts). joined p.groups) c.self.view_is
