use Rattle.std.proofs.Common.{◌∙◌, sym}
use Rattle.std.proofs.lemmas.Slice.Eq.{slice_eq-Decides}
use Rattle.wruns.proofs.RunFacts.{key_decides}
use Rattle.wruns.proofs.kept_runs.is_by.Goals as goal

pub returns : goal.returns
returns c =
    let d = slice_eq-Decides key_decides c.keys.result.now c.args.keys.now c.eq.result c.eq.ensures in
    (λ h. sym c.keys.ensures ∙ d.0 h, λ h. d.1 (c.keys.ensures ∙ h))
