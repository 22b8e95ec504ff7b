use Rattle.std.proofs.Common.{◌∙◌, sym}
use Rattle.std.proofs.lemmas.Slice.Eq.{slice_eq-Decides}
use Rattle.wruns.proofs.RunFacts.{key_decides}
use Rattle.wset.proofs.kept_order.is_by.Goals as goal

pub returns : goal.returns
returns c =
    let d = slice_eq-Decides key_decides c.as_slice.result.now c.args.keys.now c.eq.result c.eq.ensures in
    λ h. sym c.as_slice.ensures.value ∙ d.0 h
