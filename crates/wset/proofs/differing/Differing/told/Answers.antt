use Rattle.std.proofs.Common.{◌∙◌, sym}
use Rattle.std.proofs.lemmas.Slice.Eq.{slice_eq-Decides}
use Rattle.wruns.proofs.RunFacts.{key_decides}
use Rattle.wset.proofs.KeptOrderFacts.{noted}
use Rattle.wset.proofs.differing.Differing.told.Goals as goal

pub returns-then-eq : goal.returns-then-eq
returns-then-eq c =
    let d = slice_eq-Decides key_decides c.as_slice.result.now c.args.keys.now c.eq.result c.eq.ensures in
    λ rows h. noted c.args.noted.now c.in-Some.note c.args.keys.now rows c.in-Some.is
    (sym c.as_slice.ensures.value ∙ d.0 c.if-eq.true) h
