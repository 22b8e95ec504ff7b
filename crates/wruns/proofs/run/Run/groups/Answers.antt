use Rattle.std.proofs.Common.{length, ap, arith}
use Rattle.wruns.specs.Cuts.{pieces_of}
use Rattle.wruns.specs.Runs.{RunParts}
use Rattle.wruns.proofs.CutFacts.{length-pieces}
use Rattle.wruns.proofs.run.Run.groups.Goals as goal

pub returns-in-Some : goal.returns-in-Some
returns-in-Some c =
    let rows = c.self.inside.rows.items in
    omega (
      arith,
      length-pieces c.in-Some.ends.items rows,
      ap (λ o. length (pieces_of o rows)) c.in-Some.is,
      ap (λ (p : RunParts). length p.groups) c.self.view_is,
      c.len-in-Some.ensures,
    )
