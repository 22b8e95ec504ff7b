use Rattle.std.proofs.Common.{length, map, get_or, [], ◌∷◌, subst, sym, ap, ◌∙◌, arith}
use Rattle.std.proofs.lemmas.List.{length-map}
use Rattle.wruns.specs.Cuts.{cut, pieces_of, AreEnds, AreEndsOf}
use Rattle.wruns.specs.Runs.{RunParts}
use Rattle.wruns.proofs.CutFacts.{length-pieces}
use Rattle.wruns.proofs.run.Run.group.Goals as goal

pub single-requires : goal.single-requires
single-requires c =
    let rows = c.self.inside.rows.items in
    omega (
      arith,
      c.requires,
      ap (λ (p : RunParts). length p.groups) c.self.view_is,
      ap (λ o. length (pieces_of o rows))
          c.in-None.is,
      length-map rows (λ x. x ∷ []),
      ap length c.deref.ensures.value,
    )

pub piece-requires-clause-ends : goal.piece-requires-clause-ends
piece-requires-clause-ends c =
    let rows = c.self.inside.rows.items in
    let ends : AreEnds 0 c.in-Some.ends.items (length rows) = subst (λ o. AreEndsOf o rows) c.in-Some.is c.self.invariant in
    rw (c.deref-in-Some.ensures.value, c.deref-in-Some-2.ensures.value) ends

pub piece-requires-clause-number : goal.piece-requires-clause-number
piece-requires-clause-number c =
    let rows = c.self.inside.rows.items in
    omega (
      arith,
      c.requires,
      ap (λ (p : RunParts). length p.groups) c.self.view_is,
      ap (λ o. length (pieces_of o rows))
          c.in-Some.is,
      length-pieces c.in-Some.ends.items rows,
      ap length c.deref-in-Some-2.ensures.value,
    )

pub returns-in-None : goal.returns-in-None
returns-in-None c =
    let rows = c.self.inside.rows.items in
    c.single.ensures ∙ ap (λ l. get_or (map (λ x. x ∷ []) l) c.args.number []) c.deref.ensures.value
    ∙ sym (ap (λ o. get_or (pieces_of o rows) c.args.number []) c.in-None.is)
    ∙ ap (λ (p : RunParts). get_or p.groups c.args.number []) c.self.view_is

pub returns-in-Some : goal.returns-in-Some
returns-in-Some c =
    let rows = c.self.inside.rows.items in
    c.piece.ensures ∙ ap (λ l. get_or (cut 0 c.deref-in-Some-2.result.now l) c.args.number []) c.deref-in-Some.ensures.value
    ∙ ap (λ l. get_or (cut 0 l rows) c.args.number []) c.deref-in-Some-2.ensures.value
    ∙ sym (ap (λ o. get_or (pieces_of o rows) c.args.number []) c.in-Some.is)
    ∙ ap (λ (p : RunParts). get_or p.groups c.args.number []) c.self.view_is
