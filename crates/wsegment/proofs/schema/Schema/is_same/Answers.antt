use Rattle.std.proofs.Common.{◌∙◌, sym, ap}
use Rattle.std.proofs.lemmas.Bool.Decides.{Decides-eqb}
use Rattle.std.proofs.lemmas.Slice.Eq.{slice_eq-Decides}
use Rattle.wsegment.specs.Declaration.{declaration_text}
use Rattle.wsegment.proofs.SchemaFacts.{one-text}
use Rattle.wsegment.proofs.schema.Schema.is_same.Goals as goal

pub returns : goal.returns
returns c =
    let same = slice_eq-Decides Decides-eqb c.text.result.now c.text-2.result.now c.eq.result c.eq.ensures in (
      λ h. one-text c.args.self.now c.args.other.now c.text.ensures.well_formed c.text-2.ensures.well_formed
          (sym c.text.ensures.text ∙ same.0 h ∙ c.text-2.ensures.text),
      λ e. same.1 (c.text.ensures.text ∙ ap declaration_text e ∙ sym c.text-2.ensures.text),
    )
