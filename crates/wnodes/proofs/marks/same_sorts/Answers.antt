use Rattle.std.proofs.Common.{refl, ◌∙◌, sym}
use Rattle.wnodes.specs.Sameness.{are_same_keys}
use Rattle.wnodes.specs.Heads.{said_keys}
use Rattle.wnodes.proofs.Equal.{ends}
use Rattle.wnodes.proofs.marks.same_sorts.Goals as goal

pub returns : goal.returns
returns c =
    ends (λ xs ys. are_same_keys (said_keys xs) (said_keys ys)) refl (λ y ys. refl) c.args.a.now c.args.b.now
    c.keys.x-index c.keys.place c.keys-test.false c.keys.invariant.0 ∙ sym c.keys.invariant.1
