use Rattle.std.proofs.Common.{sym, inl, inr, ⊎_elim, ◌∙◌}
use Rattle.wentries.proofs.Floors.{both_cases}
use Rattle.wset.proofs.Merging.{known_told, told_known}
use Rattle.wset.proofs.merge.adds.Goals as goal

pub returns-then-is_low-clause-known : goal.returns-then-is_low-clause-known
returns-then-is_low-clause-known c = λ e. inl (sym c.is_low.ensures ∙ c.if-is_low.true)

pub returns-in-Some-clause-known : goal.returns-in-Some-clause-known
returns-in-Some-clause-known c = λ e. inr (told_known _ _ _ (sym c.in-Some.ensures.known) (c.learns.ensures.known e))

pub returns-in-Some-clause-new : goal.returns-in-Some-clause-new
returns-in-Some-clause-new c = λ known. ⊎_elim (λ low. absurd (both_cases _ (c.is_low.ensures ∙ low) c.if-is_low.false))
    (λ told. c.learns.ensures.new (known_told _ _ _ (sym c.in-Some.ensures.known) told)) known
