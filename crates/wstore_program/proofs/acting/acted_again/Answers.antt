use Rattle.std.proofs.Common.{◌∙◌, sym, subst}
use Rattle.wstore_program.specs.Working.{GivesOn, given_bytes}
use Rattle.wstore_program.proofs.Performed.{grown_lacks, same_bytes}
use Rattle.wstore_program.proofs.acting.acted_again.Goals as goal

pub returns-then-eq-clause-acts : goal.returns-then-eq-clause-acts
returns-then-eq-clause-acts g c =
    subst (λ store. GivesOn c.args.work.now store (given_bytes c.args.given.now) c.args.first)
    (sym (same_bytes _ _ (sym c.eq.ensures ∙ c.if-eq.true))) c.requires.gives.1

pub returns-clause-kind : goal.returns-clause-kind
returns-clause-kind g c = grown_lacks c.acted.result c.grown.result c.grown.ensures.made c.grown.ensures.refused
