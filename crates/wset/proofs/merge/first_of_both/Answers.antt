use Rattle.std.proofs.Common.{sym, subst}
use Rattle.wset.specs.Merging.{Joins}
use Rattle.wset.proofs.Merging.{step_less, step_greater, step_equal}
use Rattle.wset.proofs.merge.first_of_both.Goals.{in-Less+in_ok-share-in-Less, in-Equal+in_ok-joined-in-Equal}
use Rattle.wset.proofs.merge.first_of_both.Goals.{in-Greater+in_ok-share-in-Greater}
use Rattle.wset.proofs.merge.first_of_both.Goals as goal

pub returns : goal.returns
returns c =
    let ours = c.in-Some.ensures.cases.0 in
    let theirs = c.in-Some-split_first.ensures.cases.0 in
    elim c.match-cmp.branch [
      | in-Less+in_ok-share-in-Less w ↦ subst (λ e. Joins c.args.ours.now c.args.theirs.now e.0 e.1.now e.2.now) (sym w.entry-is)
          (step_less _ _ c.requires.ours c.requires.theirs c.in-Some.first.now c.in-Some-split_first.other.now _ _ _ ours
          theirs (sym w.in-Less.ensures) w.in_ok-share-in-Less.ensures)
      | in-Equal+in_ok-joined-in-Equal w ↦ subst (λ e. Joins c.args.ours.now c.args.theirs.now e.0 e.1.now e.2.now) (sym w.entry-is)
          (step_equal _ _ c.requires.ours c.requires.theirs c.in-Some.first.now c.in-Some-split_first.other.now _ _ _ ours
          theirs (sym w.in-Equal.ensures) w.in_ok-joined-in-Equal.ensures.known w.in_ok-joined-in-Equal.ensures.read)
      | in-Greater+in_ok-share-in-Greater w ↦ subst (λ e. Joins c.args.ours.now c.args.theirs.now e.0 e.1.now e.2.now) (sym w.entry-is)
          (step_greater _ _ c.requires.ours c.requires.theirs c.in-Some.first.now c.in-Some-split_first.other.now _ _ _ ours
          theirs (sym w.in-Greater.ensures) w.in_ok-share-in-Greater.ensures)
    ]
