use Rattle.std.proofs.Common.{◌-◌, ap, ◌∙◌, length}
use Rattle.std.specs.Prelude.{slice_get}
use Rattle.wslide.proofs.Queues.{both_total}
use Rattle.wslide.proofs.queue.FoldQueue.fold.Goals as goal

pub returns-in-Some-clause-value : goal.returns-in-Some-clause-value
returns-in-Some-clause-value g c held h =
    let f = c.args.fold.now in
    let top = c.in-Some.ensures.value ∙ ap (λ l. slice_get l (length l - 1)) c.deref.ensures.value in
    c.join.ensures.value ∙ both_total (g.F.Fold.is_part f) (g.F.Fold.neutral f) (g.F.Fold.joined f) (g.met.F.Fold.laws f)
    held c.args.self.now c.in-Some.front.now top h
