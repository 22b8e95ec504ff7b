use Rattle.std.proofs.Common.{◌-◌, arith, refl, vec_len, length, ap}
use Rattle.std.proofs.lemmas.List.{length-take}
use Rattle.std.proofs.lemmas.List.Elements.{All-pop}
use Rattle.wslide.proofs.Queues.{filled_less}
use Rattle.wslide.proofs.queue.FoldQueue.take_front.Goals as goal

pub returns-clause-filled : goal.returns-clause-filled
returns-clause-filled g c held h =
    let f = c.args.fold.now in
    let is_part = g.F.Fold.is_part f in
    let q = c.args.self.now in
    let kept = (All-pop is_part q.front.items c.pop.new.self.items c.pop.result c.pop.ensures.items c.requires.kept.front).0 in
    filled_less is_part (g.F.Fold.neutral f) (g.F.Fold.joined f) held q _ (vec_len q.front) (omega arith) c.requires.some
    c.pop.ensures.rest refl refl
    (omega (arith, c.requires.some, ap length c.pop.ensures.rest, length-take (vec_len q.front - 1) q.front.items))
    (record { front = kept; back = c.requires.kept.back; back_fold = c.requires.kept.back_fold })
    h
