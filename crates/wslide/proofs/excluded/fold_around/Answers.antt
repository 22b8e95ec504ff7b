use Rattle.wslide.proofs.Around.{around}
use Rattle.wslide.proofs.Queues.{filled_parts}
use Rattle.wslide.proofs.excluded.fold_around.Goals as goal

pub fold-front-requires-clause-kept : goal.fold-front-requires-clause-kept
fold-front-requires-clause-kept g c = c.requires.before_filled.kept

pub fold-rear-requires-clause-kept : goal.fold-rear-requires-clause-kept
fold-rear-requires-clause-kept g c = c.requires.behind_filled.kept

pub returns-clause-value : goal.returns-clause-value
returns-clause-value g c =
    let f = c.args.fold.now in
    let is_part = g.F.Fold.is_part f in
    let neutral = g.F.Fold.neutral f in
    let joined = g.F.Fold.joined f in
    around (g.met.F.Fold.laws f) (g.F.Fold.part_at f) c.args.held.before c.args.within c.args.held.behind
    c.fold-front.result c.join_rows-middle.result c.fold-rear.result c.join.result
    (c.fold-front.ensures.value _ c.requires.before_filled)
    c.join_rows-middle.ensures.value c.join_rows-middle.ensures.part
    (c.fold-rear.ensures.value _ c.requires.behind_filled)
    (filled_parts is_part neutral joined _ c.args.behind.now c.requires.behind_filled)
    c.join.ensures.value
