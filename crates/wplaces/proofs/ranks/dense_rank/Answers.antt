use Rattle.std.proofs.Common.{◌≡◌, ap, ◌∙◌, arith}
use Rattle.wplaces.specs.Ranks.{dense_rank_of}
use Rattle.wplaces.proofs.RowFacts.{more_answers}
use Rattle.wplaces.proofs.ranks.dense_rank.Goals as goal

pub loop-row-preserved : goal.loop-row-preserved
loop-row-preserved c =
    let p = c.args.frames.now in
    let row = c.loop-row.row in
    record {
      ranks = more_answers (dense_rank_of p) c.loop-row.ranks.items c.push.new.self.items row c.next_dense_rank-rank.result
          c.loop-row.invariant.ranks c.in_ok-push.ensures.items c.next_dense_rank-rank.ensures;
      before = λ j e. let at : row ≡ j = omega (arith, e) in c.next_dense_rank-rank.ensures ∙ ap (dense_rank_of p) at;
    }
