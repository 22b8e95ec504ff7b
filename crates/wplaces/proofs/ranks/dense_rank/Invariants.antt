use Rattle.std.proofs.Common.{◌≡◌, ◌+◌, ℕ, map}
use Rattle.wframe.specs.Places.{places}
use Rattle.wplaces.specs.Ranks.{dense_rank_of}
use Rattle.wplaces.proofs.ranks.dense_rank.Given as goal

abbrev pub invariant-loop-row : goal.invariant-loop-row
invariant-loop-row l = record {
  ranks : l.ranks.items ≡ map (dense_rank_of l.frames) (places l.row);
  before : (j : ℕ) → l.row ≡ j + 1 → l.rank ≡ dense_rank_of l.frames j;
}
