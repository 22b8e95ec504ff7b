use Rattle.std.proofs.Common.{◌≡◌, ◌+◌, ℕ, length, map, drop}
use Rattle.wvalues.specs.Meaning.{Meaning}
use Rattle.wframe.specs.Places.{places}
use Rattle.waggregate.specs.Put.{put_all}
use Rattle.wcalls.proofs.counts.CountedRowFunction.keep.Given as goal

abbrev pub invariant-loop-place : goal.invariant-loop-place
invariant-loop-place g l =
    let count_at : ℕ → ℕ = g.N.Counts.count_at l.self.counts (length l.rows) l.frames in
    record {
      long : length l.kept ≡ length l.fn.kept;
      put : (meant : ℕ → Meaning) → put_all (map meant l.kept) (drop l.place l.rows)
          (drop l.place (map (λ place. meant (count_at place)) (places (length l.rows))))
          ≡ put_all (map meant l.fn.kept) l.rows (map (λ place. meant (count_at place)) (places (length l.rows)));
      before : (j : ℕ) → l.place ≡ j + 1 → l.count ≡ count_at j;
    }
