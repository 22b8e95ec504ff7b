use Rattle.std.proofs.Common.{◌≡◌, ℕ, length, map, drop}
use Rattle.wvalues.specs.Meaning.{Meaning}
use Rattle.wframe.specs.Places.{places}
use Rattle.wcalls.specs.Kept.{number_read}
use Rattle.waggregate.specs.Put.{put_all}
use Rattle.wcalls.proofs.other_rows.OtherRowRowFunction.keep.Given as goal

abbrev pub invariant-loop-place : goal.invariant-loop-place
invariant-loop-place g l =
    let number : ℕ → ℕ = λ place. number_read l.rows (g.P.RowPlaces.place_read l.self.places (length l.rows) l.frames place) in
    record {
      long : length l.kept ≡ length l.fn.kept;
      put : (meant : ℕ → Meaning) → put_all (map meant l.kept) (drop l.place l.rows)
          (drop l.place (map (λ place. meant (number place)) (places (length l.rows))))
          ≡ put_all (map meant l.fn.kept) l.rows (map (λ place. meant (number place)) (places (length l.rows)));
    }
