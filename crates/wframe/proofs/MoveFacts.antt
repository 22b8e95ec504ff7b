-- The bounds of numbers end at moved numbers.
use Rattle.std.proofs.Common.{◌≡◌, ℕ, ◌+◌, ◌<◌, ◌≤◌, true, false, not, ltb, refl, arith, lt-ltb}
use Rattle.std.proofs.lemmas.Bool.Decides.{nat_tests}
use Rattle.wframe.specs.declared.frame.FrameBound.{FrameBound}
use Rattle.wframe.specs.declared.frame.FrameBound.TheVariants.{UnboundedPreceding, Preceding, CurrentRow, Following, UnboundedFollowing}
use Rattle.wframe.specs.Bounds.{starts_after, ends_before}
use Rattle.wframe.specs.Cuts.{CutsAt}
use Rattle.wframe.specs.Moves.{move_of, moved_number}

not_below : (a b : ℕ) → b ≤ a → ltb a b ≡ false
not_below a b h = grind (arith, nat_tests)

upto : (a b : ℕ) → b ≤ a → not (ltb a b) ≡ true
upto a b h = grind (arith, nat_tests)

beyond : (a b : ℕ) → a < b → not (ltb a b) ≡ false
beyond a b h = grind (arith, nat_tests)

pub starts_at : (bound : FrameBound) (n i : ℕ) → i < n → CutsAt n (starts_after bound i) (moved_number (move_of bound n) n i)
starts_at UnboundedPreceding n i h = record { within = omega arith; passed = λ j l. absurd (omega arith); others = λ j l k. refl }
starts_at (Preceding d) n i h = record {
  within = omega arith;
  passed = λ j l. lt-ltb (j + d) i (omega arith);
  others =
      λ j l k. not_below (j + d) i (omega arith);
}
starts_at CurrentRow n i h = record {
  within = omega arith;
  passed = λ j l. lt-ltb j i (omega arith);
  others =
      λ j l k. not_below j i (omega arith);
}
starts_at (Following d) n i h = record {
  within = omega arith;
  passed = λ j l. lt-ltb j (i + d) (omega arith);
  others =
      λ j l k. not_below j (i + d) (omega arith);
}
starts_at UnboundedFollowing n i h = record { within = omega arith; passed = λ j l. refl; others = λ j l k. absurd (omega arith) }

pub ends_at : (bound : FrameBound) (n i : ℕ) → i < n
    → CutsAt n (λ j. not (ends_before bound i j)) (moved_number (move_of bound n) n (i + 1))
ends_at UnboundedPreceding n i h = record { within = omega arith; passed = λ j l. absurd (omega arith); others = λ j l k. refl }
ends_at (Preceding d) n i h = record {
  within = omega arith;
  passed = λ j l. upto i (j + d) (omega arith);
  others =
      λ j l k. beyond i (j + d) (omega arith);
}
ends_at CurrentRow n i h = record {
  within = omega arith;
  passed = λ j l. upto i j (omega arith);
  others =
      λ j l k. beyond i j (omega arith);
}
ends_at (Following d) n i h = record {
  within = omega arith;
  passed = λ j l. upto (i + d) j (omega arith);
  others =
      λ j l k. beyond (i + d) j (omega arith);
}
ends_at UnboundedFollowing n i h = record { within = omega arith; passed = λ j l. refl; others = λ j l k. absurd (omega arith) }
