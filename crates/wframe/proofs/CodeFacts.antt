-- Codes of the rows of a span.
use Rattle.std.proofs.Common.{◌≡◌, ℕ, ◌+◌, ◌-◌, ◌<◌, ◌≤◌, List, [], length, get_or, None, Some, Option, sym, ap, ◌∙◌, refl, arith}
use Rattle.std.specs.Borrow.{Bor}
use Rattle.std.specs.Prelude.{◌==◌, option_map, slice_range}
use Rattle.std.specs.Ordering.{is_eq}
use Rattle.std.specs.declared.cmp.Ordering.{Ordering}
use Rattle.wvalues.specs.Meaning.{Meaning}
use Rattle.wframe.specs.Codes.{TellApart}
use Rattle.wframe.specs.Peers.{key_at}
use Rattle.wframe.proofs.PartitionFacts.{part_at, length-slice}

module _ (cmp : List Meaning → List Meaning → Ordering) (keys : List (List Meaning)) (from to : ℕ) (ordered : from ≤ to)
    (within : to ≤ length keys) where
  -- the rows of a span are told apart by its codes
  told_in_part : (codes : List ℕ) → TellApart cmp keys codes → TellApart cmp (slice_range keys from to) (slice_range codes from to)
  told_in_part codes told =
      let n = length-slice keys from to within in
      let m = length-slice codes from to (omega (arith, told.len, within)) in
      record {
        len = m ∙ sym n;
        alike = λ i j hi hj.
            let li : i < to - from = omega (arith, n, hi) in
            let lj : j < to - from = omega (arith, n, hj) in
            ap (λ x. x == get_or (slice_range codes from to) j 0) (part_at codes from to i 0 li)
            ∙ ap (λ y. get_or codes (from + i) 0 == y) (part_at codes from to j 0 lj)
            ∙ told.alike (from + i) (from + j) (omega (arith, within, li)) (omega (arith, within, lj))
            ∙ ap (λ x. is_eq (cmp x (key_at keys (from + j)))) (sym (part_at keys from to i [] li))
            ∙ ap (λ y. is_eq (cmp (key_at (slice_range keys from to) i) y)) (sym (part_at keys from to j [] lj));
      }

  -- the same of codes that may be lacking
  pub part_told : (part : List (List Meaning)) (codes told : Option (Bor (List ℕ))) (c : Bor (List ℕ))
      → part ≡ slice_range keys from to → ((x : Bor (List ℕ)) → codes ≡ Some x → TellApart cmp keys x.now)
      → option_map (λ x. x.now) told ≡ option_map (λ x. slice_range x.now from to) codes → told ≡ Some c → TellApart cmp part c.now
  part_told part None told c e each is some = cc
  part_told part (Some x) None c e each is some = cc
  part_told part (Some x) (Some y) c e each is some =
      let now : c.now ≡ slice_range x.now from to = cc in
      rw (e, now) (told_in_part x.now (each x refl))
