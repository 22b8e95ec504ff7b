-- The rows of a group of peers.
use Rattle.std.proofs.Common.{◌≡◌, ℕ, ◌<◌, ◌≤◌, true, not, List, length, sym, ap, ◌∙◌, refl, arith}
use Rattle.std.specs.Ordering.{is_lt, is_eq}
use Rattle.std.specs.Cmp.{IsTotalOrder}
use Rattle.std.specs.declared.cmp.Ordering.{Ordering}
use Rattle.std.specs.declared.cmp.Ordering.TheVariants.{Less, Equal, Greater}
use Rattle.std.proofs.lemmas.Bool.Decides.{nat_tests}
use Rattle.std.proofs.lemmas.Cmp.{alike_right}
use Rattle.wvalues.specs.Meaning.{Meaning}
use Rattle.wframe.specs.declared.frame.Span.{Span}
use Rattle.wframe.specs.Places.{is_in_span}
use Rattle.wframe.specs.Peers.{key_at, are_peers, is_before, is_upto}
use Rattle.wframe.specs.Cuts.{CutsAt}
use Rattle.wframe.specs.Partitions.{IsGroup}
use Rattle.wframe.proofs.CutFacts.{cut_same}
use Rattle.wframe.proofs.FrameFacts.{in_peers}

equal_from : (r : Ordering) → is_eq r ≡ true → r ≡ Equal
equal_from Less h = cc
equal_from Equal h = refl
equal_from Greater h = cc

in_span : (s : Span) (i : ℕ) → s.from ≤ i → i < s.to → is_in_span s i ≡ true
in_span s i l h = grind (arith, nat_tests)

module _ {R : List Meaning → List Meaning → Ordering} (o : IsTotalOrder R) (keys : List (List Meaning)) where
  -- a peer of a row has its peers
  same_group : (i k : ℕ) (s : Span) → R (key_at keys i) (key_at keys k) ≡ Equal → IsGroup R keys i s → IsGroup R keys k s
  same_group i k s e g = record {
    start = cut_same (length keys) (is_before R keys i) (is_before R keys k) s.from
        (λ j. ap is_lt (alike_right o (key_at keys i) (key_at keys k) (key_at keys j) e)) g.start;
    end = cut_same (length keys) (is_upto R keys i) (is_upto R keys k) s.to
        (λ j. ap (λ r. not (is_lt r)) (o.congr (key_at keys i) (key_at keys k) (key_at keys j) e)) g.end;
  }

  -- each row of a group has that group
  pub group_of_all : (from to : ℕ) → from < length keys → CutsAt (length keys) (is_before R keys from) from
      → CutsAt (length keys) (is_upto R keys from) to → (i : ℕ) → from ≤ i → i < to → IsGroup R keys i (record { from = from; to = to })
  group_of_all from to h at end i l k =
      let s : Span = record { from = from; to = to } in
      let hi : i < length keys = omega (arith, end.within) in
      let peer : are_peers R keys from i ≡ true = sym (in_peers o keys (length keys) from from to h at end i hi) ∙ in_span s i l k in
      same_group from i s (equal_from (R (key_at keys from) (key_at keys i)) peer) (record { start = at; end = end })
