-- Ranks and first peers.
use Rattle.std.proofs.Common.{◌≡◌, ℕ, zero, suc, ◌-◌, ◌<◌, ◌≤◌, Bool, true, false, cond, List}
use Rattle.std.proofs.Common.{[], ◌∷◌, length, get_or, nat_lt, refl, sym, ap, ◌∙◌, arith}
use Rattle.std.specs.List.{filter}
use Rattle.std.specs.Ordering.{is_lt, is_eq, is_gt, ordering_reverse}
use Rattle.std.specs.Cmp.{IsTotalOrder}
use Rattle.std.specs.declared.cmp.Ordering.{Ordering}
use Rattle.std.specs.declared.cmp.Ordering.TheVariants.{Less, Equal, Greater}
use Rattle.wvalues.specs.Order.{keys_cmp}
use Rattle.wvalues.specs.OrderLaws.{keys_total}
use Rattle.wframe.specs.Peers.{key_at, smaller_keys, AreOrdered}
use Rattle.wframe.specs.Partition.{Partition}
use Rattle.wframe.specs.Places.{places}
use Rattle.wplaces.specs.Ranks.{row_number_of, rank_of, IsFirstPeer}
use Rattle.wplaces.proofs.RowFacts.{length_before}

less_of : (r : Ordering) → is_gt r ≡ false → is_eq r ≡ false → is_lt r ≡ true
less_of Less g e = refl
less_of Equal g e = sym e
less_of Greater g e = sym g

equal_of : (r : Ordering) → is_eq r ≡ true → r ≡ Equal
equal_of Less e = cc
equal_of Equal e = refl
equal_of Greater e = cc

not_less : (r s : Ordering) → s ≡ ordering_reverse r → is_gt r ≡ false → is_lt s ≡ false
not_less Less s e g = ap is_lt e
not_less Equal s e g = ap is_lt e
not_less Greater s e g = ap is_lt e ∙ g

-- what is not smaller than a key is not smaller than its peers
not_smaller : {K : Type 0} {R : K → K → Ordering} → IsTotalOrder R → (x y z : K) → is_eq (R x z) ≡ true
    → is_gt (R x y) ≡ false → is_lt (R y z) ≡ false
not_smaller {R = R} o x y z e g = not_less (R z y) (R y z) (o.antisymm y z) (ap is_gt (sym (o.congr x z y (equal_of (R x z) e))) ∙ g)

-- how many pass, where just the first do
length_front : {K : Type 0} (test : K → Bool) (xs : List K) (n : ℕ) (d : K) → n ≤ length xs
    → ((j : ℕ) → j < n → test (get_or xs j d) ≡ true) → ((j : ℕ) → n ≤ j → j < length xs → test (get_or xs j d) ≡ false)
    → length (filter test xs) ≡ n
length_front test [] n d h front others = omega arith
length_front test (x ∷ xs) zero d h front others =
    ap (λ b. length (cond b (x ∷ filter test xs) (filter test xs))) (others 0 (omega arith) (omega arith))
    ∙ length_front test xs 0 d (omega arith) (λ j l. absurd (omega arith)) (λ j l m. others (suc j) (omega arith) (omega arith))
length_front test (x ∷ xs) (suc n) d h front others =
    ap (λ b. length (cond b (x ∷ filter test xs) (filter test xs))) (front 0 (omega arith))
    ∙ ap (λ k. suc k) (length_front test xs n d (omega arith) (λ j l. front (suc j) (omega arith))
    (λ j l m. others (suc j) (omega arith) (omega arith)))

pub rank_from_first_peer : (p : Partition) (i first : ℕ) → AreOrdered (keys_cmp p.order) p.keys → i < length p.keys
    → IsFirstPeer p i first → rank_of p i ≡ row_number_of p first
rank_from_first_peer p i first ordered h peer =
    let low : first ≤ i = peer.upto in
    let smaller : length (smaller_keys (keys_cmp p.order) p.keys i) ≡ first =
    length_front (λ key. is_lt (keys_cmp p.order key (key_at p.keys i))) p.keys first [] (omega arith)
    (λ j l. less_of (keys_cmp p.order (key_at p.keys j) (key_at p.keys i)) (ordered j i (omega arith) h) (peer.none_before j l))
    (λ j l m. not_smaller (keys_total p.order) (key_at p.keys first) (key_at p.keys j) (key_at p.keys i) peer.peer (ordered first j l m)) in
    let before : length (filter (λ j. nat_lt j first) (places (length p.keys))) ≡ first - 0 =
    length_before 0 (length p.keys) first (omega arith) in
    omega arith
