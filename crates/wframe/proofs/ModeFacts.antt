-- In every mode the bounds of ordered rows are cuts.
use Rattle.std.proofs.Common.{◌≡◌, ℕ, zero, suc, ◌+◌, ◌-◌, ◌<◌, ◌≤◌, not, List, length, sym, ap, ◌∙◌, refl, arith}
use Rattle.std.specs.declared.cmp.Ordering.{Ordering}
use Rattle.std.specs.declared.cmp.Ordering.TheVariants.{Less, Equal, Greater}
use Rattle.wvalues.specs.declared.key.SortKey.{SortKey}
use Rattle.wvalues.specs.Meaning.{Meaning}
use Rattle.wvalues.specs.Order.{keys_cmp}
use Rattle.wvalues.specs.OrderLaws.{keys_total}
use Rattle.wframe.specs.declared.frame.FrameMode.{FrameMode}
use Rattle.wframe.specs.declared.frame.FrameMode.TheVariants.{Rows, Groups, Range}
use Rattle.wframe.specs.declared.frame.FrameBound.{FrameBound}
use Rattle.wframe.specs.Peers.{AreOrdered, key_at, group_number}
use Rattle.wframe.specs.Cuts.{IsCut}
use Rattle.wframe.specs.Frame.{is_before_start, is_after_end}
use Rattle.wframe.proofs.BoundFacts.{number_start_cut, number_end_cut, key_start_cut, key_end_cut}
use Rattle.wframe.proofs.NumberFacts.{same_number, next_number}

-- what rises by steps rises
rises_far : (n : ℕ) (at : ℕ → ℕ) → ((i : ℕ) → i + 1 < n → at i ≤ at (i + 1)) → (i k : ℕ) → i + k < n → at i ≤ at (i + k)
rises_far n at step i zero h = let e : i ≡ i + 0 = omega arith in let f = ap at e in omega (arith, f)
rises_far n at step i (suc k) h =
    let l : i + k < n = omega arith in
    let e : i + k + 1 ≡ i + suc k = omega arith in
    let f = ap at e in
    omega (arith, f, rises_far n at step i k l, step (i + k) (omega arith))

rises_to : (n : ℕ) (at : ℕ → ℕ) → ((i : ℕ) → i + 1 < n → at i ≤ at (i + 1)) → (i j : ℕ) → i ≤ j → j < n → at i ≤ at j
rises_to n at step i j l h =
    let e : i + (j - i) ≡ j = omega arith in
    let f = ap at e in
    omega (arith, f, rises_far n at step i (j - i) (omega arith))

module _ (ks : List SortKey) (keys : List (List Meaning)) (ordered : AreOrdered (keys_cmp ks) keys) where
  number_step : (i : ℕ) → i + 1 < length keys → group_number (keys_cmp ks) keys i ≤ group_number (keys_cmp ks) keys (i + 1)
  number_step i h = by_order (keys_cmp ks (key_at keys i) (key_at keys (i + 1))) refl
    where
      by_order : (r : Ordering) → r ≡ keys_cmp ks (key_at keys i) (key_at keys (i + 1))
          → group_number (keys_cmp ks) keys i ≤ group_number (keys_cmp ks) keys (i + 1)
      by_order Equal e = omega (arith, same_number (keys_total ks) keys ordered i (sym e))
      by_order Less e = omega (arith, next_number (keys_total ks) keys ordered i h (λ f. let g : Less ≡ Equal = e ∙ f in cc))
      by_order Greater e = omega (arith, next_number (keys_total ks) keys ordered i h (λ f. let g : Greater ≡ Equal = e ∙ f in cc))

  pub numbers_rise : (i j : ℕ) → i ≤ j → j < length keys → group_number (keys_cmp ks) keys i ≤ group_number (keys_cmp ks) keys j
  numbers_rise = rises_to (length keys) (group_number (keys_cmp ks) keys) number_step

  pub mode_start_cut : (mode : FrameMode) (bound : FrameBound) → IsCut (length keys) (is_before_start ks keys mode bound)
  mode_start_cut Rows bound = number_start_cut (length keys) (λ i. i) (λ i j l h. l) bound
  mode_start_cut Groups bound = number_start_cut (length keys) (group_number (keys_cmp ks) keys) numbers_rise bound
  mode_start_cut Range bound = key_start_cut ks (length keys) (key_at keys) ordered bound

  pub mode_end_cut : (mode : FrameMode) (bound : FrameBound) → IsCut (length keys) (λ i j. not (is_after_end ks keys mode bound i j))
  mode_end_cut Rows bound = number_end_cut (length keys) (λ i. i) (λ i j l h. l) bound
  mode_end_cut Groups bound = number_end_cut (length keys) (group_number (keys_cmp ks) keys) numbers_rise bound
  mode_end_cut Range bound = key_end_cut ks (length keys) (key_at keys) ordered bound
