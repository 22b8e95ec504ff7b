-- What the steps of a queue keep of the parts that it holds.
use Rattle.std.proofs.Common.{◌≡◌, ℕ, suc, ◌+◌, ◌-◌, ◌<◌, List, [], ◌∷◌, ◌++◌, length, take}
use Rattle.std.proofs.Common.{drop, Some, sym, ap, ◌∙◌, refl, arith, append_assoc}
use Rattle.std.specs.Prelude.{All, reverse, slice_get}
use Rattle.std.proofs.lemmas.List.{reverse-append}
use Rattle.std.proofs.lemmas.List.Elements.{All-append, All-take}
use Rattle.wslide.specs.declared.queue.FoldQueue.{FoldQueue}
use Rattle.wslide.specs.Laws.{FoldLaws, total}
use Rattle.wslide.specs.Queue.{part_count, KeepsParts, IsFilledBy}
use Rattle.wslide.proofs.Totals.{total-append}
use Rattle.wslide.proofs.Stacks.{running-take, length-running, top_running, gathered_is_total, All-reversed}

module _ {P : Type 0} (is_part : P → Type 0) (neutral : P) (joined : P → P → P) where
  -- what a queue holds are parts
  pub filled_parts : (held : List P) (q : FoldQueue P) → IsFilledBy is_part neutral joined held q → All is_part held
  filled_parts held q h = rw h.parts (All-append is_part (reverse h.older) q.back.items
      (All-reversed is_part h.older h.older_parts) h.kept.back)

  drop_reversed : (xs ys : List P) → 0 < length xs → drop 1 (reverse xs ++ ys) ≡ reverse (take (length xs - 1) xs) ++ ys
  drop_reversed [] ys h = absurd (omega (arith, h))
  drop_reversed (x ∷ []) ys h = refl
  drop_reversed (x ∷ z ∷ zs) ys h =
      let rest = take (length zs) (z ∷ zs) in
      let some : 0 < length (z ∷ zs) = omega arith in
      let l : length (z ∷ zs) - 1 ≡ length zs = omega arith in
      let two : suc (suc (length zs)) - 1 ≡ suc (length zs) = omega arith in
      ap (drop 1) (ap (λ l. l ++ ys) (reverse-append (x ∷ []) (z ∷ zs)) ∙ append_assoc (reverse (z ∷ zs)) (x ∷ []) ys)
      ∙ drop_reversed (z ∷ zs) (x ∷ ys) some
      ∙ ap (λ n. reverse (take n (z ∷ zs)) ++ x ∷ ys) l
      ∙ sym (ap (λ n. reverse (take n (x ∷ z ∷ zs)) ++ ys) two ∙ ap (λ l. l ++ ys) (reverse-append (x ∷ []) rest)
      ∙ append_assoc (reverse rest) (x ∷ []) ys)

  length-drop_one : (xs : List P) (n : ℕ) → length xs ≡ n + 1 → length (drop 1 xs) ≡ n
  length-drop_one [] n e = omega (arith, e)
  length-drop_one (x ∷ xs) n e = omega (arith, e)

  -- without the oldest part
  pub filled_less : (held : List P) (q next : FoldQueue P) (some : ℕ) → some ≡ length q.front.items → 0 < some
      → next.front.items ≡ take (some - 1) q.front.items → next.back.items ≡ q.back.items → next.back_fold ≡ q.back_fold
      → part_count next + 1 ≡ part_count q → KeepsParts is_part next
      → IsFilledBy is_part neutral joined held q → IsFilledBy is_part neutral joined (drop 1 held) next
  filled_less held q next some m l f b e n k h =
      let long : some ≡ length h.older = m ∙ ap length h.front ∙ length-running joined neutral h.older in
      let some_older : 0 < length h.older = omega (arith, long, l) in
      let left = length h.older - 1 in
      record {
        kept = k;
        older = take left h.older;
        older_parts = All-take is_part left h.older h.older_parts;
        front = f ∙ ap (λ m. take (m - 1) q.front.items) long ∙ ap (take left) h.front ∙ sym (running-take joined left neutral h.older);
        back_fold = e ∙ h.back_fold ∙ ap (total neutral joined) (sym b);
        parts = ap (drop 1) h.parts ∙ drop_reversed h.older q.back.items some_older ∙ ap (λ xs. reverse (take left h.older) ++ xs) (sym b);
        count = length-drop_one held (part_count next) (h.count ∙ sym n);
      }

  -- the fold of what a queue holds, where a part is among the folds
  pub both_total : FoldLaws is_part neutral joined → (held : List P) (q : FoldQueue P) (top : P)
      → Some top ≡ slice_get q.front.items (length q.front.items - 1) → IsFilledBy is_part neutral joined held q
      → joined top q.back_fold ≡ total neutral joined held
  both_total laws held q top s h =
      let whole = top_running joined neutral h.older q.front.items top h.front s in
      ap (λ t. joined t q.back_fold) (whole ∙ gathered_is_total laws h.older h.older_parts)
      ∙ ap (joined (total neutral joined (reverse h.older))) h.back_fold
      ∙ sym (ap (total neutral joined) h.parts ∙ total-append laws (reverse h.older) q.back.items
      (All-reversed is_part h.older h.older_parts) h.kept.back)
