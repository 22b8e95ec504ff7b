-- Numbers of groups, and what is kept for each group.
use Rattle.std.proofs.Common.{◌≡◌, ℕ, zero, suc, ◌+◌, ◌<◌, ◌≤◌, Bool, List, [], ◌∷◌, ◌++◌, length}
use Rattle.std.proofs.Common.{get_or, sym, ap, ◌∙◌, refl, arith, subst, inl, inr, ◌⊎◌}
use Rattle.std.specs.Cmp.{IsTotalOrder}
use Rattle.std.specs.declared.cmp.Ordering.{Ordering}
use Rattle.std.proofs.lemmas.Bool.{cases_lt}
use Rattle.wvalues.specs.Meaning.{Meaning}
use Rattle.wframe.specs.Peers.{is_before, is_upto}
use Rattle.wframe.specs.Cuts.{CutsAt, CutsFrom, HasNumberedCuts, BeginsWith}
use Rattle.wframe.specs.PeerGroups.{AreGroups, begins_of}
use Rattle.wframe.proofs.CutFacts.{more, last_more, long_more, cut_from, cut_same}
use Rattle.wframe.proofs.GroupSteps.{group_of_all}

-- what is kept stays in longer lists
pub numbered_stay : (first n : ℕ) (passes : ℕ → ℕ → Bool) (ns ms cs ds : List ℕ) → HasNumberedCuts first n passes ns cs
    → BeginsWith ns ms → BeginsWith cs ds → HasNumberedCuts first n passes ms ds
numbered_stay first n passes ns ms cs ds has b d = record {
  each = λ i h. subst (CutsFrom first n (passes i)) (sym (place i h)) (has.each i h);
  known = λ i h. omega (arith, number i h, has.known i h, d.long);
  long = omega (arith, has.long, b.long);
}
  where
    number : (i : ℕ) → i < n → get_or ms (first + i) 0 ≡ get_or ns (first + i) 0
    number i h = b.same (first + i) (omega (arith, has.long))

    place : (i : ℕ) → i < n → get_or ds (get_or ms (first + i) 0) 0 ≡ get_or cs (get_or ns (first + i) 0) 0
    place i h = ap (λ g. get_or ds g 0) (number i h) ∙ d.same (get_or ns (first + i) 0) (has.known i h)

pub begins_stay : (xs ys : List ℕ) → BeginsWith xs ys → BeginsWith (begins_of xs) (begins_of ys)
begins_stay xs ys b = record { same = at; long = omega (arith, b.long) }
  where
    at : (i : ℕ) → i < length (begins_of xs) → get_or (begins_of ys) i 0 ≡ get_or (begins_of xs) i 0
    at zero h = refl
    at (suc i) h = b.same i (omega arith)

-- a list that begins with a list that begins with another one
pub begins_through : (xs ys zs : List ℕ) → BeginsWith xs ys → BeginsWith ys zs → BeginsWith xs zs
begins_through xs ys zs b c = record { same = λ i h. c.same i (omega (arith, b.long)) ∙ b.same i h; long = omega (arith, b.long, c.long) }

-- behind the last group
pub last_begin : (es fs : List ℕ) (x : ℕ) → fs ≡ es ++ x ∷ [] → get_or (begins_of fs) (length fs) 0 ≡ x
last_begin es fs x e =
    let n : length fs ≡ suc (length es) = omega (arith, long_more es fs (length es) x e refl) in
    ap (λ k. get_or (begins_of fs) k 0) n ∙ last_more es fs (length es) x e refl

old_begin : (es fs : List ℕ) (x : ℕ) → fs ≡ es ++ x ∷ [] → (g : ℕ) → g ≤ length es → get_or (begins_of fs) g 0 ≡ get_or (begins_of es) g 0
old_begin es fs x e zero h = refl
old_begin es fs x e (suc g) h = more es fs x e g (omega arith)

pub no_groups : (cmp : List Meaning → List Meaning → Ordering) (keys : List (List Meaning)) (first : ℕ) (ns es : List ℕ)
    → length ns ≡ first → AreGroups cmp keys first (length es) 0 ns es
no_groups cmp keys first ns es n = record {
  begin = λ i h. absurd (omega arith);
  end = λ i h. absurd (omega arith);
  within = λ i h. absurd (omega arith);
  known = λ i h. absurd (omega arith);
  begun = λ h. absurd (omega arith);
  none = λ h. refl;
  same = λ i j l h k. absurd (omega arith);
  next = λ i h k. absurd (omega arith);
  done = λ i h k. absurd (omega arith);
  long = omega arith;
}

module _ {R : List Meaning → List Meaning → Ordering} (o : IsTotalOrder R) (keys : List (List Meaning))
    (first low from to : ℕ) (ns ms es fs : List ℕ)
    (was : AreGroups R keys first low from ns es) (n : length ns ≡ first + from) (last : get_or (begins_of es) (length es) 0 ≡ first + from)
    (stays : BeginsWith ns ms) (m : length ms ≡ first + to) (new : (i : ℕ) → length ns ≤ i → i < length ms
    → get_or ms i 0 ≡ length es) (e : fs ≡ es ++ (first + to) ∷ [])
    (some : from < to) (at : CutsAt (length keys) (is_before R keys from) from) (end : CutsAt (length keys) (is_upto R keys from) to) where
  old_number : (i : ℕ) → i < from → get_or ms (first + i) 0 ≡ get_or ns (first + i) 0
  old_number i h = stays.same (first + i) (omega arith)

  new_number : (i : ℕ) → from ≤ i → i < to → get_or ms (first + i) 0 ≡ length es
  new_number i l h = new (first + i) (omega arith) (omega arith)

  old_end : (i : ℕ) → i < from → get_or fs (get_or ms (first + i) 0) 0 ≡ get_or es (get_or ns (first + i) 0) 0
  old_end i h = ap (λ g. get_or fs g 0) (old_number i h) ∙ more es fs (first + to) e (get_or ns (first + i) 0) (was.known i h)

  new_end : (i : ℕ) → from ≤ i → i < to → get_or fs (get_or ms (first + i) 0) 0 ≡ first + to
  new_end i l h = ap (λ g. get_or fs g 0) (new_number i l h) ∙ last_more es fs (length es) (first + to) e refl

  more_begins : (i : ℕ) → i < to → (i < from) ⊎ (from ≤ i)
      → CutsFrom first (length keys) (is_before R keys i) (get_or (begins_of fs) (get_or ms (first + i) 0) 0)
  more_begins i h (inl l) =
      let k = was.known i l in
      subst (CutsFrom first (length keys) (is_before R keys i)) (sym (ap (λ g. get_or (begins_of fs) g 0) (old_number i l)
      ∙ old_begin es fs (first + to) e (get_or ns (first + i) 0) (omega (arith, k)))) (was.begin i l)
  more_begins i h (inr l) =
      let hf : from < length keys = omega (arith, end.within) in
      subst (CutsFrom first (length keys) (is_before R keys i)) (sym (ap (λ g. get_or (begins_of fs) g 0) (new_number i l h)
      ∙ old_begin es fs (first + to) e (length es) (omega arith) ∙ last))
      (cut_from first (length keys) (is_before R keys i) from (group_of_all o keys from to hf at end i l h).start)

  more_ends : (i : ℕ) → i < to → (i < from) ⊎ (from ≤ i)
      → CutsFrom first (length keys) (is_upto R keys i) (get_or fs (get_or ms (first + i) 0) 0)
  more_ends i h (inl l) = subst (CutsFrom first (length keys) (is_upto R keys i)) (sym (old_end i l)) (was.end i l)
  more_ends i h (inr l) =
      let hf : from < length keys = omega (arith, end.within) in
      subst (CutsFrom first (length keys) (is_upto R keys i)) (sym (new_end i l h))
      (cut_from first (length keys) (is_upto R keys i) to (group_of_all o keys from to hf at end i l h).end)

  more_within : (i : ℕ) → i < to → (i < from) ⊎ (from ≤ i) → get_or fs (get_or ms (first + i) 0) 0 ≤ first + to
  more_within i h (inl l) = omega (arith, old_end i l, was.within i l)
  more_within i h (inr l) = omega (arith, new_end i l h)

  more_known : (i : ℕ) → i < to → (i < from) ⊎ (from ≤ i) → get_or ms (first + i) 0 < length fs
  more_known i h (inl l) = omega (arith, old_number i l, was.known i l, long_more es fs (length es) (first + to) e refl)
  more_known i h (inr l) = omega (arith, new_number i l h, long_more es fs (length es) (first + to) e refl)

  more_begun : (0 < from) ⊎ (from ≤ 0) → get_or ms first 0 ≡ low
  more_begun (inl h) = stays.same first (omega arith) ∙ was.begun h
  more_begun (inr h) = new first (omega arith) (omega arith) ∙ was.none (omega arith)

  more_same : (i j : ℕ) → i ≤ j → i < to → first + j < get_or fs (get_or ms (first + i) 0) 0 → (i < from) ⊎ (from ≤ i)
      → get_or ms (first + j) 0 ≡ get_or ms (first + i) 0
  more_same i j l h k (inl g) =
      let w = was.within i g in
      let f = old_end i g in
      let hj : j < from = omega (arith, w, f) in
      old_number j hj ∙ was.same i j l g (omega (arith, f)) ∙ sym (old_number i g)
  more_same i j l h k (inr g) =
      let f = new_end i g h in
      new_number j (omega arith) (omega (arith, f)) ∙ sym (new_number i g h)

  next_old : (i : ℕ) → (g : i < from) → (get_or es (get_or ns (first + i) 0) 0 < first + from)
      ⊎ (first + from ≤ get_or es (get_or ns (first + i) 0) 0) → get_or ms (get_or es (get_or ns (first + i) 0) 0) 0
      ≡ get_or ns (first + i) 0 + 1
  next_old i g (inl h) = stays.same (get_or es (get_or ns (first + i) 0) 0) (omega arith) ∙ was.next i g h
  next_old i g (inr h) =
      let w = was.within i g in
      let x : get_or es (get_or ns (first + i) 0) 0 ≡ first + from = omega (arith, w) in
      new (get_or es (get_or ns (first + i) 0) 0) (omega arith) (omega (arith, x)) ∙ sym (was.done i g x)

  more_next : (i : ℕ) → i < to → get_or fs (get_or ms (first + i) 0) 0 < first + to → (i < from) ⊎ (from ≤ i)
      → get_or ms (get_or fs (get_or ms (first + i) 0) 0) 0 ≡ get_or ms (first + i) 0 + 1
  more_next i h k (inl g) = ap (λ x. get_or ms x 0) (old_end i g)
      ∙ next_old i g (cases_lt (get_or es (get_or ns (first + i) 0) 0) (first + from)) ∙ ap (λ x. x + 1) (sym (old_number i g))
  more_next i h k (inr g) = absurd (omega (arith, new_end i g h))

  more_done : (i : ℕ) → i < to → get_or fs (get_or ms (first + i) 0) 0 ≡ first + to → (i < from) ⊎ (from ≤ i)
      → get_or ms (first + i) 0 + 1 ≡ length fs
  more_done i h k (inl g) = absurd (omega (arith, old_end i g, was.within i g))
  more_done i h k (inr g) = omega (arith, new_number i g h, long_more es fs (length es) (first + to) e refl)

  -- one group more
  pub more_groups : AreGroups R keys first low to ms fs
  more_groups = record {
    begin = λ i h. more_begins i h (cases_lt i from);
    end = λ i h. more_ends i h (cases_lt i from);
    within = λ i h. more_within i h (cases_lt i from);
    known = λ i h. more_known i h (cases_lt i from);
    begun = λ h. more_begun (cases_lt 0 from);
    none = λ h. absurd (omega arith);
    same = λ i j l h k. more_same i j l h k (cases_lt i from);
    next = λ i h k. more_next i h k (cases_lt i from);
    done = λ i h k. more_done i h k (cases_lt i from);
    long = omega arith;
  }

-- the rows of one group more have a cut
pub cuts_more : (first n row next end : ℕ) (passes : ℕ → ℕ → Bool) (ns cs ds : List ℕ) → ds ≡ cs ++ (first + end) ∷ []
    → CutsAt n (passes row) end → get_or ns (first + row) 0 ≡ length cs →
    ((j : ℕ) → row ≤ j → j < next → get_or ns (first + j) 0 ≡ get_or ns (first + row) 0)
    → ((i j : ℕ) → row ≤ i → i < next → passes row j ≡ passes i j) →
    ((i : ℕ) → i < row → get_or ns (first + i) 0 < length cs)
    → ((i : ℕ) → i < row → CutsFrom first n (passes i) (get_or cs (get_or ns (first + i) 0) 0)) →
    (i : ℕ) → i < next → CutsFrom first n (passes i) (get_or ds (get_or ns (first + i) 0) 0)
cuts_more first n row next end passes ns cs ds e at here same alike known each i h = by (cases_lt i row)
  where
    by : (i < row) ⊎ (row ≤ i) → CutsFrom first n (passes i) (get_or ds (get_or ns (first + i) 0) 0)
    by (inl l) = subst (CutsFrom first n (passes i)) (sym (more cs ds (first + end) e (get_or ns (first + i) 0) (known i l))) (each i l)
    by (inr l) =
        let number = same i l h ∙ here in
        subst (CutsFrom first n (passes i)) (sym (ap (λ g. get_or ds g 0) number ∙ last_more cs ds (length cs) (first + end) e refl))
        (cut_from first n (passes i) end (cut_same n (passes row) (passes i) end (λ j. alike i j l h) at))

pub known_more : (first row next x : ℕ) (ns cs ds : List ℕ) → ds ≡ cs ++ x ∷ [] → get_or ns (first + row) 0 ≡ length cs
    → ((j : ℕ) → row ≤ j → j < next → get_or ns (first + j) 0 ≡ get_or ns (first + row) 0) →
    ((i : ℕ) → i < row → get_or ns (first + i) 0 < length cs) → (i : ℕ) → i < next → get_or ns (first + i) 0 < length ds
known_more first row next x ns cs ds e here same known i h = by (cases_lt i row)
  where
    by : (i < row) ⊎ (row ≤ i) → get_or ns (first + i) 0 < length ds
    by (inl l) = omega (arith, known i l, long_more cs ds (length cs) x e refl)
    by (inr l) = omega (arith, same i l h, here, long_more cs ds (length cs) x e refl)
