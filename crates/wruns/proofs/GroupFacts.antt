-- Rows that share their keys, as a piece of a list.
use Rattle.std.proofs.Common.{◌≡◌, ℕ, zero, suc, ◌+◌, ◌-◌, ◌<◌, ◌≤◌, List, [], ◌∷◌, ◌++◌, length, map, take}
use Rattle.std.proofs.Common.{drop, get_or, refl, sym, ap, subst, ◌∙◌, arith, ◌⊎◌, inl, inr, Equal}
use Rattle.std.proofs.Math.Nat.{eq-or-lt_of_le}
use Rattle.std.proofs.lemmas.List.{length-map}
use Rattle.wvalues.specs.Order.{keys_cmp}
use Rattle.wvalues.specs.OrderLaws.{ties_are_same}
use Rattle.std.proofs.Math.Seq.{drop-cons}
use Rattle.std.specs.List.{AllByRecursion}
use Rattle.std.specs.Prelude.{All}
use Rattle.std.proofs.lemmas.List.Elements.{All-cons, All-nil, All-from_recursion, recursion_from_All}
use Rattle.wvalues.specs.declared.key.SortKey.{SortKey}
use Rattle.wvalues.specs.Meaning.{Meaning, Null}
use Rattle.wruns.specs.Cuts.{between, cut, AreEnds}
use Rattle.wruns.specs.Grouping.{AreGrouped}
use Rattle.wruns.specs.Runs.{keys_at, IsGroup}
use Rattle.wruns.proofs.CutFacts.{ends_more, pieces_more}

module _ (keys : List SortKey) (rows : List (List Meaning)) where
  -- each row alone is a group
  pub all_single : (xs : List ℕ) → AllByRecursion (IsGroup keys rows) (map (λ x. x ∷ []) xs)
  all_single [] = tt
  all_single (x ∷ xs) = (
    (
      omega arith,
      All-cons (λ i. keys_at keys rows i ≡ keys_at keys rows x) x [] refl
          (All-nil (λ i. keys_at keys rows i ≡ keys_at keys rows x)),
    ),
    all_single xs,
  )

  -- so are all of them
  pub single_groups : (xs : List ℕ) → All (IsGroup keys rows) (map (λ x. x ∷ []) xs)
  single_groups xs = All-from_recursion (IsGroup keys rows) (map (λ x. x ∷ []) xs) (all_single xs)

  all_taken : (P : ℕ → Type 0) (xs : List ℕ) (i n : ℕ) → i + n ≤ length xs
      → ((k : ℕ) → i ≤ k → k < i + n → P (get_or xs k 0)) → AllByRecursion P (take n (drop i xs))
  all_taken P xs i zero room each = tt
  all_taken P xs i (suc n) room each =
      subst (λ l. AllByRecursion P (take (suc n) l)) (sym (drop-cons xs i 0 (omega (arith, room)))) (
        each i (omega arith) (omega arith),
        all_taken P xs (suc i) n (omega (arith, room))
            (λ k h l. each k (omega (arith, h)) (omega (arith, l))),
      )

  -- rows that have the keys of the first of them are a group
  pub group_between : (xs : List ℕ) (first next : ℕ) → first < next → next ≤ length xs
      → ((k : ℕ) → first ≤ k → k < next → keys_at keys rows (get_or xs k 0) ≡ keys_at keys rows (get_or xs first 0))
      → IsGroup keys rows (between first next xs)
  group_between xs first next some room same =
      let n : next - first ≡ suc (next - suc first) = omega (arith, some) in
      let e : take (next - first) (drop first xs) ≡ get_or xs first 0 ∷ take (next - suc first) (drop (suc first) xs) =
      ap (λ k. take k (drop first xs)) n ∙ ap (take (suc (next - suc first))) (drop-cons xs first 0 (omega (arith, some, room))) in
      let P : ℕ → Type 0 = λ j. keys_at keys rows j ≡ keys_at keys rows (get_or xs first 0) in
      let rest = All-from_recursion P (take (next - suc first) (drop (suc first) xs))
      (all_taken P xs (suc first) (next - suc first) (omega (arith, some, room)) (λ k h l. same k (omega (arith, h))
      (omega (arith, l, some)))) in
      subst (IsGroup keys rows) (sym e) (
        omega arith,
        All-cons P (get_or xs first 0)
            (take (next - suc first) (drop (suc first) xs)) refl rest,
      )

  -- a row that has the keys of the first one
  pub grouped_same : (xs ends : List ℕ) (first place : ℕ) → AreGrouped keys rows xs ends first place
      → keys_at keys rows (get_or xs place 0) ≡ keys_at keys rows (get_or xs first 0) → AreGrouped keys rows xs ends first (place + 1)
  grouped_same xs ends first place h e = record {
    ends = h.ends;
    groups = h.groups;
    begun = omega (arith, h.begun);
    same = λ k low high. go k low (eq-or-lt_of_le (omega (arith, high)));
  }
    where
      go : (k : ℕ) → first ≤ k → (k ≡ place) ⊎ (k < place) → keys_at keys rows (get_or xs k 0) ≡ keys_at keys rows (get_or xs first 0)
      go k low (inl is) = ap (λ i. keys_at keys rows (get_or xs i 0)) is ∙ e
      go k low (inr less) = h.same k low less

  all_groups : (xs ends : List ℕ) (first next place : ℕ) → AreGrouped keys rows xs ends first place → next ≤ place
      → first < next → next ≤ length xs → All (IsGroup keys rows) (cut 0 (ends ++ next ∷ []) xs)
  all_groups xs ends first next place h upto some room =
      All-from_recursion (IsGroup keys rows) (cut 0 (ends ++ next ∷ []) xs)
      (pieces_more (IsGroup keys rows) xs ends first next h.ends (recursion_from_All (IsGroup keys rows) (cut 0 ends xs)
      h.groups) (group_between xs first next some room (λ k low high. h.same k low (omega (arith, high, upto)))))

  -- a row that begins a group
  pub grouped_next : (xs ends : List ℕ) (first place : ℕ) → AreGrouped keys rows xs ends first place → place < length xs
      → AreGrouped keys rows xs (ends ++ place ∷ []) place (place + 1)
  grouped_next xs ends first place h room = record {
    ends = ends_more ends first place h.ends h.begun;
    groups = all_groups xs ends first place place h (omega arith) h.begun (omega (arith, room));
    begun = omega arith;
    same = λ k low high. ap (λ i. keys_at keys rows (get_or xs i 0)) (omega (arith, low, high));
  }

  pub grouped_first : (xs : List ℕ) → AreGrouped keys rows xs [] 0 1
  grouped_first xs = record {
    ends = refl;
    groups = All-nil (IsGroup keys rows);
    begun = omega arith;
    same = λ k low high. ap (λ i. keys_at keys rows (get_or xs i 0)) (omega (arith, high));
  }

  -- the last group ends with the list
  pub grouped_all : (xs ends : List ℕ) (first place : ℕ) → AreGrouped keys rows xs ends first place → place ≡ length xs
      → AreEnds 0 (ends ++ length xs ∷ []) (length xs) × All (IsGroup keys rows) (cut 0 (ends ++ length xs ∷ []) xs)
  grouped_all xs ends first place h e =
      let some : first < length xs = omega (arith, h.begun, e) in
      (ends_more ends first (length xs) h.ends some, all_groups xs ends first (length xs) place h (omega (arith, e)) some (omega arith))

-- rows share their keys where these tie
pub tied_keys : (keys : List SortKey) (rows : List (List Meaning)) (a b : ℕ)
    → keys_cmp keys (keys_at keys rows a) (keys_at keys rows b) ≡ Equal → keys_at keys rows a ≡ keys_at keys rows b
tied_keys keys rows a b h =
    ties_are_same keys (keys_at keys rows a) (keys_at keys rows b)
    (length-map keys (λ (q : SortKey). get_or (get_or rows a []) q.col Null))
    (length-map keys (λ (q : SortKey). get_or (get_or rows b []) q.col Null)) h
