-- Codes of several keys tell which rows share their keys.
use Rattle.std.proofs.Common.{◌≡◌, ℕ, suc, ◌+◌, ◌<◌, ◌≤◌, List, [], ◌∷◌, ◌++◌, length, map, take}
use Rattle.std.proofs.Common.{get_or, Vec, Global, refl, sym, ap, ◌∙◌, arith, ◌⊎◌, inl, inr}
use Rattle.std.specs.List.{AllByRecursion}
use Rattle.std.specs.Ordering.{nat_cmp}
use Rattle.std.proofs.Math.Nat.{eq-or-lt_of_le}
use Rattle.std.proofs.lemmas.Cmp.{nat_cmp_total, tied_itself}
use Rattle.std.proofs.lemmas.List.{get_or-map, take_more}
use Rattle.std.proofs.lemmas.List.Elements.{All-append, All-cons, All-nil, All-same, All-from_recursion, recursion_from_All}
use Rattle.wvalues.specs.declared.key.SortKey.{SortKey}
use Rattle.wvalues.specs.Meaning.{Meaning, Null}
use Rattle.wvalues.specs.OrderLaws.{tie_is_same}
use Rattle.wcodes.specs.Columns.{value_at}
use Rattle.wcodes.specs.CodedRows.{code_at, key_column, key_of, AreCodes}
use Rattle.wruns.specs.Grouping.{HaveOneCode, TellShared}
use Rattle.wruns.proofs.TableFacts.{length-column}

-- values of one code are the same
same_value : (key : SortKey) (column : List Meaning) (codes : List ℕ) → AreCodes key column codes → (a b : ℕ)
    → a < length column → b < length column → code_at codes a ≡ code_at codes b → value_at column a ≡ value_at column b
same_value key column codes are a b p q e =
    tie_is_same key (value_at column a) (value_at column b)
    (sym (are.alike a b p q) ∙ ap (λ x. nat_cmp x (code_at codes b)) e ∙ tied_itself nat_cmp_total (code_at codes b))

split_last : {X : Type 0} (P : X → Type 0) (xs : List X) (x : X) → AllByRecursion P (xs ++ x ∷ []) → AllByRecursion P xs × P x
split_last P [] x h = (tt, h.0)
split_last P (y ∷ ys) x h = let r = split_last P ys x h.1 in ((h.0, r.0), r.1)

-- a list more in which two rows have one code
pub one_more : (a b : ℕ) (codes : List (Vec ℕ Global)) (i : ℕ) (list : Vec ℕ Global) → i < length codes
    → list ≡ get_or codes i list → HaveOneCode a b (take i codes) → code_at list.items a ≡ code_at list.items b
    → HaveOneCode a b (take (i + 1) codes)
one_more a b codes i list lt is all here =
    All-same P (take (i + 1) codes) (take i codes ++ list ∷ []) (take_more codes i list lt
    ∙ ap (λ x. take i codes ++ x ∷ []) (sym is)) (All-append P (take i codes) (list ∷ []) all (All-cons P list [] here (All-nil P)))
  where
    P : Vec ℕ Global → Type 0
    P l = code_at l.items a ≡ code_at l.items b

module _ (keys : List SortKey) (rows : List (List Meaning)) where
  -- the values of the key of a number
  abbrev column_of : ℕ → List Meaning
  column_of k = key_column (key_of keys k).col rows

  -- rows of which each list has one code share their keys from one on
  abbrev pub TellFrom : ℕ → List (Vec ℕ Global) → Type 0
  TellFrom j codes = (a b : ℕ) → a < length rows → b < length rows → HaveOneCode a b codes → (k : ℕ) → j ≤ k
      → k < length keys → value_at (column_of k) a ≡ value_at (column_of k) b

  pub tell_none : (j : ℕ) (codes : List (Vec ℕ Global)) → length keys ≤ j → TellFrom j codes
  tell_none j codes none a b p q one k low high = absurd (omega (arith, none, low, high))

  value_is : (k i : ℕ) → i < length rows → value_at (column_of k) i ≡ get_or (get_or rows i []) (key_of keys k).col Null
  value_is k i h = get_or-map (λ row. value_at row (key_of keys k).col) rows i [] Null h

  -- a list for one key more
  pub tell_more : (j : ℕ) (codes : List (Vec ℕ Global)) (told : Vec ℕ Global)
      → AreCodes (key_of keys j) (column_of j) told.items → TellFrom (j + 1) codes → TellFrom j (codes ++ told ∷ [])
  tell_more j codes told are before a b p q one k low high =
      let parts = split_last P codes told (recursion_from_All P (codes ++ told ∷ []) one) in
      go parts (eq-or-lt_of_le low)
    where
      P : Vec ℕ Global → Type 0
      P list = code_at list.items a ≡ code_at list.items b

      long : length (column_of j) ≡ length rows
      long = length-column (key_of keys j).col rows

      go : AllByRecursion P codes × P told → (j ≡ k) ⊎ (j < k) → value_at (column_of k) a ≡ value_at (column_of k) b
      go parts (inl is) =
          ap (λ n. value_at (column_of n) a) (sym is) ∙ same_value (key_of keys j) (column_of j) told.items are a b
          (omega (arith, long, p)) (omega (arith, long, q)) parts.1
          ∙ ap (λ n. value_at (column_of n) b) is
      go parts (inr less) = before a b p q (All-from_recursion P codes parts.0) k (omega (arith, less)) high

  same_keys : (ks : List SortKey) (x y : List Meaning)
      → ((k : ℕ) → k < length ks → get_or x (key_of ks k).col Null ≡ get_or y (key_of ks k).col Null)
      → map (λ (q : SortKey). get_or x q.col Null) ks ≡ map (λ (q : SortKey). get_or y q.col Null) ks
  same_keys [] x y each = refl
  same_keys (q ∷ qs) x y each =
      ap (λ v. v ∷ map (λ (q : SortKey). get_or x q.col Null) qs) (each 0 (omega arith))
      ∙ ap (λ l. get_or y q.col Null ∷ l) (same_keys qs x y (λ k h. each (suc k) (omega (arith, h))))

  -- those that share all of them
  pub tell_all : (codes : List (Vec ℕ Global)) → TellFrom 0 codes → TellShared keys rows codes
  tell_all codes tell a b p q one =
      same_keys keys (get_or rows a []) (get_or rows b []) (λ k h. sym (value_is k a p) ∙ tell a b p q one k (omega arith) h
      ∙ value_is k b q)

  -- two lists tell the same in either order
  pub turned : (first second : Vec ℕ Global) → TellFrom 0 (second ∷ first ∷ []) → TellFrom 0 (first ∷ second ∷ [])
  turned first second tell a b p q one =
      let all = recursion_from_All (λ (list : Vec ℕ Global). code_at list.items a ≡ code_at list.items b) (first ∷ second ∷ []) one in
      tell a b p q (All-from_recursion (λ (list : Vec ℕ Global). code_at list.items a ≡ code_at list.items b)
      (second ∷ first ∷ []) (all.1.0, (all.0, tt)))
