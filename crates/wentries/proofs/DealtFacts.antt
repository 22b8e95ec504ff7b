-- Runs that are kept in turn, one for each live segment.
use Rattle.std.proofs.Common.{◌≡◌, ℕ, zero, suc, ◌+◌, ◌<◌, List, [], ◌∷◌, ◌++◌, length, drop}
use Rattle.std.proofs.Common.{get_or, slice_set, refl, sym, ap, subst, ◌∙◌, arith, add-one}
use Rattle.std.specs.List.{flat_map}
use Rattle.std.specs.declared.rc.Rc.{Rc}
use Rattle.std.specs.Global.{Global}
use Rattle.std.proofs.lemmas.List.{drop_all, length-append}
use Rattle.wvalues.specs.declared.key.SortKey.{SortKey}
use Rattle.wvalues.specs.Names.{NameParts}
use Rattle.wvalues.specs.Meaning.{Meaning}
use Rattle.wruns.specs.Dealing.{AreRunsOf}
use Rattle.wruns.specs.Runs.{RunParts}
use Rattle.wentries.specs.Blocks.{flat}
use Rattle.wentries.specs.Keeping.{BeginWithRuns, rows_held, rows_in}
use Rattle.wentries.specs.declared.entries.Entry.{Entry}
use Rattle.wentries.specs.declared.held.Held.{Held}
use Rattle.wentries.specs.declared.held.Held.TheVariants as held

pub drop_drop : {X : Type 0} (n m : ℕ) (xs : List X) → drop m (drop n xs) ≡ drop (n + m) xs
drop_drop zero m xs = ap (λ k. drop k xs) (omega arith)
drop_drop (suc n) m [] = drop_all m [] (omega arith) ∙ sym (drop_all (suc n + m) [] (omega arith))
drop_drop (suc n) m (x ∷ xs) =
    let e : suc n + m ≡ suc (n + m) = omega arith in
    drop_drop n m xs ∙ ap (λ k. drop k (x ∷ xs)) (sym e)

drop_set : {X : Type 0} (xs : List X) (i : ℕ) (k : X) → drop (i + 1) (slice_set xs i k) ≡ drop (i + 1) xs
drop_set [] i k = refl
drop_set (y ∷ ys) zero k = refl
drop_set (y ∷ ys) (suc i) k = rw add-one (rw add-one at (drop_set ys i k))

drop_here : {X : Type 0} (xs : List X) (i : ℕ) (x : X) → i < length xs → x ≡ get_or xs i x → drop i xs ≡ x ∷ drop (i + 1) xs
drop_here [] i x h is = absurd (omega (arith, h))
drop_here (y ∷ ys) zero x h is = ap (λ z. z ∷ ys) (sym is)
drop_here (y ∷ ys) (suc i) x h is = rw add-one (rw add-one at (drop_here ys i x (omega (arith, h)) is))

begin_first : (keys : List SortKey) (a b : List (List (List Meaning))) (runs : List (Rc RunParts Global))
    → BeginWithRuns keys (a ++ b) runs → BeginWithRuns keys a runs
begin_first keys [] b runs h = tt
begin_first keys (r ∷ a) b [] h = absurd h
begin_first keys (r ∷ a) b (x ∷ runs) h = (h.0, begin_first keys a b runs h.1)

begin_rest : (keys : List SortKey) (a b : List (List (List Meaning))) (runs : List (Rc RunParts Global))
    → BeginWithRuns keys (a ++ b) runs → BeginWithRuns keys b (drop (length a) runs)
begin_rest keys [] b runs h = h
begin_rest keys (r ∷ a) b [] h = absurd h
begin_rest keys (r ∷ a) b (x ∷ runs) h = begin_rest keys a b runs h.1

pub begin_all : (keys : List SortKey) (s : List (List (List Meaning))) (runs : List (Rc RunParts Global))
    → AreRunsOf keys s runs → BeginWithRuns keys s runs
begin_all keys [] runs h = tt
begin_all keys (r ∷ s) [] h = absurd h
begin_all keys (r ∷ s) (x ∷ runs) h = (h.0, begin_all keys s runs h.1)

-- the rows of what comes from a place on
module _ {X : Type 0} (rows_of : X → List (List (List Meaning))) where
  abbrev pub rows_from : ℕ → List X → List (List (List Meaning))
  rows_from i xs = flat_map rows_of (drop i xs)

  pub split_here : (xs : List X) (i : ℕ) (x k : X) → i < length xs → x ≡ get_or xs i x
      → rows_from i xs ≡ rows_of x ++ rows_from (i + 1) (slice_set xs i k)
  split_here xs i x k h is = ap (flat_map rows_of) (drop_here xs i x h is) ∙ ap (λ l. rows_of x ++ flat_map rows_of l)
      (sym (drop_set xs i k))

  module _ (keys : List SortKey) (xs : List X) (i : ℕ) (x k : X) (h : i < length xs) (is : x ≡ get_or xs i x)
      (runs : List (Rc RunParts Global)) where
    pub begin_here : BeginWithRuns keys (rows_from i xs) runs → BeginWithRuns keys (rows_of x) runs
    begin_here b = begin_first keys (rows_of x) (rows_from (i + 1) (slice_set xs i k)) runs
        (subst (λ l. BeginWithRuns keys l runs) (split_here xs i x k h is) b)

    pub begin_next : (left : List (Rc RunParts Global)) → left ≡ drop (length (rows_of x)) runs
        → BeginWithRuns keys (rows_from i xs) runs → BeginWithRuns keys (rows_from (i + 1) (slice_set xs i k)) left
    begin_next left e b = subst (BeginWithRuns keys (rows_from (i + 1) (slice_set xs i k))) (sym e)
        (begin_rest keys (rows_of x) (rows_from (i + 1) (slice_set xs i k)) runs (subst (λ l. BeginWithRuns keys l runs)
        (split_here xs i x k h is) b))

    pub left_next : (left : List (Rc RunParts Global)) → left ≡ drop (length (rows_of x)) runs
        → drop (length (rows_from (i + 1) (slice_set xs i k))) left ≡ drop (length (rows_from i xs)) runs
    left_next left e =
        let n : length (rows_from i xs) ≡ length (rows_of x) + length (rows_from (i + 1) (slice_set xs i k)) =
        ap length (split_here xs i x k h is) ∙ length-append (rows_of x) (rows_from (i + 1) (slice_set xs i k)) in
        ap (drop (length (rows_from (i + 1) (slice_set xs i k)))) e ∙ drop_drop (length (rows_of x))
        (length (rows_from (i + 1) (slice_set xs i k))) runs ∙ ap (λ m. drop m runs) (sym n)

-- the rows of entries, entry by entry
pub rows_by_entry : (es : List Entry) → flat_map (λ (e : Entry). rows_held e.held) es ≡ rows_in es
rows_by_entry [] = refl
rows_by_entry (e ∷ es) = by e.name e.held (rows_by_entry es)
  where
    by : (n : NameParts) (h : Held) → flat_map (λ (e : Entry). rows_held e.held) es ≡ rows_in es
        → rows_held h ++ flat_map (λ (e : Entry). rows_held e.held) es ≡ rows_in (record { name = n; held = h } ∷ es)
    by n (held.Live kept) rest = ap (λ l. kept.content.rows ∷ l) rest
    by n held.Disputed rest = rest
    by n held.Retired rest = rest
    by n held.Floor rest = rest

rows_joined : (a b : List Entry) → rows_in (a ++ b) ≡ rows_in a ++ rows_in b
rows_joined [] b = refl
rows_joined (e ∷ a) b = by e.name e.held (rows_joined a b)
  where
    by : (n : NameParts) (h : Held) → rows_in (a ++ b) ≡ rows_in a ++ rows_in b
        → rows_in (record { name = n; held = h } ∷ (a ++ b)) ≡ rows_in (record { name = n; held = h } ∷ a) ++ rows_in b
    by n (held.Live kept) rest = ap (λ l. kept.content.rows ∷ l) rest
    by n held.Disputed rest = rest
    by n held.Retired rest = rest
    by n held.Floor rest = rest

-- the rows of blocks, block by block
pub rows_by_block : (bs : List (List Entry)) → flat_map rows_in bs ≡ rows_in (flat bs)
rows_by_block [] = refl
rows_by_block (b ∷ bs) = ap (λ l. rows_in b ++ l) (rows_by_block bs) ∙ sym (rows_joined b (flat bs))
