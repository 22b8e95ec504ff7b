-- Cells and rows one after the other, as the loops read them.
use Rattle.std.proofs.Common.{◌≡◌, ◌≢◌, ◌==◌, ◌∙◌, Bool, true, false, arith, ◌+◌, ◌<◌, ◌≤◌, ◌++◌}
use Rattle.std.proofs.Common.{ℕ, List, [], ◌∷◌, inl, inr, length, Result, Ok, Err, refl, sym, ap}
use Rattle.std.proofs.lemmas.List.{append-nil}
use Rattle.std.proofs.lemmas.Bool.{eq-eqb, eqb-false, eqb-true, le-ltb, lt-ltb, ne_eqb}
use Rattle.wvalues.specs.Meaning.{Meaning}
use Rattle.wsegment.specs.Cells.{cell_of, cells_of, row_behind, row_of, rows_from}
use Rattle.wsegment.specs.Kept.{cells_at, in_order_of}
use Rattle.wsegment.specs.Outcome.{◌>>=◌, Fails}
use Rattle.wsegment.specs.declared.kind.Kind.{Kind}
use Rattle.wsegment.specs.declared.fault.SegmentFault.{SegmentFault}
use Rattle.wsegment.specs.declared.fault.SegmentFault.TheVariants as faults
use Rattle.wsegment.proofs.Fronts.{regroup, with_front}

-- one more cell
pub cells-go : (row : ℕ) (ks rest : List Kind) (fs after : List (List ℕ)) (k : Kind) (f : List ℕ) (front : List Meaning)
    (x : Meaning) (total : Result (List Meaning) SegmentFault)
    → ks ≡ k ∷ rest → fs ≡ f ∷ after → cell_of row k f ≡ Ok x → with_front front (cells_of row ks fs) ≡ total
    → with_front (front ++ x ∷ []) (cells_of row rest after) ≡ total
unfolding cells_of
cells-go row ks rest fs after k f front x total ek ef ex so_far =
    let one : with_front front (cells_of row ks fs) ≡ with_front (front ++ x ∷ []) (cells_of row rest after) =
    rw (ek, ef, ex) (regroup front x (cells_of row rest after)) in
    sym one ∙ so_far

-- a cell's fault is the row's
pub cells-stop : (fault : SegmentFault) (row : ℕ) (ks rest : List Kind) (fs after : List (List ℕ)) (k : Kind) (f : List ℕ)
    (front : List Meaning) (total : Result (List Meaning) SegmentFault)
    → ks ≡ k ∷ rest → fs ≡ f ∷ after → Fails fault (cell_of row k f) → with_front front (cells_of row ks fs) ≡ total → Fails fault total
unfolding cells_of
cells-stop fault row ks rest fs after k f front total ek ef (inl memory) so_far = inl memory
cells-stop fault row ks rest fs after k f front total ek ef (inr failed) so_far =
    let one : with_front front (cells_of row ks fs) ≡ Err fault = rw (ek, ef, failed) refl in
    inr (sym so_far ∙ one)

pub cells-end : (row : ℕ) (ks : List Kind) (fs : List (List ℕ)) (front : List Meaning)
    (total : Result (List Meaning) SegmentFault) → ks ≡ [] → with_front front (cells_of row ks fs) ≡ total → total ≡ Ok front
unfolding cells_of
cells-end row ks fs front total e so_far =
    let one : with_front front (cells_of row ks fs) ≡ Ok front = rw e (ap (λ (ys : List Meaning). Ok ys) (append-nil front)) in
    sym so_far ∙ one

-- a row of the right length, and one of another
pub row-cells : (row : ℕ) (ks : List Kind) (fs : List (List ℕ)) → length fs ≡ length ks → row_of row ks fs ≡ cells_of row ks fs
unfolding row_of
row-cells row ks fs e = rw (eq-eqb _ _ e) refl

pub row-refused : (row : ℕ) (ks : List Kind) (fs : List (List ℕ)) → (length fs ≡ length ks → ⊥)
    → row_of row ks fs ≡ Err (faults.RowLength row)
unfolding row_of
row-refused row ks fs differ = rw (ne_eqb _ _ differ) refl

-- rows in the order of fields, one after the other
order-more : (fields : List ℕ) (x : List Meaning) (read : Result (List (List Meaning)) SegmentFault)
    → in_order_of fields (read >>= λ xs. Ok (x ∷ xs)) ≡ (in_order_of fields read >>= λ ys. Ok (cells_at fields x ∷ ys))
order-more fields x (Ok xs) = refl
order-more fields x (Err fault) = refl

-- the row behind so many, and then the others
pub rows-behind : (ks : List Kind) (n : ℕ) (left rest : List (List (List ℕ))) (r : List (List ℕ)) → n ≤ 1000000
    → left ≡ r ∷ rest → rows_from ks (n + 1) left ≡ (row_behind n ks r >>= λ x. rows_from ks (n + 1 + 1) rest >>= λ xs. Ok (x ∷ xs))
unfolding rows_from
rows-behind ks n left rest r few e = by (n == 1000000) refl
  where
    by : (b : Bool) → (n == 1000000) ≡ b
        → rows_from ks (n + 1) left ≡ (row_behind n ks r >>= λ x. rows_from ks (n + 1 + 1) rest >>= λ xs. Ok (x ∷ xs))
    by true h = let many : 1000000 < n + 1 = omega (arith, eqb-true n 1000000 h) in rw (e, h, lt-ltb 1000000 (n + 1) many) refl
    by false h = let other : n ≢ 1000000 = eqb-false n 1000000 h in let room : n + 1 ≤ 1000000 =
        omega (arith, few, other) in rw (e, h, le-ltb 1000000 (n + 1) room) refl

pub row-room : (ks : List Kind) (n : ℕ) (r : List (List ℕ)) (x : List Meaning) → n ≤ 1000000 → row_behind n ks r ≡ Ok x → n + 1 ≤ 1000000
row-room ks n r x few ex = by (n == 1000000) refl
  where
    by : (b : Bool) → (n == 1000000) ≡ b → n + 1 ≤ 1000000
    by true h = let full : row_behind n ks r ≡ Err faults.TooManyRows = rw h refl in absurd (cc (full, ex))
    by false h = let other : n ≢ 1000000 = eqb-false n 1000000 h in omega (arith, few, other)

-- one more row
pub rows-go : (ks : List Kind) (fields : List ℕ) (n : ℕ) (left rest : List (List (List ℕ))) (r : List (List ℕ))
    (front : List (List Meaning)) (x y : List Meaning) (total : Result (List (List Meaning)) SegmentFault)
    → n ≤ 1000000 → left ≡ r ∷ rest → row_behind n ks r ≡ Ok x → y ≡ cells_at fields x
    → with_front front (in_order_of fields (rows_from ks (n + 1) left)) ≡ total
    → with_front (front ++ y ∷ []) (in_order_of fields (rows_from ks (n + 1 + 1) rest)) ≡ total
rows-go ks fields n left rest r front x y total few e ex ey so_far =
    let others = rows_from ks (n + 1 + 1) rest in
    let read : rows_from ks (n + 1) left ≡ (others >>= λ xs. Ok (x ∷ xs)) = rows-behind ks n left rest r few e
    ∙ ap (λ (one : Result (List Meaning) SegmentFault). one >>= λ x. others >>= λ xs. Ok (x ∷ xs)) ex in
    let ordered : in_order_of fields (rows_from ks (n + 1) left) ≡ (in_order_of fields others >>= λ ys. Ok (y ∷ ys))
    = ap (in_order_of fields) read ∙ order-more fields x others ∙ ap (λ (z : List Meaning). in_order_of fields others
    >>= λ ys. Ok (z ∷ ys)) (sym ey) in
    let one : with_front front (in_order_of fields (rows_from ks (n + 1) left)) ≡ with_front (front ++ y ∷ [])
    (in_order_of fields others) = ap (with_front front) ordered ∙ regroup front y (in_order_of fields others) in
    sym one ∙ so_far

-- a row's fault is the segment's
pub rows-stop : (fault : SegmentFault) (ks : List Kind) (fields : List ℕ) (n : ℕ) (left rest : List (List (List ℕ)))
    (r : List (List ℕ)) (front : List (List Meaning)) (total : Result (List (List Meaning)) SegmentFault)
    → n ≤ 1000000 → left ≡ r ∷ rest → Fails fault (row_behind n ks r)
    → with_front front (in_order_of fields (rows_from ks (n + 1) left)) ≡ total → Fails fault total
rows-stop fault ks fields n left rest r front total few e (inl memory) so_far = inl memory
rows-stop fault ks fields n left rest r front total few e (inr failed) so_far =
    let read : rows_from ks (n + 1) left ≡ Err fault = rows-behind ks n left rest r few e
    ∙ ap (λ (one : Result (List Meaning) SegmentFault). one >>= λ x. rows_from ks (n + 1 + 1) rest >>= λ xs. Ok (x ∷ xs)) failed in
    inr (sym so_far ∙ ap (λ (read : Result (List (List Meaning)) SegmentFault). with_front front (in_order_of fields read)) read)

pub rows-end : (ks : List Kind) (fields : List ℕ) (n : ℕ) (left : List (List (List ℕ))) (front : List (List Meaning))
    (total : Result (List (List Meaning)) SegmentFault)
    → left ≡ [] → with_front front (in_order_of fields (rows_from ks n left)) ≡ total → total ≡ Ok front
unfolding rows_from
rows-end ks fields n left front total e so_far =
    let one : with_front front (in_order_of fields (rows_from ks n left)) ≡ Ok front =
    rw e (ap (λ (ys : List (List Meaning)). Ok ys) (append-nil front)) in
    sym so_far ∙ one
