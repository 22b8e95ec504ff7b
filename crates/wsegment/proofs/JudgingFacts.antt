-- Cells and rows one after the other, as the judging loops see them.
use Rattle.std.proofs.Common.{◌≡◌, ◌≢◌, ◌==◌, ◌∙◌, Bool, true, false, arith, ◌+◌, ◌≤◌, ℕ, List, [], ◌∷◌, Result, Ok, Err, refl, sym, ap}
use Rattle.std.proofs.lemmas.Bool.{eqb-false}
use Rattle.wvalues.specs.Meaning.{Meaning}
use Rattle.wsegment.specs.Cells.{cell_of, cells_of, row_behind, rows_from}
use Rattle.wsegment.specs.Judging.{counted, verdict}
use Rattle.wsegment.specs.Outcome.{◌>>=◌}
use Rattle.wsegment.specs.declared.kind.Kind.{Kind}
use Rattle.wsegment.specs.declared.fault.SegmentFault.{SegmentFault}
use Rattle.wsegment.specs.declared.fault.SegmentFault.TheVariants as faults
use Rattle.wsegment.proofs.RowFacts.{rows-behind}

-- what is good is followed by the verdict on what comes behind it
verdict-then : {A B C : Type 0} (read : Result A SegmentFault) (then : A → Result B SegmentFault)
    (rest : Result C SegmentFault) → ((x : A) → verdict (then x) ≡ verdict rest)
    → verdict read ≡ Ok tt → verdict (read >>= then) ≡ verdict rest
verdict-then (Ok x) then rest each good = each x
verdict-then (Err fault) then rest each good = cc good

verdict-stop : {A B : Type 0} (fault : SegmentFault) (read : Result A SegmentFault) (then : A → Result B SegmentFault)
    → Err fault ≡ verdict read → Err fault ≡ verdict (read >>= then)
verdict-stop fault (Ok x) then e = cc e
verdict-stop fault (Err f) then e = e

verdict-front : {A : Type 0} (x : A) (rest : Result (List A) SegmentFault) → verdict (rest >>= λ xs. Ok (x ∷ xs)) ≡ verdict rest
verdict-front x (Ok xs) = refl
verdict-front x (Err fault) = refl

-- one more cell
pub cells-judged : (row : ℕ) (ks rest : List Kind) (fs after : List (List ℕ)) (k : Kind) (f : List ℕ) → ks ≡ k ∷ rest
    → fs ≡ f ∷ after → Ok tt ≡ verdict (cell_of row k f)
    → verdict (cells_of row ks fs) ≡ verdict (cells_of row rest after)
unfolding cells_of
cells-judged row ks rest fs after k f ek ef good =
    rw (ek, ef) (verdict-then (cell_of row k f) (λ x. cells_of row rest after >>= λ xs. Ok (x ∷ xs))
    (cells_of row rest after) (λ x. verdict-front x (cells_of row rest after)) (sym good))

-- a cell's fault is the row's
pub cells-refused : (fault : SegmentFault) (row : ℕ) (ks rest : List Kind) (fs after : List (List ℕ)) (k : Kind)
    (f : List ℕ) → ks ≡ k ∷ rest → fs ≡ f ∷ after → Err fault ≡ verdict (cell_of row k f)
    → Err fault ≡ verdict (cells_of row ks fs)
unfolding cells_of
cells-refused fault row ks rest fs after k f ek ef bad =
    rw (ek, ef) (verdict-stop fault (cell_of row k f) (λ x. cells_of row rest after >>= λ xs. Ok (x ∷ xs)) bad)

pub cells-over : (row : ℕ) (ks : List Kind) (fs : List (List ℕ)) → ks ≡ [] → verdict (cells_of row ks fs) ≡ Ok tt
unfolding cells_of
cells-over row ks fs e = rw e refl

-- what was counted before, and what is still counted
abbrev pub more : ℕ → Result ℕ SegmentFault → Result ℕ SegmentFault
more n (Ok m) = Ok (n + m)
more n (Err fault) = Err fault

pub more-none : (read : Result ℕ SegmentFault) → more 0 read ≡ read
more-none (Ok m) = ap (λ (k : ℕ). Ok k) (omega arith)
more-none (Err fault) = refl

more-front : {A : Type 0} (n : ℕ) (x : A) (rest : Result (List A) SegmentFault)
    → more n (counted (rest >>= λ xs. Ok (x ∷ xs))) ≡ more (n + 1) (counted rest)
more-front n x (Ok xs) = ap Ok (omega arith)
more-front n x (Err fault) = refl

more-then : {A B : Type 0} (n : ℕ) (read : Result A SegmentFault) (then : A → Result (List B) SegmentFault)
    (rest : Result ℕ SegmentFault) → ((x : A) → more n (counted (then x)) ≡ rest)
    → Ok tt ≡ verdict read → more n (counted (read >>= then)) ≡ rest
more-then n (Ok x) then rest each good = each x
more-then n (Err fault) then rest each good = cc good

more-stop : {A B : Type 0} (fault : SegmentFault) (n : ℕ) (read : Result A SegmentFault) (then : A
    → Result (List B) SegmentFault) → Err fault ≡ verdict read → more n (counted (read >>= then)) ≡ Err fault
more-stop fault n (Ok x) then e = cc e
more-stop fault n (Err f) then e = let same : f ≡ fault = cc in ap (λ (g : SegmentFault). Err g) same

-- one more row
pub rows-judged : (ks : List Kind) (n : ℕ) (left rest : List (List (List ℕ))) (r : List (List ℕ)) (total : Result ℕ SegmentFault)
    → n ≤ 1000000 → left ≡ r ∷ rest → Ok tt ≡ verdict (row_behind n ks r) → more n (counted (rows_from ks (n + 1) left))
    ≡ total → more (n + 1) (counted (rows_from ks (n + 1 + 1) rest)) ≡ total
rows-judged ks n left rest r total few e good so_far =
    let others = rows_from ks (n + 1 + 1) rest in
    sym (ap (λ (read : Result (List (List Meaning)) SegmentFault). more n (counted read)) (rows-behind ks n left rest r few e)
    ∙ more-then n (row_behind n ks r) (λ x. others >>= λ xs. Ok (x ∷ xs)) (more (n + 1) (counted others)) (λ x. more-front n x others) good)
    ∙ so_far

-- a row's fault is the segment's
pub rows-refused : (fault : SegmentFault) (ks : List Kind) (n : ℕ) (left rest : List (List (List ℕ))) (r : List (List ℕ))
    (total : Result ℕ SegmentFault)
    → n ≤ 1000000 → left ≡ r ∷ rest → Err fault ≡ verdict (row_behind n ks r) → more n (counted (rows_from ks (n + 1) left))
    ≡ total → total ≡ Err fault
rows-refused fault ks n left rest r total few e bad so_far =
    sym so_far ∙ ap (λ (read : Result (List (List Meaning)) SegmentFault). more n (counted read)) (rows-behind ks n left rest r few e)
    ∙ more-stop fault n (row_behind n ks r) (λ x. rows_from ks (n + 1 + 1) rest >>= λ xs. Ok (x ∷ xs)) bad

pub rows-over : (ks : List Kind) (n row : ℕ) (left : List (List (List ℕ))) (total : Result ℕ SegmentFault) → left ≡ []
    → more n (counted (rows_from ks row left)) ≡ total → total ≡ Ok n
unfolding rows_from
rows-over ks n row left total e so_far =
    let one : more n (counted (rows_from ks row left)) ≡ Ok n = rw e (ap Ok (omega arith)) in
    sym so_far ∙ one

-- good rows are not too many
pub judged-room : (ks : List Kind) (n : ℕ) (r : List (List ℕ)) → n ≤ 1000000 → Ok tt ≡ verdict (row_behind n ks r) → n + 1 ≤ 1000000
judged-room ks n r few good = by (n == 1000000) refl
  where
    by : (b : Bool) → (n == 1000000) ≡ b → n + 1 ≤ 1000000
    by true h = let full : verdict (row_behind n ks r) ≡ Err faults.TooManyRows = rw h refl in absurd (cc (full, good))
    by false h = let other : n ≢ 1000000 = eqb-false n 1000000 h in omega (arith, few, other)
