-- The first rows of segments, which are those of the table, and what is cut of them.
use Rattle.std.proofs.Common.{◌≡◌, ℕ, zero, suc, ◌+◌, ◌-◌, ◌<◌, ◌≤◌, ◌==◌, ◌||◌, Bool, true, false, cond, List, [], ◌∷◌, ◌++◌}
use Rattle.std.proofs.Common.{length, take, take_all, drop, min, append-nil, append_assoc, Option, Some, None, length-append, length-drop}
use Rattle.std.proofs.Common.{nat_lt, Ok, Err, true≢false, refl, sym, ap, ◌∙◌, arith}
use Rattle.std.proofs.lemmas.Bool.Decides.{nat_tests}
use Rattle.std.proofs.lemmas.List.{length-map, length-take}
use Rattle.std.specs.Borrow.{Bor}
use Rattle.wvalues.specs.Names.{NameParts}
use Rattle.wvalues.specs.declared.key.SortKey.{SortKey}
use Rattle.wvalues.specs.declared.value.Value.{Value}
use Rattle.wsegment.specs.Rows.{Content}
use Rattle.wrows.specs.Columns.{Row}
use Rattle.wrows.specs.Laid.{row_seen, rows_seen}
use Rattle.wrows.specs.declared.fault.AnswerFault.{AnswerFault}
use Rattle.wrows.specs.declared.fault.AnswerFault.TheVariants.{OutOfRange, TooManyRows, NoMemory}
use Rattle.wrows.specs.Outcomes.{◌>>=◌, Gives, unless}
use Rattle.wrows.specs.Plain.{at_most_limit, cut, kept_of}
use Rattle.wrows.proofs.RowFacts.{take_least}
use Rattle.wframe.specs.Sorting.{inserted}
use Rattle.wtable.specs.Front.{front_count, front_of, standing_of}
use Rattle.wtable.specs.Leading.{row_cmp, rows_by}
use Rattle.wtable.proofs.FirstFacts.{cut_of_taken}
use Rattle.wtable.proofs.HeldFacts.{rows_left}

-- so many of two lists one behind the other
taken_apart : {X : Type 0} (n : ℕ) (xs ys : List X) → take n (xs ++ ys) ≡ take n xs ++ take (n - length xs) ys
taken_apart zero xs ys = let e : 0 ≡ 0 - length xs = omega arith in ap (λ m. take m ys) e
taken_apart {X} (suc n) [] ys = let e : suc n ≡ suc n - length {A = X} [] = omega arith in ap (λ m. take m ys) e
taken_apart (suc n) (x ∷ xs) ys =
    let e : n - length xs ≡ suc n - length (x ∷ xs) = omega arith in
    ap (λ l. x ∷ l) (taken_apart n xs ys ∙ ap (λ m. take n xs ++ take m ys) e)

pub taken_twice : {X : Type 0} (n : ℕ) (xs : List X) → take n (take n xs) ≡ take n xs
taken_twice zero xs = refl
taken_twice (suc n) [] = refl
taken_twice (suc n) (x ∷ xs) = ap (λ l. x ∷ l) (taken_twice n xs)

-- where none is held yet
pub front_none : (old : List Row) (most : ℕ) (all rest : List Row) → old ≡ [] → rest ≡ all
    → old ++ take (most - length old) rest ≡ take most all
front_none old most all rest none is =
    let e : most - length {A = Row} [] ≡ most = omega arith in
    ap (λ (l : List Row). l ++ take (most - length l) rest) none ∙ ap (λ n. take n rest) e ∙ ap (take most) is

-- the first rows of one segment more
pub front_more : (old now : List Row) (most held : ℕ) (all : List Row) (segments left : List (NameParts × Content)) (e : NameParts × Content)
    → held ≡ length old → segments ≡ e ∷ left → old ++ take (most - length old) (rows_left segments) ≡ all
    → now ≡ old ++ take (most - held) e.1.rows → now ++ take (most - length now) (rows_left left) ≡ all
front_more old now most held all segments left e long is before more =
    let m = most - length old in
    let stored : List Row = e.1.rows in
    let now_is : now ≡ old ++ take m stored = more ∙ ap (λ n. old ++ take (most - n) stored) long in
    let short : most - length now ≡ m - length stored = omega (
      arith,
      ap length now_is,
      length-append old (take m stored),
      length-take m stored,
    ) in
    ap (λ l. l ++ take (most - length now) (rows_left left)) now_is ∙ append_assoc old (take m stored) (take (most - length now) (rows_left left))
    ∙ ap (λ n. old ++ (take m stored ++ take n (rows_left left))) short
    ∙ ap (λ l. old ++ l) (sym (taken_apart m stored (rows_left left)) ∙ ap (λ l. take m (rows_left l)) (sym is)) ∙ before

-- where as many are held as are asked for, or no segment is left
pub front_full : (old : List Row) (most held : ℕ) (all rest : List Row) → held ≡ length old → most ≤ held
    → old ++ take (most - length old) rest ≡ all → old ≡ all
front_full old most held all rest long full so_far =
    let e : most - length old ≡ 0 = omega (arith, long, full) in
    sym (append-nil old) ∙ ap (λ n. old ++ take n rest) (sym e) ∙ so_far

pub front_whole : (old : List Row) (most : ℕ) (all rest : List Row) → rest ≡ [] → old ++ take (most - length old) rest ≡ all → old ≡ all
front_whole old most all rest none so_far =
    sym (append-nil old) ∙ ap (λ l. old ++ l) (sym (nothing (most - length old)))
    ∙ ap (λ l. old ++ take (most - length old) l) (sym none) ∙ so_far
  where
    nothing : (n : ℕ) → take {A = Row} n [] ≡ []
    nothing zero = refl
    nothing (suc n) = refl

-- the rows of a segment that are taken, by their number
pub front_taken : (left n : ℕ) (xs : List Row) (count : ℕ) → n ≡ length xs → count ≡ min left n → take count xs ≡ take left xs
front_taken left n xs count long is = ap (λ m. take m xs) (is ∙ ap (min left) long) ∙ take_least left xs

-- so many of the first are needed
pub needed_is : (offset : ℕ) (limit : Option ℕ) (total from count : ℕ) → from ≡ min offset total
    → count ≡ at_most_limit limit (total - from) → cond (count == 0) 0 (from + count) ≡ front_count offset limit total
needed_is offset limit total from count e f =
    let same : total - from ≡ total - offset = omega (arith, e) in
    let is : count ≡ at_most_limit limit (total - offset) = f ∙ ap (at_most_limit limit) same in
    go (count == 0) refl ∙ ap (λ n. cond (n == 0) 0 (offset + n)) is
  where
    within : (l : Option ℕ) (n : ℕ) → at_most_limit l n ≤ n
    within None n = omega arith
    within (Some l) n = omega arith

    go : (b : Bool) → (count == 0) ≡ b → cond b 0 (from + count) ≡ cond b 0 (offset + count)
    go true h = refl
    go false h =
        let some : 0 < count = grind (arith, nat_tests, h) in
        let all : from ≡ offset = omega (arith, e, f, some, within limit (total - from)) in
        ap (λ n. n + count) all

-- what is cut of the first rows is cut of all
front_dropped : {X : Type 0} (offset : ℕ) (limit : Option ℕ) (rows : List X)
    → drop offset (front_of offset limit rows) ≡ take (at_most_limit limit (length rows - offset)) (drop offset rows)
front_dropped {X} offset limit rows = go (count == 0) refl
  where
    count : ℕ
    count = at_most_limit limit (length rows - offset)

    nothing : (n : ℕ) → drop {A = X} n [] ≡ []
    nothing zero = refl
    nothing (suc n) = refl

    go : (b : Bool) → (count == 0) ≡ b → drop offset (take (cond b 0 (offset + count)) rows) ≡ take count (drop offset rows)
    go true h =
        let none : 0 ≡ count = grind (arith, nat_tests, h) in
        nothing offset ∙ ap (λ n. take n (drop offset rows)) none
    go false h = sym (cut_of_taken offset count (offset + count) rows refl)

pub cut_front : {X : Type 0} (offset : ℕ) (limit : Option ℕ) (rows : List X)
    → cut offset limit (front_of offset limit rows) ≡ cut offset limit rows
cut_front offset None rows =
    front_dropped offset None rows
    ∙ take_all (length rows - offset) (drop offset rows) (omega (arith, length-drop offset rows))
cut_front offset (Some limit) rows =
    let left = drop offset rows in
    ap (take limit) (front_dropped offset (Some limit) rows ∙ ap (λ n. take (min limit n) left) (sym (length-drop offset rows))
    ∙ take_least limit left) ∙ taken_twice limit left

-- no more rows than are needed
pub front_short : (rows : List (Bor (List Value))) (most : ℕ) (all : List Row) → rows_seen rows ≡ take most all → length rows ≤ most
front_short rows most all is = omega (arith, length-map rows row_seen, ap length is, length-take most all)

-- whether the first rows are those in front
pub some_asked : (most keys : ℕ) → (most == 0 || keys == 0) ≡ false → 0 < most
some_asked zero keys h = absurd (true≢false h)
some_asked (suc most) keys h = omega arith

-- where no key orders rows they stay as they stand
unsorted : (rows : List Row) → rows_by [] rows ≡ rows
unsorted [] = refl
unsorted (row ∷ rows) = ap (inserted (row_cmp []) row) (unsorted rows) ∙ first rows
  where
    first : (xs : List Row) → inserted (row_cmp []) row xs ≡ row ∷ xs
    first [] = refl
    first (x ∷ xs) = refl

not_zero : (n : ℕ) → (suc n == 0) ≡ false
not_zero n = grind (arith, nat_tests)

neither : (n m : ℕ) → (suc n == 0 || suc m == 0) ≡ false
neither n m = rw (not_zero n) (not_zero m)

pub front_leads : (keys : List SortKey) (most : ℕ) (rows all : List Row) → (most == 0 || length keys == 0) ≡ true → rows ≡ take most all
    → take most (rows_by keys rows) ≡ take most (rows_by keys all)
front_leads keys zero rows all any is = refl
front_leads [] (suc n) rows all any is = ap (take (suc n)) (unsorted rows ∙ is) ∙ taken_twice (suc n) all ∙ ap (take (suc n)) (sym (unsorted all))
front_leads (k ∷ keys) (suc n) rows all any is = absurd (true≢false (sym any ∙ neither n (length keys)))

-- rows that are not too many, of which the first are needed
pub kept_in_front : (offset : ℕ) (limit : Option ℕ) (rows found : List Row)
    → standing_of offset limit rows ≡ Ok found → (kept_of None rows ≡ Ok rows) × (found ≡ front_of offset limit rows)
kept_in_front offset limit rows found e = go (nat_lt 2147483647 (length rows)) e
  where
    go : (b : Bool) → (unless b TooManyRows rows >>= λ all. Ok (front_of offset limit all)) ≡ Ok found
        → (unless b TooManyRows rows ≡ Ok rows) × (found ≡ front_of offset limit rows)
    go true h = absurd (cc)
    go false h = (refl, cc)

-- the first rows of all are those that are needed
pub standing_given : (offset : ℕ) (limit : Option ℕ) (all rows : List Row) (total needed : ℕ) → kept_of None all ≡ Ok all
    → length all ≡ total → needed ≡ front_count offset limit total → rows ≡ take needed all → standing_of offset limit all ≡ Ok rows
standing_given offset limit all rows total needed kept long need is =
    ap (λ r. r >>= λ all. Ok (front_of offset limit all)) kept
    ∙ ap Ok (ap (λ n. take (front_count offset limit n) all) long ∙ sym (is ∙ ap (λ n. take n all) need))

pub standing_refused : {X : Type 0} (view : X → List Row) (offset : ℕ) (limit : Option ℕ) (all : List Row) (fault : AnswerFault)
    → kept_of None all ≡ Err fault → Gives view (Err fault) (standing_of offset limit all)
standing_refused {X} view offset limit all fault refused =
    given fault (ap (λ r. r >>= λ all. Ok (front_of offset limit all)) refused)
  where
    given : (fault : AnswerFault) → standing_of offset limit all ≡ Err fault → Gives view (Err fault) (standing_of offset limit all)
    given OutOfRange e = e
    given TooManyRows e = e
    given NoMemory e = tt
