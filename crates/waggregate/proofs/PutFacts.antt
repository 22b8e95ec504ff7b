-- Values that are put into cells one after another, each at the number of its row.
use Rattle.std.proofs.Common.{◌≡◌, ℕ, ◌+◌, ◌<◌, ◌≤◌, false, set, List, [], ◌∷◌, ◌++◌, length, map, drop}
use Rattle.std.proofs.Common.{get_or, Option, Some, None, Ok, sym, ap, refl, ◌∙◌, arith}
use Rattle.std.specs.Prelude.{unwrap_or}
use Rattle.std.specs.Option.{is_none}
use Rattle.std.proofs.Math.ListN.{drop_of_length-le}
use Rattle.std.proofs.lemmas.List.{at_drop_more, length-map, length-set, map-set}
use Rattle.wvalues.specs.Meaning.{Meaning, Null}
use Rattle.waggregate.specs.FrameAnswers.{answer_or_out_of_range}
use Rattle.waggregate.specs.Put.{put_all}

-- one value more, of cells that each stand for a value
pub put_next : {X : Type 0} (meant : X → Meaning) (rows : List ℕ) (values : List Meaning) (k : ℕ) (cells new : List X)
    (value : X) (end : List Meaning) → k < length rows → k < length values → new ≡ set cells (get_or rows k 0) value
    → meant value ≡ get_or values k Null
    → put_all (map meant cells) (drop k rows) (drop k values) ≡ end
    → put_all (map meant new) (drop (k + 1) rows) (drop (k + 1) values) ≡ end
put_next meant rows values k cells new value end h l written is so_far =
    let r = get_or rows k 0 in
    ap (λ c. put_all (map meant c) (drop (k + 1) rows) (drop (k + 1) values)) written
    ∙ ap (λ c. put_all c (drop (k + 1) rows) (drop (k + 1) values)) (map-set meant cells r value)
    ∙ ap (λ m. put_all (set (map meant cells) r m) (drop (k + 1) rows) (drop (k + 1) values)) is
    ∙ sym (at_drop_more (λ l. put_all (map meant cells) l (get_or values k Null ∷ drop (k + 1) values)) rows k 0 h)
    ∙ sym (at_drop_more (put_all (map meant cells) (drop k rows)) values k Null l)
    ∙ so_far

-- behind the last row nothing is put
pub put_beyond : (cells values values2 : List Meaning) (rows : List ℕ) (k : ℕ) → length rows ≤ k
    → put_all cells (drop (k + 1) rows) values ≡ put_all cells (drop k rows) values2
put_beyond cells values values2 rows k h =
    let longer : length rows ≤ k + 1 = omega (arith, h) in
    ap (λ l. put_all cells l values) (drop_of_length-le rows longer) ∙ sym (ap (λ l. put_all cells l values2) (drop_of_length-le rows h))

pub none_put : (cells : List Meaning) (rows : List ℕ) → put_all cells rows [] ≡ cells
none_put cells [] = refl
none_put cells (row ∷ rows) = refl

-- as many cells as before
length-put_all : (cells : List Meaning) (rows : List ℕ) (values : List Meaning) → length (put_all cells rows values) ≡ length cells
length-put_all cells [] values = refl
length-put_all cells (row ∷ rows) [] = refl
length-put_all cells (row ∷ rows) (value ∷ values) = length-put_all (set cells row value) rows values ∙ length-set cells row value

pub put_long : {X : Type 0} (meant : X → Meaning) (cells new : List X) (rows : List ℕ) (values : List Meaning)
    → map meant new ≡ put_all (map meant cells) rows values → length new ≡ length cells
put_long meant cells new rows values e =
    omega (arith, ap length e, length-put_all (map meant cells) rows values, length-map new meant, length-map cells meant)

-- values that are put for some rows, and others for those behind them
pub put_append : (cells : List Meaning) (rows others : List ℕ) (values more : List Meaning) → length rows ≡ length values
    → put_all cells (rows ++ others) (values ++ more) ≡ put_all (put_all cells rows values) others more
put_append cells [] others [] more h = refl
put_append cells [] others (value ∷ values) more h = absurd (omega (arith, h))
put_append cells (row ∷ rows) others [] more h = absurd (omega (arith, h))
put_append cells (row ∷ rows) others (value ∷ values) more h = put_append (set cells row value) rows others values more (omega (arith, h))

-- all values are put
pub all_put : (cells values : List Meaning) (rows : List ℕ) (k : ℕ) → length values ≤ k
    → put_all cells (drop k rows) (drop k values) ≡ cells
all_put cells values rows k h = ap (put_all cells (drop k rows)) (drop_of_length-le values h) ∙ none_put cells (drop k rows)

-- an answer is in range
pub answer_in_range : (r : Option Meaning) (m : Meaning) → answer_or_out_of_range r ≡ Ok m → is_none r ≡ false
answer_in_range None m e = absurd (cc)
answer_in_range (Some n) m e = refl

-- and is the value
pub value_answered : (r : Option Meaning) (m : Meaning) → answer_or_out_of_range r ≡ Ok m → m ≡ unwrap_or r Null
value_answered None m e = absurd (cc)
value_answered (Some n) m e = cc
