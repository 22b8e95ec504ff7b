-- What a grouping that counts all rows answers depends on their number alone.
use Rattle.std.proofs.Common.{◌≡◌, ℕ, zero, suc, pos, ◌+◌, ◌<◌, false, List, [], ◌∷◌, ◌++◌, length}
use Rattle.std.proofs.Common.{map, take, None, Result, Ok, refl, sym, ap, ◌∙◌, arith}
use Rattle.std.specs.List.{AllByRecursion, list_any, count_by}
use Rattle.std.proofs.lemmas.List.Recursion.{is_count_by}
use Rattle.wvalues.specs.Meaning.{Meaning, Int, Null}
use Rattle.wframe.specs.Places.{places}
use Rattle.wplan.specs.Formula.{Constant}
use Rattle.wplan.specs.Plans.{GroupCallPlan, GroupingPlan}
use Rattle.wplan.specs.declared.resolved.AggregateFunction.TheVariants.{CountRows}
use Rattle.wslide.specs.Aggregates.{count_of_rows, passes}
use Rattle.waggregate.specs.Aggregating.{Feed, aggregate_of}
use Rattle.wrows.specs.declared.fault.AnswerFault.{AnswerFault}
use Rattle.wrows.specs.declared.fault.AnswerFault.TheVariants.{OutOfRange}
use Rattle.wrows.specs.Columns.{Row, beside, filter_of, held_rows, in_range, is_out_of_range, not_too_many, value_at, value_on}
use Rattle.wrows.specs.Outcomes.{◌>>=◌, each, unless}
use Rattle.wrows.proofs.RowFacts.{length-places, map-map}
use Rattle.wgroup.specs.Counting.{CountsRows, row_count}
use Rattle.wgroup.specs.Grouping.{Group, call_column, group_rows, groups_of}

none_out : (rows : List Row) → list_any (is_out_of_range (Constant Null)) rows ≡ false
none_out [] = refl
none_out (row ∷ rows) = none_out rows

all_pass : (xs : List ℕ) → count_by (passes None) xs ≡ length xs
all_pass xs = sym (is_count_by length (passes None) refl (λ x ys. (let s : suc (length ys) ≡ 1 + length ys = omega arith in s)) xs)

module _ (rows : List Row) (n : ℕ) (long : length rows ≡ n) where
  abbrev all_rows : Group
  all_rows = record { set = []; key = []; rows = places (length rows) }

  abbrev count : Meaning
  count = Int (pos n)

  counted : count_of_rows None (places (length rows)) ≡ n
  counted = all_pass (places (length rows)) ∙ length-places 0 (length rows) ∙ long

  column_counted : call_column rows (all_rows ∷ []) row_count ≡ Ok (count ∷ [])
  column_counted =
      ap (λ b. ((unless b OutOfRange (map (value_on (Constant Null)) rows) >>= λ values. filter_of None rows >>= λ filter.
      Ok (record { values = values; filter = filter })) >>= λ (feed : Feed). in_range
      (map (λ (g : Group). aggregate_of CountRows feed g.rows) (all_rows ∷ []))))
      (none_out rows)
      ∙ ap (λ k. Ok (Int (pos k) ∷ [])) counted

  columns_counted : (calls : List GroupCallPlan) → AllByRecursion (λ c. c ≡ row_count) calls
      → each (call_column rows (all_rows ∷ [])) calls ≡ Ok (map (λ c. count ∷ []) calls)
  columns_counted [] all = refl
  columns_counted (c ∷ cs) all =
      let others : Result (List (List Meaning)) AnswerFault = each (call_column rows (all_rows ∷ [])) cs in
      ap (λ x. call_column rows (all_rows ∷ []) x >>= λ y. others >>= λ ys. Ok (y ∷ ys)) all.0
      ∙ ap (λ r. r >>= λ y. others >>= λ ys. Ok (y ∷ ys)) column_counted
      ∙ ap (λ r. r >>= λ ys. Ok ((count ∷ []) ∷ ys)) (columns_counted cs all.1)

  row_of_counts : (calls : List GroupCallPlan) → beside ([] ∷ []) (map (λ c. count ∷ []) calls) ≡ map (λ c. count) calls ∷ []
  row_of_counts calls = ap (λ l. l ∷ []) (map-map (λ column. value_at column 0) (λ c. count ∷ []) calls)

  pub rows_counted : (g : GroupingPlan) → CountsRows g → group_rows g rows ≡ held_rows g.having (map (λ c. count) g.calls ∷ [])
  rows_counted g is =
      let after : List Group → Result (List Row) AnswerFault = λ groups. each (call_column rows groups) g.calls
      >>= λ columns. held_rows g.having (beside (map (λ (group : Group). group.key) groups) columns) in
      ap (λ columns. not_too_many (groups_of columns g.sets rows) >>= after) is.columns
      ∙ ap (λ sets. not_too_many (groups_of [] sets rows) >>= after) is.sets
      ∙ ap (λ r. r >>= λ columns. held_rows g.having (beside ([] ∷ []) columns)) (columns_counted g.calls is.calls)
      ∙ ap (held_rows g.having) (row_of_counts g.calls)

-- the same for one element more
pub same_taken : {X Y : Type 0} (y : Y) (xs : List X) (i : ℕ) → i < length xs
    → map (λ x. y) (take (i + 1) xs) ≡ map (λ x. y) (take i xs) ++ y ∷ []
same_taken y [] i h = absurd (omega (arith, h))
same_taken y (x ∷ xs) zero h = refl
same_taken y (x ∷ xs) (suc i) h =
    let s : suc i + 1 ≡ suc (i + 1) = omega arith in
    ap (λ k. map (λ z. y) (take k (x ∷ xs))) s ∙ ap (λ l. y ∷ l) (same_taken y xs i (omega (arith, h)))
