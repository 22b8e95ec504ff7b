-- Summaries of groups, one row after another, and what they say.
use Rattle.std.proofs.Common.{◌≡◌, ℕ, pos, ◌+◌, ◌<◌, ◌^◌, ◌==◌, Bool, true, false, cond, List, [], ◌∷◌, length, map}
use Rattle.std.proofs.Common.{filter, fold, get_or, slice_set, Option, Some, None, Ordering, is_lt, Ok}
use Rattle.std.proofs.Common.{◌++◌, take, unwrap_or, refl, sym, subst, ap, ◌∙◌, arith, replicate}
use Rattle.std.proofs.lemmas.List.{get_or-map, length-map, length-replicate, map-append, map-set, take_more}
use Rattle.std.specs.Prelude.{All}
use Rattle.std.specs.List.{AllByRecursion}
use Rattle.std.proofs.lemmas.List.Elements.{All-replicate, recursion_from_All}
use Rattle.wvalues.specs.Meaning.{Meaning, Null, Int, Text, meaning}
use Rattle.wvalues.specs.declared.value.Value.{Value}
use Rattle.wframe.specs.Places.{places, places_from}
use Rattle.wslide.specs.Aggregates.{by_value, by_value_descending, fed, is_value, IsInRange}
use Rattle.wslide.specs.Counts.{count_at, counts_joined}
use Rattle.wslide.specs.Laws.{rows_fold}
use Rattle.wslide.specs.Lawful.{by_value_total, by_value_descending_total}
use Rattle.wslide.specs.Leasts.{leasts_joined, place_at}
use Rattle.wslide.specs.Sums.{sum_part, sums_joined}
use Rattle.wplan.specs.declared.resolved.AggregateFunction.{AggregateFunction}
use Rattle.wplan.specs.declared.resolved.AggregateFunction.TheVariants.{CountRows, Count, Sum, Min, Max}
use Rattle.waggregate.specs.Aggregating.{Feed, aggregate_of, sum_answer, value_or_null}
use Rattle.waggregate.specs.FrameAnswers.{answer_or_out_of_range}
use Rattle.waggregate.specs.Grouped.{rows_of_group}
use Rattle.waggregate.specs.Summaries.{AreSummaries, AreSummed, IsEmpty, IsWith, answer_at, first_in, folds, are_enough, covers, value_in}
use Rattle.waggregate.specs.declared.summaries.Extremes.{Extremes}
use Rattle.waggregate.specs.declared.summaries.First.TheVariants as firsts
use Rattle.waggregate.specs.declared.summaries.Summary.{Summary}
use Rattle.waggregate.specs.declared.summaries.Summaries.{Summaries}
use Rattle.waggregate.proofs.FrameFacts.{LeastLaw}
use Rattle.waggregate.proofs.GroupFacts.{firsts_answered, known_length, mapped_at, part_of, parts_more}
use Rattle.waggregate.proofs.GroupFacts.{rows_answered, sums_answered, values_answered}
use Rattle.waggregate.proofs.LeastFacts.{FirstLaw}
use Rattle.waggregate.proofs.PutFacts.{value_answered}
use Rattle.waggregate.proofs.PickedFacts.{CountedRowsLaw, CountedLaw, SummedLaw}

module _ {P : Type 0} (field : Summary → P) (neutral : P) (joined : P → P → P) (part_at : ℕ → P) (groups : List ℕ) where
  -- no row so far
  none_from : (a : ℕ) (all : List Summary) → AllByRecursion (λ s. field s ≡ neutral) all
      → map field all ≡ map (λ (g : ℕ). neutral) (places_from a (length all))
  none_from a [] each = refl
  none_from a (s ∷ all) each = ap (λ x. x ∷ map field all) each.0 ∙ ap (λ l. neutral ∷ l) (none_from (a + 1) all each.1)

  pub field_none : (all : List Summary) (count : ℕ) → length all ≡ count → All (λ s. field s ≡ neutral) all
      → map field all ≡ folds neutral joined part_at groups 0 count
  field_none all count long each = none_from 0 all (recursion_from_All (λ s. field s ≡ neutral) all each)
      ∙ ap (λ n. map (λ (g : ℕ). neutral) (places n)) long

  module _ (rows count : ℕ) (all : List Summary) (so_far : map field all ≡ folds neutral joined part_at groups rows count) where
    pub field_long : length all ≡ count
    field_long = sym (length-map all field) ∙ known_length (part_of neutral joined part_at groups rows) count (map field all) so_far

    -- one row more
    pub field_more : (group : ℕ) (old new : Summary) (part : P) → group ≡ get_or groups rows 0 → group < count
        → old ≡ get_or all group old → part ≡ part_at rows → field new ≡ joined (field old) part
        → map field (slice_set all group new) ≡ folds neutral joined part_at groups (rows + 1) count
    field_more group old new part is below here own joins =
        let within : group < length all = omega (arith, field_long) in
        map-set field all group new
        ∙ parts_more neutral joined part_at groups rows count group (map field all) (field old) part (field new) so_far is below
        (ap field here ∙ sym (get_or-map field all group old (field old) within)) own joins

    -- what a group's summary holds
    pub field_at : (group : ℕ) (none : Summary) → group < count
        → field (get_or all group none) ≡ part_of neutral joined part_at groups rows group
    field_at group none below =
        let within : group < length all = omega (arith, field_long) in
        sym (get_or-map field all group none (field none) within) ∙ ap (λ l. get_or l group (field none)) so_far
        ∙ mapped_at (part_of neutral joined part_at groups rows) count group (field none) below

-- a count that was folded has 64 bits
folded_small : (xs : List ℕ) (n : ℕ) → n < 2 ^ 64 → fold counts_joined n xs < 2 ^ 64
folded_small [] n h = h
folded_small (x ∷ xs) n h = folded_small xs (counts_joined n x) (omega arith)

counted : (b : Bool) (n : ℕ) → n < 2 ^ 64 → cond b (counts_joined n 1) n ≡ counts_joined n (cond b 1 0)
counted true n h = refl
counted false n h = omega arith

pub summed_none : (values : List Meaning) (e : Extremes) (groups : List ℕ) (count : ℕ) (all : List Summary) → length all ≡ count
    → All IsEmpty all → AreSummed values e groups 0 count all
summed_none values e groups count all long empty = record {
  rows = field_none (λ s. s.rows) 0 counts_joined (count_at None None) groups all count long (λ k d h. (empty k d h).rows);
  counts = field_none (λ s. s.values) 0 counts_joined (count_at (Some values) None) groups all count long
      (λ k d h. (empty k d h).values);
  sums = field_none (λ s. s.sum) None sums_joined (λ row. sum_part (fed values None row)) groups all count long
      (λ k d h. (empty k d h).sum);
  leasts = λ covered. field_none (λ s. value_in s.least) Null (first_in by_value) (fed values None) groups all count long
      (λ k d h. (empty k d h).least);
  greatests = λ covered. field_none (λ s. value_in s.greatest) Null (first_in by_value_descending) (fed values None) groups all count
      long (λ k d h. (empty k d h).greatest);
}

pub summed_more : (values : List Meaning) (e : Extremes) (groups : List ℕ) (row count : ℕ) (all : List Summary)
    (old new : Summary) → get_or groups row 0 < count → old ≡ get_or all (get_or groups row 0) old
    → new.rows ≡ counts_joined old.rows 1 → IsWith e (get_or values row Null) old new
    → AreSummed values e groups row count all → AreSummed values e groups (row + 1) count (slice_set all (get_or groups row 0) new)
summed_more values e groups row count all old new below here counts with was =
    let group = get_or groups row 0 in
    let value = get_or values row Null in
    let held : old.values ≡ part_of 0 counts_joined (count_at (Some values) None) groups row group =
    ap (λ s. s.values) here
    ∙ field_at (λ s. s.values) 0 counts_joined (count_at (Some values) None) groups row count all was.counts group old below in
    let small = folded_small (map (count_at (Some values) None) (filter (λ row. get_or groups row 0 == group) (places row))) 0
    (omega arith) in
    record {
      rows = field_more (λ s. s.rows) 0 counts_joined (count_at None None) groups row count all was.rows group old new 1
          refl below here refl counts;
      counts = field_more (λ s. s.values) 0 counts_joined (count_at (Some values) None) groups row count all was.counts group
          old new (cond (is_value value) 1 0) refl below here refl
          (with.values ∙ counted (is_value value) old.values (omega (arith, held, small)));
      sums = field_more (λ s. s.sum) None sums_joined (λ row. sum_part (fed values None row)) groups row count all was.sums
          group old new (sum_part value) refl below here refl with.sum;
      leasts = λ h. field_more (λ s. value_in s.least) Null (first_in by_value) (fed values None) groups row count all
          (was.leasts h) group old new value refl below here refl (with.least h);
      greatests = λ h. field_more (λ s. value_in s.greatest) Null (first_in by_value_descending) (fed values None) groups row
          count all (was.greatests h) group old new value refl below here refl (with.greatest h);
    }

-- values, of which the one that stands first is kept, and the place of it
module _ (order : Meaning → Meaning → Ordering) (behind : (m : Meaning) → is_lt (order Null m) ≡ false)
    (ahead : (m : Meaning) → is_value m ≡ true → is_lt (order m Null) ≡ true) (values : List Meaning) where
  at : ℕ → Meaning
  at i = get_or values i Null

  picked : (i row : ℕ) (b : Bool) → cond b (get_or values row Null) (get_or values i Null)
      ≡ value_or_null values (cond b (Some row) (Some i))
  picked i row true = refl
  picked i row false = refl

  step_none : (row : ℕ) (v : Meaning) → get_or values row Null ≡ v
      → first_in order Null v ≡ value_or_null values (leasts_joined order values None (cond (is_value v) (Some row) None))
  step_none row Null e = ap (λ b. cond b Null Null) (behind Null)
  step_none row (Int x) e = ap (λ b. cond b (Int x) Null) (ahead (Int x) refl) ∙ sym e
  step_none row (Text x) e = ap (λ b. cond b (Text x) Null) (ahead (Text x) refl) ∙ sym e

  step_some : (i row : ℕ) (v : Meaning) → get_or values row Null ≡ v → first_in order (get_or values i Null) v
      ≡ value_or_null values (leasts_joined order values (Some i) (cond (is_value v) (Some row) None))
  step_some i row Null e = ap (λ b. cond b Null (get_or values i Null)) (behind (get_or values i Null))
  step_some i row (Int x) e = ap (λ m. cond (is_lt (order m (get_or values i Null))) m (get_or values i Null)) (sym e)
      ∙ picked i row (is_lt (order (get_or values row Null) (get_or values i Null)))
  step_some i row (Text x) e = ap (λ m. cond (is_lt (order m (get_or values i Null))) m (get_or values i Null)) (sym e)
      ∙ picked i row (is_lt (order (get_or values row Null) (get_or values i Null)))

  step : (place : Option ℕ) (row : ℕ) → first_in order (value_or_null values place) (fed values None row)
      ≡ value_or_null values (leasts_joined order values place (place_at values None row))
  step None row = step_none row (get_or values row Null) refl
  step (Some i) row = step_some i row (get_or values row Null) refl

  first_from : (place : Option ℕ) (rows : List ℕ) → fold (first_in order) (value_or_null values place) (map (fed values None) rows)
      ≡ value_or_null values (fold (leasts_joined order values) place (map (place_at values None) rows))
  first_from place [] = refl
  first_from place (row ∷ rows) =
      ap (λ m. fold (first_in order) m (map (fed values None) rows)) (step place row)
      ∙ first_from (leasts_joined order values place (place_at values None row)) rows

  pub first_fold : (rows : List ℕ) → rows_fold Null (first_in order) (fed values None) rows
      ≡ value_or_null values (rows_fold None (leasts_joined order values) (place_at values None) rows)
  first_fold rows = first_from None rows

behind_least : (m : Meaning) → is_lt (by_value Null m) ≡ false
behind_least Null = refl
behind_least (Int x) = refl
behind_least (Text x) = refl

ahead_least : (m : Meaning) → is_value m ≡ true → is_lt (by_value m Null) ≡ true
ahead_least Null h = absurd (cc)
ahead_least (Int x) h = refl
ahead_least (Text x) h = refl

behind_greatest : (m : Meaning) → is_lt (by_value_descending Null m) ≡ false
behind_greatest Null = refl
behind_greatest (Int x) = refl
behind_greatest (Text x) = refl

ahead_greatest : (m : Meaning) → is_value m ≡ true → is_lt (by_value_descending m Null) ≡ true
ahead_greatest Null h = absurd (cc)
ahead_greatest (Int x) h = refl
ahead_greatest (Text x) h = refl

module _ (values : List Meaning) (e : Extremes) (groups : List ℕ) (count : ℕ) (all : List Summary) (few : length groups < 2 ^ 31)
    (ranges : (row : ℕ) → IsInRange (fed values None row)) (are : AreSummed values e groups (length groups) count all) where
  abbrev feed : Feed
  feed = record { values = values; filter = None }

  abbrev head : List (Option Meaning) → Option Meaning
  head answers = get_or answers 0 None

  module _ (rows_law : CountedRowsLaw) (values_law : CountedLaw) (sums_law : SummedLaw) (first : FirstLaw)
      (least : LeastLaw by_value) (greatest : LeastLaw by_value_descending) where
    pub said : (function : AggregateFunction) (group : ℕ) (none : Summary) → are_enough e function ≡ true → group < count
        → answer_at function all group none ≡ aggregate_of function feed (rows_of_group groups group)
    said CountRows group none covered below =
        ap (λ n. Some (Int (pos n)))
        (field_at (λ s. s.rows) 0 counts_joined (count_at None None) groups (length groups) count all are.rows group none below)
        ∙ ap head (rows_answered groups (group ∷ []) few feed values None refl refl rows_law)
    said Count group none covered below =
        ap (λ n. Some (Int (pos n)))
        (field_at (λ s. s.values) 0 counts_joined (count_at (Some values) None) groups (length groups) count all are.counts
        group none below) ∙ ap head (values_answered groups (group ∷ []) few feed values None refl refl values_law)
    said Sum group none covered below =
        ap sum_answer
        (field_at (λ s. s.sum) None sums_joined (λ row. sum_part (fed values None row)) groups (length groups) count all are.sums
        group none below) ∙ ap head (sums_answered groups (group ∷ []) few feed values None refl refl sums_law ranges)
    said Min group none covered below =
        ap (λ m. Some m)
        (field_at (λ s. value_in s.least) Null (first_in by_value) (fed values None) groups (length groups) count all
        (are.leasts covered) group none below
        ∙ first_fold by_value behind_least ahead_least values (rows_of_group groups group))
        ∙ ap head (firsts_answered groups (group ∷ []) few feed values None refl refl first by_value by_value_total least)
    said Max group none covered below =
        ap (λ m. Some m)
        (field_at (λ s. value_in s.greatest) Null (first_in by_value_descending) (fed values None) groups (length groups) count
        all (are.greatests covered) group none below
        ∙ first_fold by_value_descending behind_greatest ahead_greatest values (rows_of_group groups group))
        ∙ ap head (firsts_answered groups (group ∷ []) few feed values None refl refl first by_value_descending by_value_descending_total
        greatest)

-- what is said of some groups
said_of : (values : List Meaning) (groups : List ℕ) (count : ℕ) (s : Summaries) (function : AggregateFunction) (none : Summary)
    → AreSummaries values groups count s → covers s function ≡ true → (order : List ℕ) → AllByRecursion (λ g. g < count) order
    → map (λ g. answer_at function s.groups.items g none) order
    ≡ map (λ g. aggregate_of function (record { values = values; filter = None }) (rows_of_group groups g)) order
said_of values groups count s function none are covered [] below = refl
said_of values groups count s function none are covered (g ∷ order) below =
    ap (λ x. x ∷ map (λ g. answer_at function s.groups.items g none) order) (are.each function g none covered below.0)
    ∙ ap (λ l. aggregate_of function (record { values = values; filter = None }) (rows_of_group groups g) ∷ l)
    (said_of values groups count s function none are covered order below.1)

pub all_said : (values : List Meaning) (groups : List ℕ) (count : ℕ) (s : Summaries) (function : AggregateFunction) (none : Summary)
    (order : List ℕ) → AreSummaries values groups count s → covers s function ≡ true → All (λ g. g < length s.groups.items) order
    → map (λ g. answer_at function s.groups.items g none) order
    ≡ map (λ g. aggregate_of function (record { values = values; filter = None }) (rows_of_group groups g)) order
all_said values groups count s function none order are covered below =
    said_of values groups count s function none are covered order
    (subst (λ n. AllByRecursion (λ g. g < n) order) are.long (recursion_from_All (λ g. g < length s.groups.items) order below))

-- a summary of no row, where one is wanted for a group that is not there
pub nothing : Summary
nothing = record { rows = 0; values = 0; sum = None; least = firsts.Null; greatest = firsts.Null }

-- one answer more
pub answers_more : (answer_of : ℕ → Option Meaning) (order : List ℕ) (i : ℕ) (so_far next : List Value) (answer : Value) → i < length order
    → map meaning so_far ≡ map (λ g. unwrap_or (answer_of g) Null) (take i order) → next ≡ so_far ++ answer ∷ []
    → answer_or_out_of_range (answer_of (get_or order i 0)) ≡ Ok (meaning answer)
    → map meaning next ≡ map (λ g. unwrap_or (answer_of g) Null) (take (i + 1) order)
answers_more answer_of order i so_far next answer within was e is =
    let value : ℕ → Meaning = λ g. unwrap_or (answer_of g) Null in
    ap (map meaning) e ∙ map-append meaning so_far (answer ∷ []) ∙ ap (λ l. l ++ meaning answer ∷ []) was
    ∙ ap (λ m. map value (take i order) ++ m ∷ []) (value_answered (answer_of (get_or order i 0)) (meaning answer) is)
    ∙ sym (ap (map value) (take_more order i 0 within) ∙ map-append value (take i order) (get_or order i 0 ∷ []))

-- summaries of no row
pub summed_copies : (values : List Meaning) (e : Extremes) (groups : List ℕ) (count : ℕ) (all : List Summary) (s : Summary)
    → IsEmpty s → all ≡ replicate count s → AreSummed values e groups 0 count all
summed_copies values e groups count all s empty is =
    subst (AreSummed values e groups 0 count) (sym is)
    (summed_none values e groups count (replicate count s) (length-replicate count s) (All-replicate IsEmpty count s empty))

pub summed_long : (values : List Meaning) (e : Extremes) (groups : List ℕ) (done count : ℕ) (all : List Summary)
    → AreSummed values e groups done count all → length all ≡ count
summed_long values e groups done count all are =
    field_long (λ s. s.rows) 0 counts_joined (count_at None None) groups done count all are.rows
