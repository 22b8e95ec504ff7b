-- Queries on a small table: day, shop and amount, in four rows.
use Rattle.std.specs.Fmt.{digits}
use Rattle.std.proofs.Common.{◌≡◌, ℕ, pos, true, false, List, [], ◌∷◌, map, Some, None, Result, Ok, Err, codes, refl}
use Rattle.wvalues.specs.Meaning.{Meaning, Null, Int, Text}
use Rattle.wquery.specs.declared.expression.Operator.TheVariants.{Plus, Or}
use Rattle.wquery.specs.declared.expression.Comparison.TheVariants.{Greater, GreaterOrEqual}
use Rattle.wquery.specs.declared.frame.FrameMode.TheVariants.{Rows, Groups, Range}
use Rattle.wquery.specs.declared.frame.FrameBound.TheVariants.{UnboundedPreceding, Preceding, CurrentRow}
use Rattle.wquery.specs.declared.frame.FrameExclusion.TheVariants.{NoOthers, Ties}
use Rattle.wplan.specs.declared.resolved.ResolvedFrame.{ResolvedFrame}
use Rattle.wplan.specs.declared.resolved.AggregateFunction.TheVariants.{CountRows, Sum, Max}
use Rattle.wplan.specs.Formula.{Formula, Constant, At, Applied, Compared, Among, NoFormulas, MoreFormulas}
use Rattle.wplan.specs.Plans.{AggregatePlan, GroupCallPlan, GroupAggregate, GroupingOf, KeyPlan, WindowPlan, FunctionPlan}
use Rattle.wplan.specs.Plans.{OutputPlan, SelectPlan, RowNumber, Rank, Tile, Lag, Lead, NthValue, Aggregated}
use Rattle.wrows.specs.declared.fault.AnswerFault.{AnswerFault}
use Rattle.wrows.specs.declared.fault.AnswerFault.TheVariants.{OutOfRange}
use Rattle.wrows.specs.Outcomes.{◌>>=◌}
use Rattle.wrows.specs.Columns.{Row}
use Rattle.wplanner.specs.Answers.{answer_of, table_answer}
use Rattle.wprinted.specs.Printing.{table_text}

abbrev int : ℕ → Meaning
int n = Int (pos n)

abbrev sales : List Row
sales =
    (int 1 ∷ Text (codes "a") ∷ int 10 ∷ []) ∷ (int 2 ∷ Text (codes "a") ∷ int 20 ∷ [])
    ∷ (int 2 ∷ Text (codes "b") ∷ int 5 ∷ []) ∷ (int 4 ∷ Text (codes "a") ∷ Null ∷ []) ∷ []

abbrev day : Formula
day = At 0

abbrev shop : Formula
shop = At 1

abbrev amount : Formula
amount = At 2

-- the first of the cells behind those of a row of the table
abbrev first_call : Formula
first_call = At 3

abbrev up : Formula → KeyPlan
up t = record { value = t; order = record { col = 0; desc = false; nulls_first = false } }

abbrev down : Formula → KeyPlan
down t = record { value = t; order = record { col = 0; desc = true; nulls_first = true } }

abbrev named : List ℕ → Formula → OutputPlan
named name t = record { name = name; value = t }

-- items on all rows
abbrev plain : List OutputPlan → SelectPlan
plain items = record { condition = None; grouping = None; windows = []; calls = []; items = items; keys = []; offset = 0; limit = None }

abbrev all_before : ResolvedFrame
all_before = record { mode = Range; start = UnboundedPreceding; end = CurrentRow; exclusion = NoOthers }

abbrev by_day : ResolvedFrame → WindowPlan
by_day frame = record { partition = []; keys = up day ∷ []; frame = frame }

-- all rows, as peers
abbrev everything : WindowPlan
everything = record { partition = []; keys = []; frame = all_before }

abbrev total : Formula → AggregatePlan
total t = record { function = Sum; argument = t; filter = None }

abbrev rows_counted : AggregatePlan
rows_counted = record { function = CountRows; argument = Constant Null; filter = None }

-- groups by sets of some columns
abbrev by_sets : List ℕ → List (List ℕ) → List GroupCallPlan → List OutputPlan → SelectPlan
by_sets columns sets calls items = record (plain items) {
  grouping =
      Some (record { columns = columns; sets = sets; calls = calls; having = None });
}

-- groups by some columns
abbrev grouped : List ℕ → List AggregatePlan → List OutputPlan → SelectPlan
grouped columns aggregates items = by_sets columns (columns ∷ []) (map GroupAggregate aggregates) items

-- one call over one window
abbrev over : WindowPlan → FunctionPlan → List OutputPlan → SelectPlan
over w f items = record (plain items) { windows = w ∷ []; calls = record { window = 0; function = f } ∷ [] }

-- the bytes of an answer
abbrev printed : List SelectPlan → List Row → Result (List ℕ) AnswerFault
printed plans rows = table_answer plans rows >>= λ table. Ok (table_text table.names table.rows)

-- no rows are one group
no_rows_counted : printed (grouped [] (rows_counted ∷ []) (named (codes "count") (At 0) ∷ []) ∷ []) [] ≡ Ok (codes "count\n0\n")
unfolding digits
no_rows_counted = refl

no_rows : printed (plain (named (codes "day") day ∷ []) ∷ []) [] ≡ Ok (codes "day\n")
unfolding digits
no_rows = refl

-- a running sum up to the last peer
running_sum : printed (over (by_day all_before) (Aggregated (total amount)) (named (codes "day") day ∷ named (codes "sum")
    first_call ∷ []) ∷ []) sales ≡ Ok (codes "day,sum\n1,10\n2,35\n2,35\n4,35\n")
unfolding digits
running_sum = refl

-- two groups of peers, without the row's own
groups_counted :
    printed (over (by_day (record { mode = Groups; start = Preceding 1; end = CurrentRow; exclusion = Ties }))
    (Aggregated rows_counted) (named (codes "count") first_call ∷ []) ∷ []) sales
    ≡ Ok (codes "count\n1\n2\n2\n3\n")
unfolding digits
groups_counted = refl

-- three rows
three_rows :
    printed (over (by_day (record { mode = Rows; start = Preceding 2; end = CurrentRow; exclusion = NoOthers }))
    (Aggregated (total amount)) (named (codes "sum") first_call ∷ []) ∷ []) sales
    ≡ Ok (codes "sum\n10\n30\n35\n25\n")
unfolding digits
three_rows = refl

-- two windows, of which one orders the other's peers
rows_numbered :
    printed (record (plain (named (codes "row_number") (At 3) ∷ named (codes "row_number") (At 4) ∷ [])) {
      windows = by_day all_before ∷ record { partition = []; keys = up day ∷ down shop ∷ []; frame = all_before } ∷ [];
      calls = record { window = 0; function = RowNumber } ∷ record { window = 1; function = RowNumber } ∷ [];
    } ∷ []) sales
    ≡ Ok (codes "row_number,row_number\n1,1\n2,3\n3,2\n4,4\n")
unfolding digits
rows_numbered = refl

-- a rank over groups
groups_ranked :
    printed (record (grouped (1 ∷ []) (total amount ∷ []) (named (codes "shop") (At 0) ∷ named (codes "sum") (At 1) ∷ named
    (codes "rank") (At 2) ∷ [])) {
      windows = record { partition = []; keys = down (At 1) ∷ []; frame = all_before } ∷ [];
      calls = record { window = 0; function = Rank } ∷ [];
    } ∷ []) sales
    ≡ Ok (codes "shop,sum,rank\na,30,1\nb,5,2\n")
unfolding digits
groups_ranked = refl

-- HAVING leaves no group
no_group_left :
    printed (record (plain (named (codes "count") (At 0) ∷ [])) {
      grouping =
          Some (record {
            columns = [];
            sets = [] ∷ [];
            calls = GroupAggregate rows_counted ∷ [];
            having =
                Some (Compared Greater (At 0) (Constant (int 9)));
          });
    } ∷ []) sales
    ≡ Ok (codes "count\n")
unfolding digits
no_group_left = refl

-- sums of shops, and of all rows
rollup_of_shops :
    printed (by_sets (1 ∷ []) ((1 ∷ []) ∷ [] ∷ []) (GroupAggregate (total amount) ∷ GroupingOf (1 ∷ []) ∷ [])
    (named (codes "shop") (At 0) ∷ named (codes "sum") (At 1) ∷ named (codes "grouping") (At 2) ∷ []) ∷ []) sales
    ≡ Ok (codes "shop,sum,grouping\na,30,0\nb,5,0\n,35,1\n")
unfolding digits
rollup_of_shops = refl

-- each choice of day and shop
cube_of_days :
    printed (by_sets (0 ∷ 1 ∷ []) ((0 ∷ 1 ∷ []) ∷ (0 ∷ []) ∷ (1 ∷ []) ∷ [] ∷ []) (GroupAggregate rows_counted ∷ GroupingOf
    (0 ∷ 1 ∷ []) ∷ [])
    (named (codes "day") (At 0) ∷ named (codes "shop") (At 1) ∷ named (codes "count") (At 2) ∷ named (codes "grouping")
    (At 3) ∷ []) ∷ []) sales
    ≡ Ok (codes "day,shop,count,grouping\n1,a,1,0\n2,a,1,0\n2,b,1,0\n4,a,1,0\n1,,1,1\n2,,2,1\n4,,1,1\n,a,3,2\n,b,1,2\n,,4,3\n")
unfolding digits
cube_of_days = refl

-- a null key is no column that the set lacks
null_and_lacking :
    printed (by_sets (2 ∷ []) ((2 ∷ []) ∷ [] ∷ []) (GroupAggregate rows_counted ∷ GroupingOf (2 ∷ []) ∷ [])
    (named (codes "amount") (At 0) ∷ named (codes "count") (At 1) ∷ named (codes "grouping") (At 2) ∷ []) ∷ []) sales
    ≡ Ok (codes "amount,count,grouping\n5,1,0\n10,1,0\n20,1,0\n,1,0\n,4,1\n")
unfolding digits
null_and_lacking = refl

-- of no rows the empty set has a group, and another set has none
sets_of_no_rows : printed (by_sets (1 ∷ []) ((1 ∷ []) ∷ [] ∷ []) (GroupAggregate rows_counted ∷ [])
    (named (codes "shop") (At 0) ∷ named (codes "count") (At 1) ∷ []) ∷ []) [] ≡ Ok (codes "shop,count\n,0\n")
unfolding digits
sets_of_no_rows = refl

no_group_of_no_rows : printed (grouped (1 ∷ []) (rows_counted ∷ []) (named (codes "shop") (At 0) ∷ named (codes "count")
    (At 1) ∷ []) ∷ []) [] ≡ Ok (codes "shop,count\n")
unfolding digits
no_group_of_no_rows = refl

-- a rank within each set
sets_ranked :
    printed (record (by_sets (1 ∷ []) ((1 ∷ []) ∷ [] ∷ []) (GroupingOf (1 ∷ []) ∷ GroupAggregate (total amount) ∷ [])
    (named (codes "shop") (At 0) ∷ named (codes "rank") (At 3) ∷ [])) {
      windows = record { partition = At 1 ∷ []; keys = down (At 2) ∷ []; frame = all_before } ∷ [];
      calls = record { window = 0; function = Rank } ∷ [];
    } ∷ []) sales
    ≡ Ok (codes "shop,rank\na,1\nb,2\n,1\n")
unfolding digits
sets_ranked = refl

abbrev greatest : Formula
greatest = Constant (int 39614081257132168796771975167)

greatest_printed : printed (record (plain (named (codes "n") greatest ∷ [])) { limit = Some 1 } ∷ []) sales
    ≡ Ok (codes "n\n39614081257132168796771975167\n")
unfolding digits
greatest_printed = refl

-- out of range, though no row is asked for
nothing_skipped : printed (record (plain (named [] (Applied Plus greatest (Constant (int 1))) ∷ [])) {
  limit =
      Some 0;
} ∷ []) sales ≡ Err OutOfRange
nothing_skipped = refl

-- nulls first, then from the greatest amount on
by_amount : printed (record (plain (named (codes "day") day ∷ [])) {
  keys = down amount ∷ [];
  offset = 1;
  limit =
      Some 2;
} ∷ []) sales ≡ Ok (codes "day\n2\n1\n")
unfolding digits
by_amount = refl

quoted_name : printed (record (plain (named (codes "a,b") shop ∷ [])) { limit = Some 1 } ∷ []) sales ≡ Ok (codes "\"a,b\"\na\n")
unfolding digits
quoted_name = refl

-- a derived table: the greatest of the running sums
greatest_sum :
    printed (over (by_day all_before) (Aggregated (total amount)) (named (codes "sum") first_call ∷ []) ∷ grouped []
    (record (total (At 0)) { function = Max } ∷ []) (named (codes "max") (At 0) ∷ []) ∷ []) sales
    ≡ Ok (codes "max\n35\n")
unfolding digits
greatest_sum = refl

-- amount IN (5, NULL) OR day >= 4
kept_by_condition :
    printed (record (plain (named (codes "day") day ∷ named (codes "amount") amount ∷ [])) {
      condition = Some (Applied Or (Among false amount
          (MoreFormulas (Constant (int 5)) (MoreFormulas (Constant Null) NoFormulas))) (Compared GreaterOrEqual day (Constant (int 4))));
    } ∷ []) sales
    ≡ Ok (codes "day,amount\n2,5\n4,\n")
unfolding digits
kept_by_condition = refl

lagging : printed (over (by_day all_before) (Lag shop 2 (Text [])) (named (codes "lag") first_call ∷ []) ∷ []) sales
    ≡ Ok (codes "lag\n\"\"\n\"\"\na\na\n")
unfolding digits
lagging = refl

leading :
    printed (over (record { partition = shop ∷ []; keys = up day ∷ []; frame = all_before }) (Lead day 1 Null)
    (named (codes "lead") first_call ∷ []) ∷ []) sales
    ≡ Ok (codes "lead\n2\n4\n\n\n")
unfolding digits
leading = refl

seconds : printed (over (by_day all_before) (NthValue amount 2) (named (codes "nth_value") first_call ∷ []) ∷ []) sales
    ≡ Ok (codes "nth_value\n\n20\n20\n20\n")
unfolding digits
seconds = refl

tiles : printed (over (by_day all_before) (Tile 7) (named (codes "ntile") first_call ∷ []) ∷ []) sales ≡ Ok (codes "ntile\n1\n2\n3\n4\n")
unfolding digits
tiles = refl

-- groups of nulls, in order of the key
by_amounts : printed (grouped (2 ∷ []) [] (named (codes "amount") (At 0) ∷ []) ∷ []) sales ≡ Ok (codes "amount\n5\n10\n20\n\n")
unfolding digits
by_amounts = refl

-- the sums of the groups, summed
sums_summed :
    printed (record (grouped (1 ∷ []) (total amount ∷ []) (named (codes "sum") (At 2) ∷ [])) {
      windows = everything ∷ [];
      calls = record { window = 0; function = Aggregated (total (At 1)) } ∷ [];
    } ∷ []) sales
    ≡ Ok (codes "sum\n35\n35\n")
unfolding digits
sums_summed = refl

-- rows of an answer are numbered by their places in it
lag_of_answer :
    answer_of (record (plain (named [] day ∷ [])) { keys = down day ∷ []; limit = Some 2 } ∷ over everything
    (Lag (At 0) 1 Null) (named [] (At 1) ∷ []) ∷ []) sales
    ≡ Ok ((Null ∷ []) ∷ (int 4 ∷ []) ∷ [])
lag_of_answer = refl
