-- Queries that are resolved, by computation.
use Rattle.std.proofs.Common.{◌≡◌, ℕ, true, false, List, [], ◌∷◌, Some, None, refl, codes, pos}
use Rattle.wquery.specs.declared.frame.Frame.{Frame}
use Rattle.wquery.specs.declared.frame.FrameMode.TheVariants as modes
use Rattle.wquery.specs.declared.frame.FrameBound.TheVariants as bounds
use Rattle.wquery.specs.declared.frame.FrameExclusion.TheVariants as exclusions
use Rattle.wquery.specs.declared.expression.NullOrder.TheVariants as nulls
use Rattle.wquery.specs.declared.expression.Comparison.TheVariants.{Greater}
use Rattle.wquery.specs.GroupElements.{OneSet, Rollup}
use Rattle.wquery.specs.Tree.{Tree, Numeral, Invoked, Compared, Columns, trees, Unfiltered}
use Rattle.wquery.specs.Tree.{ItsGroup, ThatWindow, OwnWindow, NoKeys, MoreKeys, NoTrees}
use Rattle.wquery.specs.QueryTree.{Clauses, Computed, AllColumns, QueryTree, Selected, FromQuery, EntryTree}
use Rattle.wvalues.specs.Meaning.{Null, Int}
use Rattle.wplan.specs.declared.resolved.AggregateFunction.TheVariants as aggregates
use Rattle.wplan.specs.Formula as row
use Rattle.wplan.specs.Plans.{KeyPlan, OutputPlan, WindowPlan, Rank, Lag, Aggregated, GroupAggregate, GroupingOf}
use Rattle.wrules.proofs.Worked.{declared, column, day, shop, amount, call as over, clauses, item, from_sales}
use Rattle.wresolve.specs.Selecting.{resolved_query, sort_key}

abbrev call : List ℕ → List Tree → Tree
call name arguments = over name arguments ItsGroup

abbrev derived : Clauses → QueryTree → QueryTree
derived c q = Selected c (FromQuery q (codes "q"))

abbrev sum_of_amounts : Tree
sum_of_amounts = call (codes "sum") (amount ∷ [])

abbrev key : row.Formula → KeyPlan
key value = record { value = value; order = sort_key true None }

abbrev output : List ℕ → row.Formula → OutputPlan
output name value = record { name = name; value = value }

abbrev whole_partition : List row.Formula → List KeyPlan → WindowPlan
whole_partition partition keys = record {
  partition = partition;
  keys = keys;
  frame = record {
    mode = modes.Range;
    start =
        bounds.UnboundedPreceding;
    end = bounds.CurrentRow;
    exclusion = exclusions.NoOthers;
  };
}

-- SELECT sum(amount) OVER w FROM sales WINDOW w AS (ORDER BY day DESC ROWS 2 PRECEDING), v AS (PARTITION BY shop); the
-- second window is kept though nobody uses it
abbrev two_rows : Frame
two_rows = record { mode = modes.Rows; start = bounds.Preceding 2; end = None; exclusion = None }

abbrev entries : List EntryTree
entries = record {
  name = codes "w";
  window = record {
    copied = None;
    partition = [];
    order =
        record { expression = day; descending = true; nulls = None } ∷ [];
    frame = Some two_rows;
  };
}
    ∷ record { name = codes "v"; window = record { copied = None; partition = shop ∷ []; order = []; frame = None } } ∷ []

named_window : resolved_query declared (from_sales
    (record (clauses (item (over (codes "sum") (amount ∷ []) (ThatWindow (codes "w"))) ∷ [])) { windows = entries })) ≡ record {
      condition = None;
      grouping = None;
      windows = record {
        partition = [];
        keys = key (row.At 0) ∷ [];
        frame = record {
          mode = modes.Rows;
          start =
              bounds.Preceding 2;
          end = bounds.CurrentRow;
          exclusion = exclusions.NoOthers;
        };
      } ∷ whole_partition (row.At 1 ∷ []) [] ∷ [];
      calls = record { window = 0; function = Aggregated (record { function = aggregates.Sum; argument = row.At 2; filter = None }) } ∷ [];
      items = output (codes "sum") (row.At 3) ∷ [];
      keys = [];
      offset = 0;
      limit = None;
    } ∷ []
named_window = refl

-- SELECT shop, sum(amount), rank() OVER (ORDER BY sum(amount) DESC) FROM sales GROUP BY shop HAVING sum(amount) > 5
ranked_sums : resolved_query declared (from_sales
    (record (clauses (item shop ∷ item sum_of_amounts ∷ item
    (over (codes "rank") [] (OwnWindow None NoTrees (MoreKeys sum_of_amounts true None NoKeys) None))
    ∷ [])) { grouping = (OneSet (shop ∷ []) ∷ []) ∷ []; having = Some (Compared Greater sum_of_amounts (Numeral 5)) })) ≡ record {
      condition = None;
      grouping = Some (record {
        columns = 1 ∷ [];
        sets = (1 ∷ []) ∷ [];
        calls =
            GroupAggregate (record { function = aggregates.Sum; argument = row.At 2; filter = None }) ∷ [];
        having =
            Some (row.Compared Greater (row.At 1) (row.Constant (Int (pos 5))));
      });
      windows = whole_partition [] (key (row.At 1) ∷ []) ∷ [];
      calls = record { window = 0; function = Rank } ∷ [];
      items = output (codes "shop") (row.At 0) ∷ output (codes "sum") (row.At 1) ∷ output (codes "rank") (row.At 2) ∷ [];
      keys = [];
      offset = 0;
      limit = None;
    } ∷ []
ranked_sums = refl

-- SELECT shop, grouping(day, shop) FROM sales GROUP BY ROLLUP (shop, day), shop HAVING grouping(day, shop) > 1; a column that
-- stands there twice has one cell, GROUPING has one behind the columns
abbrev grouping_of_both : Tree
grouping_of_both = Invoked (codes "grouping") (Columns (trees (day ∷ shop ∷ []))) Unfiltered ItsGroup

rolled_up : resolved_query declared (from_sales (record (clauses (item shop ∷ item grouping_of_both ∷ [])) {
  grouping =
      (Rollup ((shop ∷ []) ∷ (day ∷ []) ∷ []) ∷ []) ∷ (OneSet (shop ∷ []) ∷ []) ∷ [];
  having =
      Some (Compared Greater grouping_of_both (Numeral 1));
})) ≡ record {
  condition = None;
  grouping = Some (record {
    columns = 1 ∷ 0 ∷ [];
    sets = (1 ∷ 0 ∷ 1 ∷ []) ∷ (1 ∷ 1 ∷ []) ∷ (1 ∷ []) ∷ [];
    calls =
        GroupingOf (0 ∷ 1 ∷ []) ∷ [];
    having = Some (row.Compared Greater (row.At 2) (row.Constant (Int (pos 1))));
  });
  windows = [];
  calls = [];
  items = output (codes "shop") (row.At 0) ∷ output (codes "grouping") (row.At 2) ∷ [];
  keys = [];
  offset = 0;
  limit = None;
} ∷ []
rolled_up = refl

-- SELECT sum(amount) FROM sales; without GROUP BY there is one set, the empty one, and no column
summed : resolved_query declared (from_sales (clauses (item sum_of_amounts ∷ []))) ≡ record {
  condition = None;
  grouping = Some (record {
    columns = [];
    sets = [] ∷ [];
    calls =
        GroupAggregate (record { function = aggregates.Sum; argument = row.At 2; filter = None }) ∷ [];
    having = None;
  });
  windows = [];
  calls = [];
  items = output (codes "sum") (row.At 0) ∷ [];
  keys = [];
  offset = 0;
  limit = None;
} ∷ []
summed = refl

-- SELECT *, day AS d FROM sales ORDER BY shop DESC, 4 DESC, d DESC LIMIT 2 OFFSET 1
by_place : resolved_query declared (from_sales
    (record (clauses (AllColumns ∷ Computed day (Some (codes "d")) ∷ [])) {
      order = record {
        expression = shop;
        descending =
            true;
        nulls = None;
      } ∷ record { expression = Numeral 4; descending = true; nulls = None } ∷ record {
        expression =
            column (codes "d");
        descending = true;
        nulls = Some nulls.Last;
      } ∷ [];
      limit = Some 2;
      offset = Some 1;
    })) ≡ record {
      condition = None;
      grouping = None;
      windows = [];
      calls = [];
      items = output (codes "day") (row.At 0) ∷ output (codes "shop") (row.At 1) ∷ output (codes "amount") (row.At 2) ∷ output
          (codes "d") (row.At 0) ∷ [];
      keys = key (row.At 1) ∷ key (row.At 0) ∷ record {
        value = row.At 0;
        order =
            record { col = 0; desc = true; nulls_first = false };
      } ∷ [];
      offset = 1;
      limit = Some 2;
    } ∷ []
by_place = refl

-- SELECT lag(day) OVER () FROM (SELECT day FROM sales ORDER BY day DESC LIMIT 2) AS q
lagged : resolved_query declared (derived
    (clauses (item (over (codes "lag") (day ∷ []) (OwnWindow None NoTrees NoKeys None)) ∷ []))
    (from_sales (record (clauses (item day ∷ [])) {
      order = record {
        expression = day;
        descending = true;
        nulls =
            None;
      } ∷ [];
      limit = Some 2;
    })))
    ≡ record {
      condition = None;
      grouping = None;
      windows = [];
      calls = [];
      items = output (codes "day") (row.At 0) ∷ [];
      keys = key (row.At 0) ∷ [];
      offset = 0;
      limit = Some 2;
    }
    ∷ record {
      condition = None;
      grouping = None;
      windows = whole_partition [] [] ∷ [];
      calls = record { window = 0; function = Lag (row.At 0) 1 Null } ∷ [];
      items = output (codes "lag") (row.At 1) ∷ [];
      keys = [];
      offset = 0;
      limit = None;
    }
    ∷ []
lagged = refl
