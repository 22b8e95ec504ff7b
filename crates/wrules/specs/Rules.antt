-- The least rule that a query breaks. Each rule is judged under the premise that those before it hold.
use Rattle.std.specs.Prelude.{ℕ, suc, nat_lt, Bool, List, [], ◌∷◌, Option, Some, None, if◌then◌else◌}
use Rattle.wsegment.specs.Declaration.{Declaration}
use Rattle.wquery.specs.QueryTree.{Clauses, QueryTree, Selected, SourceTree, FromTable, FromQuery}
use Rattle.wscope.specs.Types.{Titled, Origin}
use Rattle.wscope.specs.Sources.{origin_of}
use Rattle.wscope.specs.Windows.{NamedWindow}
use Rattle.wrules.specs.declared.rule.Rule.{Rule}
use Rattle.wrules.specs.declared.rule.Rule.TheVariants.{UnknownTable, UnknownColumn, AmbiguousName, WrongCall, WrongType}
use Rattle.wrules.specs.declared.rule.Rule.TheVariants.{MisplacedWindowCall, MisplacedAggregate, UngroupedColumn, WrongFilter}
use Rattle.wrules.specs.declared.rule.Rule.TheVariants.{UnknownWindow, RepeatedWindow, WrongCopy, WrongBounds, UnorderedGroups}
use Rattle.wrules.specs.declared.rule.Rule.TheVariants.{WrongRangeKey, ZeroCount, WrongPlace, OverLimit, TooManySets}
use Rattle.wnames.specs.Names.{breaks_tables, breaks_columns, breaks_ambiguity}
use Rattle.wnames.specs.Calls.{breaks_calls, breaks_filters, breaks_zeroths}
use Rattle.wnames.specs.Types.{breaks_types}
use Rattle.wnames.specs.Groups.{breaks_window_places, breaks_aggregate_places, breaks_grouping}
use Rattle.wwindows.specs.Windows.{windows_of, breaks_window_names, breaks_entries, breaks_copies}
use Rattle.wwindows.specs.Windows.{breaks_bounds, breaks_groups, breaks_ranges}
use Rattle.wwindows.specs.Order.{breaks_places}
use Rattle.wwindows.specs.Limits.{breaks_limits}
use Rattle.wgroupby.specs.Rules.{breaks_sets}

-- the number that a refusal prints
abbrev pub number_of : Rule → ℕ
number_of UnknownTable = 10
number_of UnknownColumn = 11
number_of AmbiguousName = 12
number_of WrongCall = 13
number_of WrongType = 14
number_of MisplacedWindowCall = 15
number_of MisplacedAggregate = 16
number_of UngroupedColumn = 17
number_of WrongFilter = 18
number_of UnknownWindow = 19
number_of RepeatedWindow = 20
number_of WrongCopy = 21
number_of WrongBounds = 22
number_of UnorderedGroups = 23
number_of WrongRangeKey = 24
number_of ZeroCount = 25
number_of WrongPlace = 26
number_of OverLimit = 27
number_of TooManySets = 28

-- the first rule that is broken
abbrev pub first_of : List (Rule × Bool) → Option Rule
first_of [] = None
first_of (r ∷ rs) = if r.1 then Some r.0 else first_of rs

-- a rule, or else another
abbrev pub or_else : Option Rule → Option Rule → Option Rule
or_else None other = other
or_else (Some r) other = Some r

-- the rules on names, calls, types and groups, Q10 to Q18
abbrev pub first_of_names : List ℕ → List ℕ → List Titled → Clauses → SourceTree → Option Rule
first_of_names table alias cs c source = first_of (
    (UnknownTable, breaks_tables table alias cs c source) ∷ (UnknownColumn, breaks_columns cs c) ∷ (AmbiguousName, breaks_ambiguity cs c)
    ∷ (WrongCall, breaks_calls cs c) ∷ (WrongType, breaks_types cs c)
    ∷ (MisplacedWindowCall, breaks_window_places cs c) ∷ (MisplacedAggregate, breaks_aggregate_places cs c)
    ∷ (UngroupedColumn, breaks_grouping cs c)
    ∷ (WrongFilter, breaks_filters cs c) ∷ [])

-- the rules on windows, places and limits, Q19 to Q27
abbrev pub first_of_windows : List NamedWindow → List Titled → Clauses → Option Rule
first_of_windows ws cs c = first_of (
    (UnknownWindow, breaks_window_names ws cs c) ∷ (RepeatedWindow, breaks_entries c.windows) ∷ (WrongCopy, breaks_copies ws cs c)
    ∷ (WrongBounds, breaks_bounds ws cs c) ∷ (UnorderedGroups, breaks_groups ws cs c) ∷ (WrongRangeKey, breaks_ranges ws cs c)
    ∷ (ZeroCount, breaks_zeroths cs c) ∷ (WrongPlace, breaks_places cs c) ∷ (OverLimit, breaks_limits cs c) ∷ [])

-- the least rule that a query breaks, its derived table aside, by the declared table's name and the source's alias and
-- columns
abbrev pub least_broken : List ℕ → List ℕ → List Titled → Clauses → SourceTree → Option Rule
least_broken table alias cs c source = or_else (first_of_names table alias cs c source) (first_of_windows (windows_of c) cs c)

abbrev pub judged : List ℕ → Origin → Clauses → SourceTree → Option Rule
judged table o c s = least_broken table o.alias o.columns c s

-- Q28: over 64 sets, counted before any is made
abbrev pub sets_rule : QueryTree → Option Rule
sets_rule (Selected c s) = if breaks_sets c.grouping then Some TooManySets else None

abbrev mutual
  -- the least rule that the query breaks, its depth and the number of its sets aside; a derived table is judged first
  pub least : Declaration → QueryTree → Option Rule
  least d (Selected c s) = or_else (least_source d s) (judged d.table (origin_of d s) c s)

  pub least_source : Declaration → SourceTree → Option Rule
  least_source d (FromTable name alias) = None
  least_source d (FromQuery q alias) = or_else (least d q) (sets_rule q)

abbrev mutual
  -- how many derived tables stand one in another
  pub depth : QueryTree → ℕ
  depth (Selected c s) = source_depth s

  pub source_depth : SourceTree → ℕ
  source_depth (FromTable name alias) = 0
  source_depth (FromQuery q alias) = suc (depth q)

-- over 8 derived tables one in another
abbrev pub depth_rule : QueryTree → Option Rule
depth_rule q = if nat_lt 8 (depth q) then Some OverLimit else None

-- the rule that refuses a whole query, if there is one. Its depth is a limit, so it is judged before the count of its sets
abbrev pub first_broken_rule : Declaration → QueryTree → Option Rule
first_broken_rule d q = or_else (least d q) (or_else (depth_rule q) (sets_rule q))
