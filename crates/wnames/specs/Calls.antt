-- The rules on what a call is given: Q13, Q18 and Q25. (SQL, `<window function>` and `<filter clause>`; PostgreSQL, Window
-- Functions.)
use Rattle.std.specs.Prelude.{ℕ, zero, suc, Bool, true, false, ◌&&◌, not, nat_le, List, Option, Some, None}
use Rattle.wquery.specs.Tree.{Tree, NullWord, Numeral, Quoted, Invoked, Signed, Trees, NoTrees}
use Rattle.wquery.specs.Tree.{MoreTrees, Given, Everything, These, Columns, FilteredBy}
use Rattle.wquery.specs.QueryTree.{Clauses}
use Rattle.wscope.specs.declared.function.Function.{Function}
use Rattle.wscope.specs.declared.function.Function.TheVariants as functions
use Rattle.wscope.specs.Functions.{function_of, is_aggregate, takes}
use Rattle.wscope.specs.Types.{Titled}
use Rattle.wscope.specs.Scope.{some_anywhere}
use Rattle.wnodes.specs.Nodes.{count_trees}
use Rattle.wscope.specs.Finding.{finds}

abbrev pub is_count : Function → Bool
is_count functions.Count = true
is_count _ = false

abbrev pub is_number : Tree → Bool
is_number (Numeral n) = true
is_number _ = false

-- a number with at most one minus, a text, NULL
abbrev pub is_literal : Tree → Bool
is_literal (Numeral n) = true
is_literal (Signed true (Numeral n)) = true
is_literal (Quoted text) = true
is_literal NullWord = true
is_literal _ = false

-- the argument at a place passes, if there is one
abbrev pub passes_at : ℕ → (Tree → Bool) → Trees → Bool
passes_at n holds NoTrees = true
passes_at zero holds (MoreTrees t ts) = holds t
passes_at (suc n) holds (MoreTrees t ts) = passes_at n holds ts

-- the arguments that have to be literals are: that of ntile, the second of nth_value, lag and lead, the third of lag and
-- lead
abbrev pub are_literal : Function → Trees → Bool
are_literal functions.Ntile ts = passes_at 0 is_number ts
are_literal functions.NthValue ts = passes_at 1 is_number ts
are_literal functions.Lag ts = passes_at 1 is_number ts && passes_at 2 is_literal ts
are_literal functions.Lead ts = passes_at 1 is_number ts && passes_at 2 is_literal ts
are_literal _ ts = true

-- the most columns of GROUPING
abbrev pub most_grouping_columns : ℕ
most_grouping_columns = 31

-- a call of a function that is there, with as many arguments as it takes and literals where it takes them; `*` in count
-- alone; GROUPING of not too many columns
abbrev pub is_well_given : Option Function → Given → Bool
is_well_given f (Columns ts) = nat_le (count_trees ts) most_grouping_columns
is_well_given None given = false
is_well_given (Some f) Everything = is_count f
is_well_given (Some f) (These ts) = takes f (count_trees ts) && are_literal f ts

abbrev pub is_bad_call : Tree → Bool
is_bad_call (Invoked name given filter reach) = not (is_well_given (function_of name) given)
is_bad_call _ = false

-- Q13: an unknown function, or a call that is not given what its function takes
abbrev pub breaks_calls : List Titled → Clauses → Bool
breaks_calls cs c = some_anywhere cs c (finds is_bad_call)

abbrev pub is_aggregate_of : Option Function → Bool
is_aggregate_of None = false
is_aggregate_of (Some f) = is_aggregate f

abbrev pub is_aggregate_name : List ℕ → Bool
is_aggregate_name name = is_aggregate_of (function_of name)

-- an aggregate, or GROUPING, which is none by its name alone
abbrev pub is_group_function : List ℕ → Given → Bool
is_group_function name (Columns ts) = true
is_group_function name given = is_aggregate_name name

abbrev pub is_bad_filter : Tree → Bool
is_bad_filter (Invoked name given (FilteredBy t) reach) = not (is_aggregate_name name)
is_bad_filter _ = false

-- Q18: FILTER on a function that is no aggregate
abbrev pub breaks_filters : List Titled → Clauses → Bool
breaks_filters cs c = some_anywhere cs c (finds is_bad_filter)

abbrev pub is_nonzero : Tree → Bool
is_nonzero (Numeral zero) = false
is_nonzero _ = true

-- the number of ntile and the second argument of nth_value are not 0
abbrev pub counts_some : Option Function → Given → Bool
counts_some (Some functions.Ntile) (These ts) = passes_at 0 is_nonzero ts
counts_some (Some functions.NthValue) (These ts) = passes_at 1 is_nonzero ts
counts_some f given = true

abbrev pub is_zeroth : Tree → Bool
is_zeroth (Invoked name given filter reach) = not (counts_some (function_of name) given)
is_zeroth _ = false

-- Q25: ntile(0), or nth_value(v, 0)
abbrev pub breaks_zeroths : List Titled → Clauses → Bool
breaks_zeroths cs c = some_anywhere cs c (finds is_zeroth)
