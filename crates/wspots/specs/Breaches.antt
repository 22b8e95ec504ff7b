-- What breaks a rule at a name or at another token of a SELECT.
use Rattle.std.specs.Prelude.{ℕ, ◌<◌, Bool, true, false, not, ◌&&◌, ◌||◌, List, length, Option, Some, None, nat_lt, IfSome}
use Rattle.std.specs.Prelude.{if◌then◌else◌}
use Rattle.wlexer.specs.declared.token.Token.{Token}
use Rattle.wscope.specs.declared.function.Function.{Function}
use Rattle.wscope.specs.declared.function.Function.TheVariants.{Count}
use Rattle.wscope.specs.Functions.{is_aggregate, takes}
use Rattle.wclauses.specs.declared.clauses.Clause.{Clause}
use Rattle.wclauses.specs.declared.clauses.Clause.TheVariants as clauses
use Rattle.wclauses.specs.declared.clauses.Standing.{Standing}
use Rattle.wclauses.specs.declared.pairs.Arguments.{Arguments}
use Rattle.wclauses.specs.declared.pairs.Arguments.TheVariants.{Star, Listed}
use Rattle.wclauses.specs.Pairs.{arguments, has_filter, has_over, is_group_call}
use Rattle.wclauses.specs.Tokens.{function_at, is_grouping}
use Rattle.wspots.specs.declared.names.Spot.{Spot}
use Rattle.wspots.specs.declared.notes.Breach.{Breach}
use Rattle.wspots.specs.declared.notes.Told.{Told}
use Rattle.wspots.specs.declared.notes.Told.TheVariants as told
use Rattle.wspots.specs.declared.scene.Scene.{Scene}
use Rattle.wspots.specs.Scene.{function, has_token, pairs_of, standing_at, tokens_of}

-- what is found is a token of the query
abbrev pub IsAmong : List Token → Option Breach → Type 0
IsAmong tokens found = IfSome found (λ breach. breach.token < length tokens)

abbrev pub breach : ℕ → Told → Option Breach
breach token told = Some (record { token = token; told = told })

abbrev pub breach_unless : Bool → ℕ → Told → Option Breach
breach_unless is_right token told = if is_right then None else breach token told

-- ---- calls

-- there is no such function, or it does not take so many arguments
abbrev pub wrong_arguments : ℕ → Function → Arguments → Option Breach
wrong_arguments token Count Star = None
wrong_arguments token function Star = breach token told.Star
wrong_arguments token function (Listed count) = breach_unless (takes function count) token (told.Takes token function)

abbrev pub wrong_function : ℕ → Arguments → Option Function → Option Breach
wrong_function token given None = breach token told.Functions
wrong_function token given (Some function) = wrong_arguments token function given

abbrev pub wrong_at : Scene → Option ℕ → Option Breach
wrong_at scene None = None
wrong_at scene (Some token) =
    wrong_function token (arguments (pairs_of scene) (tokens_of scene) token) (function_at (tokens_of scene) token)

abbrev pub wrong_call : Scene → ℕ → Option Breach
wrong_call scene number = wrong_at scene (function scene number)

-- GROUPING of columns in this SELECT
abbrev pub is_own_grouping : Scene → ℕ → Bool
is_own_grouping scene token = is_grouping (tokens_of scene) token && has_token scene token

-- of more than 31
abbrev pub is_long : Arguments → Bool
is_long Star = false
is_long (Listed count) = nat_lt 31 count

abbrev pub long_grouping : Scene → ℕ → Option Breach
long_grouping scene token =
    if is_own_grouping scene token
    then breach_unless (not (is_long (arguments (pairs_of scene) (tokens_of scene) token))) token told.LongGrouping
    else None

-- no call with OVER may stand in WHERE, HAVING or WINDOW, nor in a call
abbrev pub bars_in : Clause → Bool → Bool
bars_in clauses.Condition is_in_call = true
bars_in clauses.Having is_in_call = true
bars_in clauses.Windows is_in_call = true
bars_in _ is_in_call = is_in_call

abbrev pub bars_windows : Option Standing → Bool
bars_windows None = false
bars_windows (Some standing) = bars_in standing.clause standing.is_in_call

-- a call with OVER stands where one may, and a call without is one of an aggregate
abbrev pub may_stand : Bool → Bool → Bool → Bool
may_stand over bars is_aggregate = if over then not bars else is_aggregate

abbrev pub misplaced_named : Scene → ℕ → Option Function → Option Breach
misplaced_named scene token None = None
misplaced_named scene token (Some function) = breach_unless
    (may_stand (has_over (pairs_of scene) (tokens_of scene) token) (bars_windows (standing_at scene token)) (is_aggregate function))
    token told.Nothing

abbrev pub misplaced_function_at : Scene → Option ℕ → Option Breach
misplaced_function_at scene None = None
misplaced_function_at scene (Some token) = misplaced_named scene token (function_at (tokens_of scene) token)

abbrev pub misplaced_function : Scene → ℕ → Option Breach
misplaced_function scene number = misplaced_function_at scene (function scene number)

-- in WHERE, or in an aggregate without OVER
abbrev pub misplaced_in : Clause → Bool → ℕ → Option Breach
misplaced_in clauses.Condition is_in_aggregate token = breach token told.Condition
misplaced_in _ is_in_aggregate token = if is_in_aggregate then breach token told.Nothing else None

abbrev pub misplaced_standing : Option Standing → ℕ → Option Breach
misplaced_standing None token = None
misplaced_standing (Some standing) token = misplaced_in standing.clause standing.is_in_aggregate token

-- an aggregate without OVER, or GROUPING, stands there
abbrev pub misplaced_aggregate_at : Scene → Option ℕ → Option Breach
misplaced_aggregate_at scene None = None
misplaced_aggregate_at scene (Some token) =
    if is_group_call (pairs_of scene) (tokens_of scene) token then misplaced_standing (standing_at scene token) token else None

abbrev pub misplaced_aggregate : Scene → ℕ → Option Breach
misplaced_aggregate scene number = misplaced_aggregate_at scene (function scene number)

abbrev pub misplaced_grouping : Scene → ℕ → Option Breach
misplaced_grouping scene token =
    if is_own_grouping scene token then misplaced_standing (standing_at scene token) token else None

-- a function that is no aggregate has FILTER
abbrev pub filtered : ℕ → Bool → Option Function → Option Breach
filtered token filter None = None
filtered token filter (Some function) = breach_unless (is_aggregate function || not filter) token told.Nothing

abbrev pub wrong_filter_at : Scene → Option ℕ → Option Breach
wrong_filter_at scene None = None
wrong_filter_at scene (Some token) =
    filtered token (has_filter (pairs_of scene) (tokens_of scene) token) (function_at (tokens_of scene) token)

abbrev pub wrong_filter : Scene → ℕ → Option Breach
wrong_filter scene number = wrong_filter_at scene (function scene number)

-- ---- columns

-- only columns of GROUP BY may stand in GROUPING, and in a grouped SELECT where they are in no aggregate and not in WHERE
abbrev pub is_condition : Clause → Bool
is_condition clauses.Condition = true
is_condition _ = false

abbrev pub wants_grouped_at : Bool → Option Standing → Bool
wants_grouped_at is_grouped None = false
wants_grouped_at is_grouped (Some standing) = standing.is_in_grouping
    || (is_grouped && (not standing.is_in_aggregate && not (is_condition standing.clause)))

abbrev pub wants_grouped : Scene → ℕ → Bool
wants_grouped scene token = wants_grouped_at scene.is_grouped (standing_at scene token)

-- ---- the first of them

-- the one of two that stands before the other, the first where both stand at one token
abbrev pub earlier_of : Option Breach → Option Breach → Option Breach
earlier_of None other = other
earlier_of (Some one) None = Some one
earlier_of (Some one) (Some other) = if nat_lt other.token one.token then Some other else Some one

-- what is pointed at is a token of the query
abbrev pub IsSpot : List Token → Option Spot → Type 0
IsSpot tokens found = IfSome found (λ spot. spot.token < length tokens)
