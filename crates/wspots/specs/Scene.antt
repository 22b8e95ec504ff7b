-- A SELECT in its text, and the names in it.
use Rattle.std.specs.Prelude.{ℕ, suc, [], ◌∷◌, ◌||◌, is_some, nat_eq, ◌+◌, ◌-◌, ◌^◌, ◌==◌, min, Bool, false, not, ◌&&◌, List, Option}
use Rattle.std.specs.Prelude.{Some, None, option_map, length}
use Rattle.std.specs.Prelude.{count_by, nat_le, slice_get, slice_range, unwrap_or, if◌then◌else◌}
use denote.Enum.Bare.{sameb}
use Rattle.std.specs.List.{list_any}
use Rattle.std.specs.Rc.{rc_str_bytes}
use Rattle.wquery.specs.declared.query.Query.{Query}
use Rattle.wscope.specs.declared.source.SourceColumn.{SourceColumn}
use Rattle.wclauses.specs.Pairs.{is_group_call}
use Rattle.wspots.specs.declared.scene.Written.{Written}
use Rattle.wlexer.specs.declared.token.Symbol.TheVariants.{Dot}
use Rattle.wlexer.specs.declared.token.Token.{Token}
use Rattle.wlexer.specs.Token.{meaning_of}
use Rattle.wquery.specs.QueryTree.{SourceTree, FromTable, FromQuery}
use Rattle.wgrammar.specs.contracts.grammar.Role.{the_type as roles}
use Rattle.wgrammar.specs.declared.following.Mark.{Mark}
use Rattle.wgrammar.specs.declared.grammar.Role.{Role}
use Rattle.wgrammar.specs.declared.grammar.Role.TheVariants.{Identifier, KeyBegin, KeyEnd}
use Rattle.wclauses.specs.declared.clauses.Standing.{Standing}
use Rattle.wclauses.specs.declared.pairs.Pair.{Pair}
use Rattle.wclauses.specs.Tokens.{next, is_called, is_symbol, name_at, says_parenthesis}
use Rattle.wspots.specs.declared.scene.Named.{Named}
use Rattle.wspots.specs.declared.scene.Scene.{Scene}

-- the name of a column, wherever it lies in memory
pub record ColumnName : Type 0 where
  pub qualifier : Option (List ℕ)
  pub name : List ℕ
  pub token : ℕ

abbrev pub spelled : Named → ColumnName
spelled named = record { qualifier = option_map (λ q. q.now) named.qualifier; name = named.name.now; token = named.token }

-- the number two behind one
abbrev pub past_next : ℕ → ℕ
past_next number = min (number + 2) (2 ^ 64 - 1)

-- the column that is named at a token, if it is none of a function: a name, or one behind another name and a dot
abbrev pub behind_dot : Option (List ℕ) → ℕ → Option (List ℕ) → Option ColumnName
behind_dot qualifier token None = None
behind_dot qualifier token (Some name) = Some (record { qualifier = qualifier; name = name; token = token })

abbrev pub column_named : List Token → ℕ → Option (List ℕ) → Option ColumnName
column_named tokens number None = None
column_named tokens number (Some first) =
    if is_symbol tokens (next number) Dot then behind_dot (Some first) (past_next number) (name_at tokens (past_next number))
    else Some (record { qualifier = None; name = first; token = number })

abbrev pub column_at : List Token → ℕ → Option ColumnName
column_at tokens number = if is_called tokens number then None else column_named tokens number (name_at tokens number)

-- ---- what a SELECT has

abbrev pub tokens_of : Scene → List Token
tokens_of scene = scene.written.tokens.now

abbrev pub marks_of : Scene → List Mark
marks_of scene = scene.written.marks.now

abbrev pub pairs_of : Scene → List Pair
pairs_of scene = scene.written.clauses.now.pairs.pairs.items

abbrev pub standing_at : Scene → ℕ → Option Standing
standing_at scene token = slice_get scene.written.clauses.now.standings.items token

-- the name of its source
abbrev pub source_name : SourceTree → List ℕ
source_name (FromTable name alias) = unwrap_or alias name
source_name (FromQuery query alias) = alias

-- a mark, if it is of this SELECT
abbrev pub of_level : ℕ → Option Mark → Option Mark
of_level level None = None
of_level level (Some mark) = if mark.level == level then Some mark else None

abbrev pub mark_at : Scene → ℕ → Option Mark
mark_at scene number = of_level scene.level (slice_get (marks_of scene) number)

-- a mark, if it is one of this role
abbrev pub of_role : Role → Option Mark → Option Mark
of_role role None = None
of_role role (Some mark) = if sameb roles mark.role role then Some mark else None

abbrev pub mark_of : Scene → ℕ → Role → Option Mark
mark_of scene number role = of_role role (mark_at scene number)

-- the column at a mark
abbrev pub column_of : List Token → Option Mark → Option ColumnName
column_of tokens None = None
column_of tokens (Some mark) = column_at tokens mark.token

abbrev pub column : Scene → ℕ → Option ColumnName
column scene number = column_of (tokens_of scene) (mark_of scene number Identifier)

-- the token of the function at a mark
abbrev pub function_of : List Token → Option Mark → Option ℕ
function_of tokens None = None
function_of tokens (Some mark) = if is_called tokens mark.token then Some mark.token else None

abbrev pub function : Scene → ℕ → Option ℕ
function scene number = function_of (tokens_of scene) (mark_of scene number Identifier)

-- from one mark up to another a single token stands, parentheses aside
abbrev pub is_single : Token → Bool
is_single token = not (says_parenthesis (meaning_of token))

abbrev pub holds_one : List Token → ℕ → ℕ → Bool
holds_one tokens from to =
    nat_le from to && (nat_le to (length tokens) && (count_by is_single (slice_range tokens from to) == 1))

abbrev pub are_ends : List Token → Option Mark → Option Mark → Bool
are_ends tokens (Some begin) (Some end) = holds_one tokens begin.token end.token
are_ends tokens _ _ = false

-- the mark is a key of ORDER BY by itself
abbrev pub is_key : Scene → ℕ → Bool
is_key scene number = are_ends (tokens_of scene) (mark_of scene (number - 1) KeyBegin) (mark_of scene (next number) KeyEnd)

-- a token is of this SELECT
abbrev pub stands_at : ℕ → Option Standing → Bool
stands_at level None = false
stands_at level (Some standing) = standing.level == level

abbrev pub has_token : Scene → ℕ → Bool
has_token scene token = stands_at scene.level (standing_at scene token)

-- ---- whether a SELECT is grouped

-- an aggregate without OVER stands at a mark of this level
abbrev pub is_group_mark : Written → ℕ → Mark → Bool
is_group_mark written level mark = mark.level == level && (sameb roles mark.role Identifier
    && (is_called written.tokens.now mark.token && is_group_call written.clauses.now.pairs.pairs.items written.tokens.now mark.token))

abbrev pub has_group_call : Written → ℕ → Bool
has_group_call written level = list_any (is_group_mark written level) written.marks.now

-- GROUP BY, HAVING or an aggregate without OVER makes it so
abbrev pub is_grouped : Written → Query → ℕ → Bool
is_grouped written query level =
    (not (nat_eq (length query.grouping.items) 0) || is_some query.having) || has_group_call written level

-- the place of the first column that is none of some names, where these columns stand from a place on
abbrev pub first_ungrouped : (List ℕ → Bool) → ℕ → List SourceColumn → Option ℕ
first_ungrouped groups place [] = None
first_ungrouped groups place (column ∷ columns) =
    if groups (rc_str_bytes column.name) then first_ungrouped groups (suc place) columns else Some place
