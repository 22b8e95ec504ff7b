-- The names of a SELECT that break a rule, other tokens that do, and the first of them.
use Rattle.std.specs.Prelude.{ℕ, zero, suc, Bool, true, false, not, ◌&&◌, ◌||◌, List, [], ◌∷◌, length, Option, Some, None, is_none}
use Rattle.std.specs.Prelude.{nat_eq, nat_le, nat_lt, option_map, slice_range, string_bytes, unwrap_or, if◌then◌else◌}
use Rattle.std.specs.Borrow.{Bor}
use Rattle.std.specs.BTreeSet.{BTreeSet, contains_by}
use Rattle.std.specs.Cmp.Lexicographic.{slice_cmp}
use Rattle.std.specs.List.{list_any}
use Rattle.std.specs.Ordering.{nat_cmp}
use Rattle.std.specs.Str.{bytes_eq}
use Rattle.wquery.specs.QueryTree.{view_source}
use Rattle.wrules.specs.declared.rule.Rule.{Rule}
use Rattle.wrules.specs.declared.rule.Rule.TheVariants as rules
use Rattle.wscope.specs.Scope.{has_name}
use Rattle.wscope.specs.Sources.{all_titled}
use Rattle.wscope.specs.Types.{Titled, place_named}
use Rattle.wgrammar.specs.declared.following.Mark.{Mark}
use Rattle.wgrammar.specs.declared.grammar.Role.{Role}
use Rattle.wgrammar.specs.declared.grammar.Role.TheVariants.{Copy, Entry, Identifier, KeyBegin, KeyEnd, Table, Use}
use Rattle.wclauses.specs.Tokens.{next, is_star, name_at}
use Rattle.wspots.specs.declared.names.Spot.{Spot}
use Rattle.wspots.specs.declared.notes.Breach.{Breach}
use Rattle.wspots.specs.declared.notes.Told.{Told}
use Rattle.wspots.specs.declared.notes.Told.TheVariants as told
use Rattle.wspots.specs.declared.scene.Scene.{Scene}
use Rattle.wspots.specs.Scene.{ColumnName, column, has_token, is_key, mark_at, mark_of, marks_of, source_name, tokens_of}
use Rattle.wspots.specs.Items.{has_item, of_name, two_called}
use Rattle.wspots.specs.Keys.{is_wrong_key}
use Rattle.wspots.specs.Notes.{told_text}
use Rattle.wspots.specs.Breaches.{breach, breach_unless, earlier_of, long_grouping, misplaced_aggregate, misplaced_function}
use Rattle.wspots.specs.Breaches.{misplaced_grouping}
use Rattle.wspots.specs.Breaches.{wants_grouped, wrong_call, wrong_filter}

-- ---- tables and columns

-- a name that is not this one
abbrev pub other_than : List ℕ → ℕ → Told → Option (List ℕ) → Option Breach
other_than right token told None = None
other_than right token told (Some name) = breach_unless (bytes_eq name right) token told

abbrev pub other_table_at : Scene → Option Mark → Option Breach
other_table_at scene None = None
other_table_at scene (Some mark) =
    other_than scene.written.schema.now.table mark.token told.Table (name_at (tokens_of scene) mark.token)

abbrev pub other_table : Scene → ℕ → Option Breach
other_table scene number = other_table_at scene (mark_of scene number Table)

abbrev pub other_qualifier : Scene → ℕ → Option ColumnName → Option Breach
other_qualifier scene token None = None
other_qualifier scene token (Some named) =
    other_than (source_name (view_source scene.query.now.source)) token told.Source named.qualifier

abbrev pub other_source_at : Scene → ℕ → Option Mark → Option Breach
other_source_at scene number None = None
other_source_at scene number (Some mark) = other_qualifier scene mark.token (column scene number)

abbrev pub other_source : Scene → ℕ → Option Breach
other_source scene number = other_source_at scene number (mark_of scene number Identifier)

-- a column stands for an item of its name
abbrev pub is_output : Scene → ℕ → ColumnName → Bool
is_output scene number named = is_none named.qualifier && (has_item scene.outputs named.name && is_key scene number)

abbrev pub titled_of : Scene → List Titled
titled_of scene = all_titled scene.columns.now

abbrev pub missing_named : Scene → ℕ → Option ColumnName → Option Breach
missing_named scene number None = None
missing_named scene number (Some named) =
    breach_unless (list_any (has_name named.name) (titled_of scene) || is_output scene number named) named.token told.Columns

abbrev pub missing_column : Scene → ℕ → Option Breach
missing_column scene number = missing_named scene number (column scene number)

-- the place of the first column of a name behind one, where these stand from a place on
abbrev pub named_from : List ℕ → ℕ → ℕ → List Titled → Option ℕ
named_from name first place [] = None
named_from name first place (c ∷ cs) =
    if nat_lt first place && has_name name c then Some place else named_from name first (suc place) cs

abbrev pub two_items : ℕ → Option (ℕ × ℕ) → Option Breach
two_items token None = None
two_items token (Some places) = breach token (told.TwoItems places.0 places.1)

abbrev pub two_columns : ℕ → ℕ → Option ℕ → Option Breach
two_columns token first None = None
two_columns token first (Some second) = breach token (told.TwoColumns first second)

abbrev pub ambiguous_named : Scene → ℕ → Option ColumnName → Option Breach
ambiguous_named scene number None = None
ambiguous_named scene number (Some named) =
    if is_output scene number named then two_items named.token (two_called scene.outputs named.name)
    else two_columns named.token (place_named (titled_of scene) named.name)
    (named_from named.name (place_named (titled_of scene) named.name) 0 (titled_of scene))

abbrev pub ambiguous_name : Scene → ℕ → Option Breach
ambiguous_name scene number = ambiguous_named scene number (column scene number)

-- ---- windows

-- the mark before one is the WINDOW entry that it belongs to
abbrev pub entry_if : ℕ → Option Mark → Option ℕ
entry_if before None = None
entry_if before (Some mark) = Some before

abbrev pub entry_before : Scene → ℕ → Option ℕ
entry_before scene zero = None
entry_before scene (suc before) = entry_if before (mark_of scene before Entry)

abbrev pub copier_of : Scene → ℕ → Role → Option ℕ
copier_of scene number Copy = entry_before scene number
copier_of scene number _ = None

abbrev pub windows_told : Option ℕ → Told
windows_told None = told.Windows
windows_told (Some entry) = told.WindowsBefore entry

-- an entry that stands before a mark
abbrev pub stands_before : ℕ → Option ℕ → Bool
stands_before end None = false
stands_before end (Some entry) = nat_lt entry end

abbrev pub unknown_named : Scene → ℕ → Option ℕ → Option (List ℕ) → Option Breach
unknown_named scene token copier None = None
unknown_named scene token copier (Some name) =
    breach_unless (stands_before (unwrap_or copier (length (marks_of scene))) (of_name scene.entries name)) token (windows_told copier)

abbrev pub is_window_name : Role → Bool
is_window_name Use = true
is_window_name Copy = true
is_window_name _ = false

abbrev pub unknown_at : Scene → ℕ → Option Mark → Option Breach
unknown_at scene number None = None
unknown_at scene number (Some mark) =
    if is_window_name mark.role
    then unknown_named scene mark.token (copier_of scene number mark.role) (name_at (tokens_of scene) mark.token)
    else None

abbrev pub unknown_window : Scene → ℕ → Option Breach
unknown_window scene number = unknown_at scene number (mark_at scene number)

abbrev pub repeated_first : ℕ → ℕ → Option ℕ → Option Breach
repeated_first number token None = None
repeated_first number token (Some first) = breach_unless (nat_eq first number) token told.Nothing

abbrev pub repeated_named : Scene → ℕ → ℕ → Option (List ℕ) → Option Breach
repeated_named scene number token None = None
repeated_named scene number token (Some name) = repeated_first number token (of_name scene.entries name)

abbrev pub repeated_at : Scene → ℕ → Option Mark → Option Breach
repeated_at scene number None = None
repeated_at scene number (Some mark) = repeated_named scene number mark.token (name_at (tokens_of scene) mark.token)

abbrev pub repeated_window : Scene → ℕ → Option Breach
repeated_window scene number = repeated_at scene number (mark_of scene number Entry)

-- ---- keys that are places

abbrev pub is_wrong_between : Scene → ℕ → ℕ → Bool
is_wrong_between scene from to =
    nat_le from to && (nat_le to (length (tokens_of scene))
    && is_wrong_key (slice_range (tokens_of scene) from to) scene.outputs.count)

abbrev pub wrong_between : Scene → Option Mark → Option Mark → Option Breach
wrong_between scene (Some begin) (Some end) =
    breach_unless (not (is_wrong_between scene begin.token end.token)) begin.token told.Items
wrong_between scene _ _ = None

abbrev pub wrong_place : Scene → ℕ → Option Breach
wrong_place scene number = wrong_between scene (mark_of scene number KeyBegin) (mark_of scene (next number) KeyEnd)

-- ---- columns of groups

abbrev pub holds : BTreeSet (Bor (List ℕ)) → List ℕ → Bool
holds names name = contains_by (λ key. slice_cmp nat_cmp name key.now) names

abbrev pub groups_by : Scene → List ℕ → Bool
groups_by scene name = holds scene.grouped name

abbrev pub ungrouped_named : Scene → ℕ → Option ColumnName → Option Breach
ungrouped_named scene number None = None
ungrouped_named scene number (Some named) =
    breach_unless (groups_by scene named.name || (not (wants_grouped scene named.token) || is_output scene number named))
    named.token told.Ungrouped

abbrev pub ungrouped_column : Scene → ℕ → Option Breach
ungrouped_column scene number = ungrouped_named scene number (column scene number)

abbrev pub ungrouped_at : Scene → ℕ → Option ℕ → Option Breach
ungrouped_at scene token None = None
ungrouped_at scene token (Some place) =
    if is_star (tokens_of scene) token && has_token scene token then breach token (told.UngroupedStar place) else None

abbrev pub ungrouped_star : Scene → ℕ → Option Breach
ungrouped_star scene token = ungrouped_at scene token scene.ungrouped

-- ---- the first of them

abbrev pub or_else : Option Breach → Option Breach → Option Breach
or_else None other = other
or_else (Some one) other = Some one

-- what breaks a rule at a mark
abbrev pub breach_at : Scene → ℕ → Rule → Option Breach
breach_at scene number rules.UnknownTable = or_else (other_table scene number) (other_source scene number)
breach_at scene number rules.UnknownColumn = missing_column scene number
breach_at scene number rules.AmbiguousName = ambiguous_name scene number
breach_at scene number rules.WrongCall = wrong_call scene number
breach_at scene number rules.MisplacedWindowCall = misplaced_function scene number
breach_at scene number rules.MisplacedAggregate = misplaced_aggregate scene number
breach_at scene number rules.UngroupedColumn = ungrouped_column scene number
breach_at scene number rules.WrongFilter = wrong_filter scene number
breach_at scene number rules.UnknownWindow = unknown_window scene number
breach_at scene number rules.RepeatedWindow = repeated_window scene number
breach_at scene number rules.WrongPlace = wrong_place scene number
breach_at scene number _ = None

-- what breaks a rule at a token that is no name
abbrev pub breach_at_token : Scene → ℕ → Rule → Option Breach
breach_at_token scene token rules.WrongCall = long_grouping scene token
breach_at_token scene token rules.MisplacedAggregate = misplaced_grouping scene token
breach_at_token scene token rules.UngroupedColumn = ungrouped_star scene token
breach_at_token scene token _ = None

-- the first of so many, from a number on
abbrev pub first_from : (ℕ → Option Breach) → ℕ → ℕ → Option Breach
first_from at number zero = None
first_from at number (suc more) = or_else (at number) (first_from at (suc number) more)

abbrev pub first_name : Scene → Rule → Option Breach
first_name scene rule = first_from (λ number. breach_at scene number rule) 0 (length (marks_of scene))

abbrev pub first_token : Scene → Rule → Option Breach
first_token scene rule = first_from (λ token. breach_at_token scene token rule) 0 (length (tokens_of scene))

-- what is told first of a SELECT that breaks a rule, and where
abbrev pub first_told : Scene → Rule → Option (ℕ × List ℕ)
first_told scene rule =
    option_map (λ (b : Breach). (b.token, told_text scene b.told)) (earlier_of (first_name scene rule) (first_token scene rule))

abbrev pub told_at : Spot → ℕ × List ℕ
told_at spot = (spot.token, string_bytes spot.note)
