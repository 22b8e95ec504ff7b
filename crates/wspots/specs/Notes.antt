-- What is told of a place in a query beside the sentence.
use Rattle.std.specs.Prelude.{ℕ, zero, suc, ◌==◌, List, [], ◌∷◌, ◌++◌, length, codes, decimal, Option, Some, None}
use Rattle.std.specs.Prelude.{slice_get, unwrap_or, if◌then◌else◌}
use Rattle.std.specs.BTreeMap.{get_by}
use Rattle.std.specs.Cmp.Lexicographic.{slice_cmp}
use Rattle.std.specs.Ordering.{nat_cmp}
use Rattle.std.specs.Rc.{rc_str_bytes}
use Rattle.wsegment.specs.Declaration.{Declaration}
use Rattle.wquery.specs.QueryTree.{view_source}
use Rattle.wgrammar.specs.declared.following.Mark.{Mark}
use Rattle.wgrammar.specs.declared.grammar.Role.TheVariants.{Entry}
use Rattle.wscope.specs.declared.function.Function.{Function}
use Rattle.wscope.specs.declared.function.Function.TheVariants as functions
use Rattle.wscope.specs.declared.source.SourceColumn.{SourceColumn}
use Rattle.wshown.specs.Shown.{shown_text}
use Rattle.wclauses.specs.Tokens.{name_at, next}
use Rattle.wspots.specs.declared.notes.Told.{Told}
use Rattle.wspots.specs.declared.notes.Told.TheVariants as told
use Rattle.wspots.specs.declared.scene.Scene.{Scene}
use Rattle.wspots.specs.Scene.{mark_of, source_name, tokens_of}

-- names behind one another, with commas between them
abbrev pub listed : List ℕ → List ℕ → List ℕ
listed [] name = name
listed (b ∷ bs) name = (b ∷ bs) ++ (codes ", " ++ name)

abbrev pub alias_of : Scene → List ℕ
alias_of scene = source_name (view_source scene.query.now.source)

-- the names of columns behind others
abbrev pub columns_listed : List ℕ → List SourceColumn → List ℕ
columns_listed names [] = names
columns_listed names (column ∷ columns) = columns_listed (listed names (rc_str_bytes column.name)) columns

abbrev pub columns_told : Scene → List ℕ
columns_told scene =
    shown_text (alias_of scene) ++ (codes " has " ++ shown_text (columns_listed [] scene.columns.now))

-- the name of the WINDOW entry at a mark, if it is the first of its name
abbrev pub first_entry : Scene → List ℕ → Option ℕ
first_entry scene name = get_by (λ key. slice_cmp nat_cmp name key.now) scene.entries

abbrev pub if_first : ℕ → List ℕ → Option ℕ → Option (List ℕ)
if_first number name None = None
if_first number name (Some first) = if first == number then Some name else None

abbrev pub named_entry : Scene → ℕ → Option (List ℕ) → Option (List ℕ)
named_entry scene number None = None
named_entry scene number (Some name) = if_first number name (first_entry scene name)

abbrev pub marked_entry : Scene → ℕ → Option Mark → Option (List ℕ)
marked_entry scene number None = None
marked_entry scene number (Some mark) = named_entry scene number (name_at (tokens_of scene) mark.token)

abbrev pub entry_at : Scene → ℕ → Option (List ℕ)
entry_at scene number = marked_entry scene number (mark_of scene number Entry)

abbrev pub listed_if : List ℕ → Option (List ℕ) → List ℕ
listed_if names None = names
listed_if names (Some name) = listed names name

-- the names of the windows before a mark
abbrev pub windows_before : Scene → ℕ → List ℕ
windows_before scene zero = []
windows_before scene (suc number) = listed_if (windows_before scene number) (entry_at scene number)

abbrev pub told_or : List ℕ → List ℕ → List ℕ → List ℕ
told_or none some [] = none
told_or none some (b ∷ bs) = some ++ shown_text (b ∷ bs)

abbrev pub windows_told : Scene → List ℕ
windows_told scene = told_or (codes "there is no WINDOW") (codes "the windows are ")
    (windows_before scene (length scene.written.marks.now))

abbrev pub windows_before_told : Scene → ℕ → List ℕ
windows_before_told scene number = told_or (codes "there is no window before it") (codes "the windows before it are ")
    (windows_before scene number)

-- two places, counted from 1
abbrev pub two_told : List ℕ → ℕ → ℕ → List ℕ → List ℕ
two_told what one other behind =
    what ++ (codes " " ++ (decimal (next one) ++ (codes " and " ++ (decimal (next other) ++ behind))))

-- how many arguments a function takes
abbrev pub taken_by : Function → List ℕ
taken_by functions.RowNumber = codes "none"
taken_by functions.Rank = codes "none"
taken_by functions.DenseRank = codes "none"
taken_by functions.Lag = codes "one to three"
taken_by functions.Lead = codes "one to three"
taken_by functions.NthValue = codes "two arguments"
taken_by functions.Count = codes "one argument, or *"
taken_by _ = codes "one argument"

abbrev pub taken_told : Scene → ℕ → Function → List ℕ
taken_told scene token function =
    shown_text (unwrap_or (name_at (tokens_of scene) token) []) ++ (codes " takes " ++ taken_by function)

-- `*` stands for a column
abbrev pub star_told : Option SourceColumn → List ℕ
star_told None = []
star_told (Some column) = codes "* stands for " ++ (shown_text (rc_str_bytes column.name) ++ codes ", not in GROUP BY")

-- what is the same everywhere
abbrev pub functions_told : List ℕ
functions_told =
    codes "the functions are count, sum, min, max, row_number, rank, dense_rank, ntile, lag, lead, first_value, last_value, nth_value"

abbrev pub words_told : Told → List ℕ
words_told told.Functions = functions_told
words_told told.Star = codes "only count takes *"
words_told told.LongGrouping = codes "GROUPING takes at most 31 columns"
words_told told.Condition = codes "in WHERE: HAVING judges groups"
words_told told.Ungrouped = codes "not in GROUP BY"
words_told _ = []

abbrev pub table_told : Declaration → List ℕ
table_told declared = codes "the table is " ++ shown_text declared.table

abbrev pub told_text : Scene → Told → List ℕ
told_text scene told.Table = table_told scene.written.schema.now
told_text scene told.Source = codes "the source is " ++ shown_text (alias_of scene)
told_text scene told.Columns = columns_told scene
told_text scene (told.TwoColumns one other) = two_told (codes "columns") one other (codes " of ") ++ shown_text (alias_of scene)
told_text scene (told.TwoItems one other) = two_told (codes "items") one other []
told_text scene (told.Takes token function) = taken_told scene token function
told_text scene (told.UngroupedStar place) = star_told (slice_get scene.columns.now place)
told_text scene told.Windows = windows_told scene
told_text scene (told.WindowsBefore entry) = windows_before_told scene entry
told_text scene told.Items = decimal scene.outputs.count ++ codes " items"
told_text scene words = words_told words
