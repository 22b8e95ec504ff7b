-- What expressions come to on all rows (<value expression>, <search condition>). Nothing is skipped: out of range on any row refuses.
use Rattle.std.specs.Prelude.{◌++◌, Bool, List, map, filter, length, Option, Some, None, Result, Ok, nat_lt, unwrap_or}
use Rattle.std.specs.List.{list_any}
use Rattle.std.specs.Option.{is_none}
use Rattle.wvalues.specs.Meaning.{Meaning, Null}
use Rattle.wframe.specs.Peers.{key_at}
use Rattle.wframe.specs.Places.{places}
use Rattle.wplan.specs.Formula.{Formula}
use Rattle.weval.specs.Values.{value_of, value_in, truth_of, is_too_large, is_yes}
use Rattle.wrows.specs.declared.fault.AnswerFault.{AnswerFault}
use Rattle.wrows.specs.declared.fault.AnswerFault.TheVariants.{OutOfRange, TooManyRows}
use Rattle.wrows.specs.Outcomes.{unless}
pub use Rattle.wcodes.specs.Columns.{value_at}

-- a row of cells
abbrev pub Row : Type 0
Row = List Meaning

-- whether an expression is out of range on a row, its value there, and whether it is true there
abbrev pub is_out_of_range : Formula → Row → Bool
is_out_of_range t row = is_too_large (value_of row t)

abbrev pub value_on : Formula → Row → Meaning
value_on t row = value_in (value_of row t)

abbrev pub holds_on : Formula → Row → Bool
holds_on t row = is_yes (truth_of (value_of row t))

-- an expression's value on each row
abbrev pub column_of : Formula → List Row → Result (List Meaning) AnswerFault
column_of t rows = unless (list_any (is_out_of_range t) rows) OutOfRange (map (value_on t) rows)

-- the values of several expressions on each row
abbrev pub lists_of : List Formula → List Row → Result (List (List Meaning)) AnswerFault
lists_of ts rows = unless (list_any (λ row. list_any (λ t. is_out_of_range t row) ts) rows) OutOfRange
    (map (λ row. map (λ t. value_on t row) ts) rows)

-- whether a filter is true on each row, if there is one
abbrev pub filter_of : Option Formula → List Row → Result (Option (List Bool)) AnswerFault
filter_of None rows = Ok None
filter_of (Some t) rows = unless (list_any (is_out_of_range t) rows) OutOfRange (Some (map (holds_on t) rows))

-- the rows on which a condition is true: all, where there is none
abbrev pub held_rows : Option Formula → List Row → Result (List Row) AnswerFault
held_rows None rows = Ok rows
held_rows (Some t) rows = unless (list_any (is_out_of_range t) rows) OutOfRange (filter (holds_on t) rows)

-- results, of which none may be out of range
abbrev pub in_range : List (Option Meaning) → Result (List Meaning) AnswerFault
in_range results = unless (list_any is_none results) OutOfRange (map (λ r. unwrap_or r Null) results)

-- at most 2,147,483,647 rows
abbrev pub not_too_many : {X : Type 0} → List X → Result (List X) AnswerFault
not_too_many rows = unless (nat_lt 2147483647 (length rows)) TooManyRows rows

-- each row with what some columns have for it behind its own cells
abbrev pub beside : List Row → List (List Meaning) → List Row
beside rows columns = map (λ i. key_at rows i ++ map (λ column. value_at column i) columns) (places (length rows))
