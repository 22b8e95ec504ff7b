-- What is meant where a call may leave its answer out, and when the rows that a condition keeps are few.
use Rattle.std.specs.Prelude.{◌≡◌, ◌<◌, ◌-◌, ◌*◌, ◌^◌, ◌==◌, ◌&&◌, ◌||◌, Bool, true, false, not, List, filter, length, min}
use Rattle.std.specs.Prelude.{Option, Some, None, Result, Ok, Err}
use Rattle.std.specs.Option.{is_some}
use Rattle.wplan.specs.Formula.{Formula}
use Rattle.wplan.specs.declared.resolved.Selection.{Selection}
use Rattle.wrows.specs.declared.fault.AnswerFault.{AnswerFault}
use Rattle.wrows.specs.Columns.{Row, holds_on}
use Rattle.wrows.specs.Outcomes.{Gives}
use Rattle.wrows.specs.Plain.{is_selected}

-- what a call answers, seen by view, is what is meant, unless it is left out or memory ran out
abbrev pub MayGive : {X Y : Type 0} → (X → Y) → Result (Option X) AnswerFault → Result Y AnswerFault → Type 0
MayGive view (Ok None) meant = Unit {0}
MayGive view (Ok (Some x)) meant = meant ≡ Ok (view x)
MayGive view (Err fault) meant = Gives view (Err fault) meant

-- the same of a call that says whether it was done to the end
abbrev pub GivesAtEnd : Result Bool AnswerFault → Result (Unit {0}) AnswerFault → Type 0
GivesAtEnd (Ok true) meant = meant ≡ Ok (tt {0})
GivesAtEnd (Ok false) meant = Unit {0}
GivesAtEnd (Err fault) meant = Gives {X = Unit {0}} (λ u. u) (Err fault) meant

-- a condition is true on more than a fourth of some rows, which are counted no further than a number of 64 bits goes
abbrev pub KeepsMany : Formula → List Row → Type 0
KeepsMany t rows = min (length rows) (2 ^ 64 - 1) < 4 * length (filter (holds_on t) rows)

-- whether ORDER BY asks for an order of all rows: there is one, and not so few of them are asked for that they are selected
abbrev pub asks_for_order : Selection → Bool
asks_for_order s = not (length s.keys.items == 0) && not (is_selected s.offset s.limit)

-- whether a SELECT may ask for orders of the table's rows, which are not grouped: for those of windows, or for that of ORDER BY
abbrev pub asks_for_orders : Selection → Bool
asks_for_orders s = not (is_some s.grouping) && (not (length s.windows.items == 0) || asks_for_order s)
