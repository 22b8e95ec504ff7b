-- What an argument has on a row.
use Rattle.std.proofs.Common.{◌≡◌, ℕ, zero, suc, ◌+◌, ◌<◌, false, List, [], ◌∷◌, ◌++◌, length, map, take, get_or, Option, Some, None, Ok}
use Rattle.std.proofs.Common.{refl, sym, ap, ◌∙◌, arith}
use Rattle.std.specs.Prelude.{IfSome, IfNone}
use Rattle.std.specs.Borrow.{Bor}
use Rattle.std.proofs.lemmas.List.{get_or-map, length-map, map-append, take_more}
use Rattle.wvalues.specs.declared.value.Value.{Value}
use Rattle.wvalues.specs.Meaning.{Meaning, Null, meaning}
use Rattle.wframe.specs.Cells.{meanings}
use Rattle.wframe.specs.Places.{places}
use Rattle.wplan.specs.Formula.{At, Constant, Formula}
use Rattle.wrows.specs.declared.fault.AnswerFault.TheVariants.{OutOfRange}
use Rattle.wrows.specs.Columns.{Row, column_of, is_out_of_range, value_on}
use Rattle.wrows.specs.Laid.{row_seen, rows_seen}
use Rattle.wrows.specs.Outcomes.{unless}
use Rattle.wrows.proofs.RowFacts.{length-places, map-map}
use Rattle.waggregate.specs.declared.feeding.Argument.{Argument}
use Rattle.waggregate.specs.declared.feeding.Argument.TheVariants as arguments
use Rattle.waggregate.specs.Feeding.{rows_of, value_or_none, values_of}
use Rattle.waggregate.proofs.FeedFacts.{in_range_all}

-- of nulls each is one
pub null_at : (rows : List ℕ) (row : ℕ) → get_or (map (λ (n : ℕ). Null) rows) row Null ≡ Null
null_at [] row = refl
null_at (n ∷ rows) zero = refl
null_at (n ∷ rows) (suc row) = null_at rows row

value_found : (t : Formula) (cells : Bor (List Value)) (found : Option (Bor Value))
    → IfSome found (λ value. meaning value.now ≡ value_on t (row_seen cells)) → IfNone found (value_on t (row_seen cells) ≡ Null)
    → value_or_none found ≡ value_on t (row_seen cells)
value_found t cells None some none = sym none
value_found t cells (Some value) some none = some

-- what stands at a place of a row is what the column has for it
pub cell_found : (place row : ℕ) (rows : List (Bor (List Value))) (cells : Bor (List Value)) (found : Option (Bor Value))
    → row < length rows → cells ≡ get_or rows row cells
    → IfSome found (λ value. meaning value.now ≡ value_on (At place) (row_seen cells))
    → IfNone found (value_on (At place) (row_seen cells) ≡ Null)
    → value_or_none found ≡ get_or (map (value_on (At place)) (rows_seen rows)) row Null
cell_found place row rows cells found below is some none =
    let t = At place in
    value_found t cells found some none
    ∙ ap (λ r. value_on t (row_seen r)) is
    ∙ sym (get_or-map (λ r. value_on t (row_seen r)) rows row cells Null below)
    ∙ ap (λ l. get_or l row Null) (sym (map-map (value_on t) row_seen rows))

in_range : (t : Formula) → ((row : Row) → is_out_of_range t row ≡ false) → (rows : List Row) → column_of t rows ≡ Ok (map (value_on t) rows)
in_range t h rows = ap (λ b. unless b OutOfRange (map (value_on t) rows)) (in_range_all t h rows)

-- a plain column
pub column_in_range : (place : ℕ) (rows : List Row) → column_of (At place) rows ≡ Ok (map (value_on (At place)) rows)
column_in_range place = in_range (At place) (λ row. refl)

all_null : (rows : List Row) (ns : List ℕ) → length rows ≡ length ns → map (value_on (Constant Null)) rows ≡ map (λ (n : ℕ). Null) ns
all_null [] [] h = refl
all_null [] (n ∷ ns) h = absurd (omega arith)
all_null (row ∷ rows) [] h = absurd (omega arith)
all_null (row ∷ rows) (n ∷ ns) h = ap (λ l. Null ∷ l) (all_null rows ns (omega arith))

-- a null for each row
pub nulls_in_range : (rows : List Row) (n : ℕ) → length rows ≡ n → column_of (Constant Null) rows ≡ Ok (map (λ (n : ℕ). Null) (places n))
nulls_in_range rows n h = in_range (Constant Null) (λ row. refl) rows ∙ ap Ok (all_null rows (places n) (h ∙ sym (length-places 0 n)))

-- as many values as rows
pub values_long : (a : Argument) → length (values_of a) ≡ rows_of a
values_long (arguments.Null rows) = length-map (places rows) (λ row. Null) ∙ length-places 0 rows
values_long (arguments.Column rows place) =
    length-map (rows_seen rows.now) (value_on (At place)) ∙ length-map rows.now row_seen
values_long (arguments.Values values) = length-map values.now meaning

-- one value more
pub listed_more : (values : List Meaning) (row : ℕ) (listed more : List (Bor Value)) (value : Bor Value) → row < length values
    → meanings listed ≡ take row values → meaning value.now ≡ get_or values row Null → more ≡ listed ++ value ∷ []
    → meanings more ≡ take (row + 1) values
listed_more values row listed more value below so_far is e =
    ap meanings e ∙ map-append (λ (cell : Bor Value). meaning cell.now) listed (value ∷ []) ∙ ap (λ l. l ++ meaning value.now ∷ []) so_far
    ∙ ap (λ m. take row values ++ m ∷ []) is ∙ sym (take_more values row Null below)
