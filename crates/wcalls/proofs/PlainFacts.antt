-- The values of plain columns.
use Rattle.std.proofs.Common.{◌≡◌, ℕ, ◌*◌, ◌<◌, ◌||◌, false, List, [], ◌∷◌, length, map, get_or, Ok, refl, sym, ap, ◌∙◌}
use Rattle.std.specs.Borrow.{Bor}
use Rattle.std.specs.List.{AllByRecursion, flat_map, list_any}
use Rattle.std.proofs.lemmas.List.{get_or-map, length-map}
use Rattle.wvalues.specs.declared.value.Value.{Value}
use Rattle.wvalues.specs.Meaning.{Meaning, Null, meaning}
use Rattle.wcolumns.specs.Columns.{placed}
use Rattle.wplan.specs.Formula.{At}
use Rattle.wrows.specs.declared.fault.AnswerFault.TheVariants.{OutOfRange}
use Rattle.wrows.specs.Outcomes.{unless}
use Rattle.wrows.specs.Columns.{Row, column_of, is_out_of_range, lists_of, value_at, value_on}
use Rattle.wrows.specs.Laid.{row_seen, rows_seen}
use Rattle.wrows.specs.LaidRows.{laid}
use Rattle.wrows.specs.CodedRows.{key_column}
use Rattle.wrows.proofs.RowFacts.{all_of_each, laid_length, laid_rows, map-map}
use Rattle.wframe.specs.Peers.{key_at}
use Rattle.wcalls.specs.ListedColumns.{values_at}

none_out : (place : ℕ) (rows : List Row) → list_any (is_out_of_range (At place)) rows ≡ false
none_out place [] = refl
none_out place (row ∷ rows) = none_out place rows

-- a plain column is never out of range
pub plain_column : (place : ℕ) (rows : List Row) → column_of (At place) rows ≡ Ok (map (value_on (At place)) rows)
plain_column place rows = ap (λ b. unless b OutOfRange (map (value_on (At place)) rows)) (none_out place rows)

-- it has what stands at the place of each row that is lent
pub placed_column : (place : ℕ) (rows : List (Bor (List Value))) → column_of (At place) (rows_seen rows) ≡ Ok (placed place rows)
placed_column place rows = plain_column place (rows_seen rows) ∙ ap Ok (map-map (value_on (At place)) row_seen rows)

pub map-same : {X Y : Type 0} (f g : X → Y) → ((x : X) → f x ≡ g x) → (xs : List X) → map f xs ≡ map g xs
map-same f g same [] = refl
map-same f g same (x ∷ xs) = ap (λ y. y ∷ map f xs) (same x) ∙ ap (λ l. g x ∷ l) (map-same f g same xs)

-- the values of a lent row at some places
abbrev pub list_seen : List ℕ → Bor (List Value) → List Meaning
list_seen places row = map (value_at (row_seen row)) places

lists_seen : (ps : List ℕ) (rows : List (Bor (List Value))) → map (list_seen ps) rows ≡ values_at ps (rows_seen rows)
lists_seen ps rows = sym (map-map (λ row. map (value_at row) ps) row_seen rows)

-- the list of a row is that of its values at the places
pub list_at : (ps : List ℕ) (rows : List Row) (row : ℕ) → row < length rows
    → key_at (values_at ps rows) row ≡ map (value_at (key_at rows row)) ps
list_at ps rows row h = get_or-map (λ row. map (value_at row) ps) rows row [] [] h

-- the column of a number has the values at its place
pub column_at : (ps : List ℕ) (rows : List Row) (number place : ℕ) → number < length ps → place ≡ get_or ps number 0
    → map (λ row. value_at row place) rows ≡ key_column number (values_at ps rows)
column_at ps rows number place h e =
    map-same (λ row. value_at row place) (λ row. value_at (map (value_at row) ps) number) (λ row. ap (value_at row) e
    ∙ sym (get_or-map (value_at row) ps number 0 Null h)) rows
    ∙ sym (map-map (λ list. value_at list number) (λ row. map (value_at row) ps) rows)

module _ (ps : List ℕ) (rows : List (Bor (List Value))) (cells : List Value) (e : map meaning cells ≡ flat_map (list_seen ps) rows) where
  wide : AllByRecursion (λ row. length (list_seen ps row) ≡ length ps) rows
  wide = all_of_each (λ row. length (list_seen ps row) ≡ length ps) (λ row. length-map ps (value_at (row_seen row))) rows

  -- copies of the values at the places, by rows
  pub copies_laid : laid (length ps) (length rows) cells ≡ values_at ps (rows_seen rows)
  copies_laid = laid_rows (length ps) (list_seen ps) rows wide cells e ∙ lists_seen ps rows

  pub copies_long : length cells ≡ length rows * length ps
  copies_long = sym (length-map cells meaning) ∙ ap length e ∙ laid_length (length ps) (list_seen ps) rows wide

-- plain columns are out of range on no row
none_in_range : (ps : List ℕ) (row : Row) → list_any (λ t. is_out_of_range t row) (map At ps) ≡ false
none_in_range [] row = refl
none_in_range (p ∷ ps) row = none_in_range ps row

none_at_fault : (ps : List ℕ) (rows : List Row) → list_any (λ row. list_any (λ t. is_out_of_range t row) (map At ps)) rows ≡ false
none_at_fault ps [] = refl
none_at_fault ps (row ∷ rows) = ap (λ b. b || list_any (λ row. list_any (λ t. is_out_of_range t row) (map At ps)) rows)
    (none_in_range ps row) ∙ none_at_fault ps rows

pub plain_lists : (ps : List ℕ) (rows : List Row) → lists_of (map At ps) rows ≡ Ok (values_at ps rows)
plain_lists ps rows =
    ap (λ b. unless b OutOfRange (map (λ row. map (λ t. value_on t row) (map At ps)) rows)) (none_at_fault ps rows)
    ∙ ap Ok (map-same (λ row. map (λ t. value_on t row) (map At ps)) (λ row. map (value_at row) ps)
    (λ row. map-map (λ t. value_on t row) At ps) rows)
