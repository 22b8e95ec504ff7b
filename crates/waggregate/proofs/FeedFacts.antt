-- Lists of one value each are a column.
use Rattle.std.proofs.Common.{◌≡◌, ◌*◌, ◌||◌, Bool, true, false, List, [], ◌∷◌}
use Rattle.std.proofs.Common.{length, map, Ok, Some, refl, ap, ◌∙◌, arith}
use Rattle.std.specs.List.{list_any}
use Rattle.std.specs.Borrow.{Bor}
use Rattle.wvalues.specs.declared.value.Value.{Value}
use Rattle.wvalues.specs.Meaning.{Meaning, meaning}
use Rattle.wplan.specs.Formula.{Formula}
use Rattle.wrows.specs.declared.fault.AnswerFault.{AnswerFault}
use Rattle.wrows.specs.declared.fault.AnswerFault.TheVariants.{OutOfRange}
use Rattle.wrows.specs.Outcomes.{unless}
use Rattle.wrows.specs.Columns.{Row, column_of, is_out_of_range, lists_of, value_on}
use Rattle.wrows.specs.Laid.{rows_seen}
use Rattle.wrows.specs.LaidRows.{laid}

pub some_too : {A : Type 0} (b : Bool) (fault : AnswerFault) (x y : A) → unless b fault x ≡ Ok y → unless b fault (Some x) ≡ Ok (Some y)
some_too true fault x y e = absurd (cc)
some_too false fault x y e = let h : x ≡ y = cc in ap (λ z. Ok (Some z)) h

or_false : (b : Bool) → (b || false) ≡ b
or_false true = refl
or_false false = refl

any_alike : (t : Formula) (rows : List Row) → list_any (λ row. list_any (λ t. is_out_of_range t row) (t ∷ [])) rows
    ≡ list_any (is_out_of_range t) rows
any_alike t [] = refl
any_alike t (row ∷ rows) =
    ap (λ b. b || list_any (λ row. list_any (λ t. is_out_of_range t row) (t ∷ [])) rows) (or_false (is_out_of_range t row))
    ∙ ap (λ b. is_out_of_range t row || b) (any_alike t rows)

laid_alike : (t : Formula) (rows : List (Bor (List Value))) (cells : List Value) → length cells ≡ length rows
    → map (λ row. value_on t row ∷ []) (rows_seen rows) ≡ laid 1 (length rows) cells → map (value_on t) (rows_seen rows) ≡ map meaning cells
laid_alike t [] [] h e = refl
laid_alike t [] (x ∷ xs) h e = absurd (omega arith)
laid_alike t (row ∷ rows) [] h e = absurd (omega arith)
laid_alike t (row ∷ rows) (x ∷ xs) h e =
    let here : value_on t (map meaning row.now) ≡ meaning x = cc in
    let others : map (λ row. value_on t row ∷ []) (rows_seen rows) ≡ laid 1 (length rows) xs = cc in
    ap (λ v. v ∷ map (value_on t) (rows_seen rows)) here ∙ ap (λ l. meaning x ∷ l) (laid_alike t rows xs (omega arith) others)

unless_alike : (b c : Bool) (x y : List (List Meaning)) (v w : List Meaning) → b ≡ c → (x ≡ y → v ≡ w)
    → unless b OutOfRange x ≡ Ok y → unless c OutOfRange v ≡ Ok w
unless_alike true c x y v w e f h = absurd (cc)
unless_alike false true x y v w e f h = absurd (cc)
unless_alike false false x y v w e f h = let same : x ≡ y = cc in ap Ok (f same)

-- cells of one expression are its column
pub only_column : (t : Formula) (rows : List (Bor (List Value))) (cells : List Value) → length cells ≡ length rows * 1
    → lists_of (t ∷ []) (rows_seen rows) ≡ Ok (laid 1 (length rows) cells) → column_of t (rows_seen rows) ≡ Ok (map meaning cells)
only_column t rows cells h e =
    unless_alike _ _ _ _ _ _ (any_alike t (rows_seen rows)) (laid_alike t rows cells (omega arith)) e

-- an expression that is in range on every row
pub in_range_all : (t : Formula) → ((row : Row) → is_out_of_range t row ≡ false) → (rows : List Row)
    → list_any (is_out_of_range t) rows ≡ false
in_range_all t h [] = refl
in_range_all t h (row ∷ rows) = ap (λ b. b || list_any (is_out_of_range t) rows) (h row) ∙ in_range_all t h rows
