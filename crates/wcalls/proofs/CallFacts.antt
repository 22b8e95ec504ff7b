-- What calls tell, and the column of those that tell values.
use Rattle.std.proofs.Common.{◌≡◌, ℕ, List, [], ◌∷◌, length, map, Option, Some, None, Ok, refl, sym, ap, ◌∙◌}
use Rattle.wvalues.specs.Meaning.{Meaning}
use Rattle.wframe.specs.Partition.{Partition}
use Rattle.wplan.specs.Formula.{Formula}
use Rattle.wrows.specs.Columns.{Row, column_of}
use Rattle.wrows.proofs.RowFacts.{then_ok}
use Rattle.wcalls.specs.Windows.{Windowed, partition_at, partition_rows, place_at}
use Rattle.wcalls.specs.Calls.{each_row, values_read}
use Rattle.wcalls.specs.Arranged.{value_read}
use Rattle.wcalls.specs.Kept.{number_read}
use Rattle.wcolumns.specs.Columns.{value_of_number}
use Rattle.wcalls.proofs.Answering.{answer_values}

pub all_there : {X : Type 0} (f : X → Meaning) (xs : List X) → answer_values (map (λ x. Some (f x)) xs) ≡ map f xs
all_there f [] = refl
all_there f (x ∷ xs) = ap (λ l. f x ∷ l) (all_there f xs)

-- the column of a function that reads other rows
pub reading_is : (w : Windowed) (t : Formula) (rows : List Row) (default : Meaning) (at : ℕ → Partition → ℕ
    → Option ℕ) (values new : List Meaning) → column_of t rows ≡ Ok values
    → new ≡ each_row w (λ i. value_read values (partition_rows w i) default
    (at (length (partition_rows w i)) (partition_at w i) (place_at w i)))
    → values_read w t rows default (λ i. at (length (partition_rows w i)) (partition_at w i) (place_at w i)) ≡ Ok new
reading_is w t rows default at values new e is =
    then_ok values (column_of t rows) (λ vs.
    Ok (each_row w (λ i. value_read vs (partition_rows w i) default (at (length (partition_rows w i)) (partition_at w i)
    (place_at w i))))) e ∙ ap Ok (sym is)

-- what is kept for a row stands for the value that is read for it
pub number_kept : (values : List Meaning) (rows : List ℕ) (default : Meaning) (place : Option ℕ)
    → value_of_number values default (number_read rows place) ≡ value_read values rows default place
number_kept values rows default None = refl
number_kept values rows default (Some place) = refl
