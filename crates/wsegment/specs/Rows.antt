-- The typed rows of a segment's bytes, in the order of the table's columns, or the first fault.
use Rattle.std.specs.Prelude.{◌≡◌, ◌⊎◌, refl, ℕ, ℤ, List, [], ◌∷◌, length, map, nat_lt, slice_index_or, if◌then◌else◌, Result, Ok, Err}
use Rattle.std.specs.Coded.{Coded, code_by, coded×, coded⊎, coded_list, coded_ℕ, coded_ℤ}
use base.Stored.{coded_unit}
use mathlib.Core.Logic.{inl, inr}
use Rattle.csv.specs.Reading.{default_config, records, strip_bom}
use Rattle.wvalues.specs.Meaning.{Meaning, Null, Int, Text}
use Rattle.wsegment.specs.Cells.{rows_from}
use Rattle.wsegment.specs.Declaration.{Declaration, Described}
use Rattle.wsegment.specs.Header.{in_table_order, is_complete, kinds_of, named_each}
use Rattle.wsegment.specs.Outcome.{◌>>=◌}
use Rattle.wsegment.specs.declared.fault.SegmentFault.{SegmentFault}
use Rattle.wsegment.specs.declared.fault.SegmentFault.TheVariants as faults

-- what a clause sees of a segment
pub record Content : Type 0 where
  pub bytes : List ℕ
  pub columns : ℕ
  pub rows : List (List Meaning)

-- the cell of a row and a column
abbrev pub cell : List (List Meaning) → ℕ → ℕ → Meaning
cell rows row column = slice_index_or (slice_index_or rows row []) column Null

-- the rows under a header that names these columns
unfoldable pub rows_under : Declaration → List (List (List ℕ)) → List Described → Result (List (List Meaning)) SegmentFault
rows_under d below header =
    if is_complete d.columns header then (rows_from (kinds_of header) 1 below >>= λ rows. Ok (map (in_table_order d.columns header) rows))
    else Err faults.MissingColumn

-- the rows of records, of which the first is the header
unfoldable pub rows_of_records : Declaration → List (List (List ℕ)) → Result (List (List Meaning)) SegmentFault
rows_of_records d [] = Err faults.NoHeader
rows_of_records d (header ∷ below) = named_each d.columns [] header >>= rows_under d below

-- the rows of bytes
unfoldable pub rows_of : Declaration → List ℕ → Result (List (List Meaning)) SegmentFault
rows_of d bytes = if nat_lt 67108864 (length bytes) then Err faults.TooLong else rows_of_records d
    (records default_config (strip_bom bytes))

-- how a content is stored: as the triple of its parts
abbrev is_cell : Meaning → Unit {0} ⊎ (ℤ ⊎ List ℕ)
is_cell Null = inl tt
is_cell (Int n) = inr (inl n)
is_cell (Text t) = inr (inr t)

abbrev cell_from : Unit {0} ⊎ (ℤ ⊎ List ℕ) → Meaning
cell_from (inl _) = Null
cell_from (inr (inl n)) = Int n
cell_from (inr (inr t)) = Text t

pub cell-back : (x : Meaning) → cell_from (is_cell x) ≡ x
cell-back Null = refl
cell-back (Int n) = refl
cell-back (Text t) = refl

abbrev pub coded_meaning : Coded Meaning
coded_meaning = code_by (Unit {0} ⊎ (ℤ ⊎ List ℕ)) (coded⊎ coded_unit (coded⊎ coded_ℤ (coded_list coded_ℕ))) is_cell cell_from cell-back

abbrev pub coded_content : Coded Content
coded_content =
    code_by (List ℕ × (ℕ × List (List Meaning)))
    (coded× (coded_list coded_ℕ) (coded× coded_ℕ (coded_list (coded_list coded_meaning)))) (λ c. (c.bytes, (c.columns, c.rows)))
    (λ p. record { bytes = p.0; columns = p.1.0; rows = p.1.1 }) (λ _. refl)
