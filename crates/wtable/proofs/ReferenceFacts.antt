-- The rows that references tell.
use Rattle.std.proofs.Common.{◌≡◌, ℕ, zero, suc, ◌+◌, ◌<◌, List, [], ◌∷◌, ◌++◌, length, map}
use Rattle.std.proofs.Common.{take, get_or, None, length-append, ap, sym, ◌∙◌, refl, arith}
use Rattle.std.proofs.lemmas.List.{get_or-append-add, append_assoc, get_or_append_left}
use Rattle.std.specs.List.{AllByRecursion}
use Rattle.wvalues.specs.Names.{NameParts}
use Rattle.wsegment.specs.Rows.{Content}
use Rattle.wframe.specs.Peers.{key_at}
use Rattle.wrows.specs.Columns.{Row}
use Rattle.wruns.specs.Orderings.{kept_before, kept_numbers, number_of}
use Rattle.wruns.specs.Runs.{joined}
use Rattle.wruns.specs.declared.refs.RowRef.{RowRef}
use Rattle.wtable.specs.Referenced.{referenced_row}
use Rattle.wtable.specs.TableOrders.{IsRowOf, holds_by}
use Rattle.wtable.proofs.NumberFacts.{all_filtered, length_taken, row_below}

-- the rows of one segment more are lent
pub segment_more : (before after whole : List (List Row)) (segments left : List (NameParts × Content)) (e : NameParts × Content)
    (rows : List Row) → segments ≡ e ∷ left → before ++ map (λ e. e.1.rows) segments ≡ whole → after ≡ before ++ rows ∷ []
    → rows ≡ e.1.rows → after ++ map (λ e. e.1.rows) left ≡ whole
segment_more before after whole segments left e rows is so_far more same =
    ap (λ l. l ++ map (λ e. e.1.rows) left) more
    ∙ append_assoc before (rows ∷ []) (map (λ e. e.1.rows) left)
    ∙ ap (λ r. before ++ r ∷ map (λ e. e.1.rows) left) same
    ∙ ap (λ l. before ++ map (λ e. e.1.rows) l) (sym is) ∙ so_far

-- the row of a segment's place, among all rows
row_among : (segments : List (List Row)) (s row : ℕ) → s < length segments → row < length (get_or segments s [])
    → get_or (joined segments) (length (joined (take s segments)) + row) [] ≡ get_or (get_or segments s []) row []
row_among [] s row h k = absurd (omega arith)
row_among (rows ∷ more) zero row h k = ap (λ i. get_or (rows ++ joined more) i []) (let first : 0 + row ≡ row =
    omega arith in first) ∙ get_or_append_left rows (joined more) [] row k
row_among (rows ∷ more) (suc s) row h k =
    let behind : length (rows ++ joined (take s more)) + row ≡ length rows + (length (joined (take s more)) + row) =
    omega (arith, length-append rows (joined (take s more))) in
    ap (λ i. get_or (rows ++ joined more) i []) behind ∙ get_or-append-add rows (joined more)
    (length (joined (take s more)) + row) [] ∙ row_among more s row (omega arith) k

module _ (segments : List (List Row)) where
  abbrev all_rows : List Row
  all_rows = joined segments

  -- the number of a row among all
  own_number : (i : ℕ) → i < length all_rows → kept_before (holds_by None) all_rows i ≡ i
  own_number i h = ap length (all_filtered (take i all_rows)) ∙ length_taken i all_rows (omega (arith, h))

  -- where all rows are kept, the numbers that references tell are those of the rows that they tell
  pub presorted_rows : (refs : List RowRef) → AllByRecursion (IsRowOf segments) refs
      → map (key_at all_rows) (kept_numbers (holds_by None) segments refs) ≡ map (referenced_row segments) refs
  presorted_rows [] all = refl
  presorted_rows (r ∷ refs) all =
      let own = own_number (number_of segments r) (row_below segments r.segment r.row all.0.segment all.0.row) in
      ap (λ i. get_or all_rows i [] ∷ map (key_at all_rows) (kept_numbers (holds_by None) segments refs)) own
      ∙ ap (λ row. row ∷ map (key_at all_rows) (kept_numbers (holds_by None) segments refs))
      (row_among segments r.segment r.row all.0.segment all.0.row)
      ∙ ap (λ l. referenced_row segments r ∷ l) (presorted_rows refs all.1)
