-- The rows of live segments: as many values as the table has columns, and one after another the rows of the table.
use Rattle.std.proofs.Common.{◌≡◌, ℕ, List, [], ◌∷◌, ◌++◌, length, map, cond, nat_lt}
use Rattle.std.proofs.Common.{Bool, true, false, Result, Ok, Err, refl, sym, ap, ◌∙◌}
use Rattle.std.specs.List.{AllByRecursion, flat_map}
use Rattle.std.proofs.lemmas.List.{length-map}
use Rattle.wvalues.specs.Names.{NameParts}
use Rattle.wvalues.specs.Meaning.{Meaning}
use Rattle.wsegment.specs.Cells.{rows_from}
use Rattle.wsegment.specs.Declaration.{Declaration, Described}
use Rattle.wsegment.specs.Header.{in_table_order, is_complete, kinds_of, named_each}
use Rattle.wsegment.specs.Outcome.{◌>>=◌}
use Rattle.wsegment.specs.Rows.{Content, rows_of, rows_of_records, rows_under}
use Rattle.wsegment.specs.declared.fault.SegmentFault.{SegmentFault}
use Rattle.wsegment.specs.declared.fault.SegmentFault.TheVariants.{MissingColumn, TooLong}
use Rattle.wset.specs.Lending.{AreLivesOf}
use Rattle.wset.specs.Running.{live_rows}
use Rattle.wset.specs.Sets.{Becomes, DeclaredView}
use Rattle.wentries.specs.Holding.{IsReadBy}
use Rattle.wset.specs.Tables.{content_rows, rows_or_none, segment_rows}
use Rattle.wset.specs.Views.{lives}
use Rattle.wruns.specs.Runs.{joined}
use Rattle.wrows.specs.Columns.{Row}
use Rattle.wtable.specs.Tables.{rows_of_set}
use Rattle.wtable.proofs.SourceFacts.{live_rows as named_rows, table_is}

module _ (d : Declaration) where
  abbrev AreWide : List Row → Type 0
  AreWide = AllByRecursion (λ row. length row ≡ length d.columns)

  wide_mapped : (header : List Described) (rows : List (List Meaning)) → AreWide (map (in_table_order d.columns header) rows)
  wide_mapped header [] = tt
  wide_mapped header (row ∷ rows) = (length-map d.columns _, wide_mapped header rows)

  wide_raw : (header : List Described) (raw : Result (List (List Meaning)) SegmentFault)
      → AreWide (rows_or_none (raw >>= λ rows. Ok (map (in_table_order d.columns header) rows)))
  wide_raw header (Ok rows) = wide_mapped header rows
  wide_raw header (Err fault) = tt

  wide_under : (below : List (List (List ℕ))) (header : List Described) → AreWide (rows_or_none (rows_under d below header))
  unfolding rows_under
  wide_under below header = go (is_complete d.columns header)
    where
      go : (b : Bool) → AreWide (rows_or_none
          (cond b (rows_from (kinds_of header) 1 below >>= λ rows. Ok (map (in_table_order d.columns header) rows)) (Err MissingColumn)))
      go true = wide_raw header (rows_from (kinds_of header) 1 below)
      go false = tt

  wide_named : (below : List (List (List ℕ))) (named : Result (List Described) SegmentFault)
      → AreWide (rows_or_none (named >>= rows_under d below))
  wide_named below (Ok header) = wide_under below header
  wide_named below (Err fault) = tt

  wide_records : (all : List (List (List ℕ))) → AreWide (rows_or_none (rows_of_records d all))
  unfolding rows_of_records
  wide_records [] = tt
  wide_records (header ∷ below) = wide_named below (named_each d.columns [] header)

  wide_content : (bytes : List ℕ) → AreWide (content_rows d bytes)
  unfolding rows_of
  wide_content bytes = go (nat_lt 67108864 (length bytes)) _
    where
      go : (b : Bool) (all : List (List (List ℕ))) → AreWide (rows_or_none (cond b (Err TooLong) (rows_of_records d all)))
      go true all = tt
      go false all = wide_records all

  both_wide : (xs ys : List Row) → AreWide xs → AreWide ys → AreWide (xs ++ ys)
  both_wide [] ys h k = k
  both_wide (x ∷ xs) ys h k = (h.0, both_wide xs ys h.1 k)

  wide_lives : (all : List (NameParts × List ℕ)) → AreWide (joined (map (λ e. content_rows d e.1) all))
  wide_lives [] = tt
  wide_lives (e ∷ all) = both_wide (content_rows d e.1) (joined (map (λ e. content_rows d e.1) all)) (wide_content e.1) (wide_lives all)

  joined_lives : (all : List (NameParts × List ℕ)) → joined (map (λ e. content_rows d e.1) all) ≡ map (λ row. row.cells)
      (flat_map (segment_rows d) all)
  joined_lives all = flat all ∙ table_is d all
    where
      flat : (all : List (NameParts × List ℕ)) → joined (map (λ e. content_rows d e.1) all) ≡ flat_map (named_rows d) all
      flat [] = refl
      flat ((n, bytes) ∷ all) = ap (λ l. content_rows d bytes ++ l) (flat all)

-- rows of the table are as wide as it has columns
pub live_wide : (s : DeclaredView) → AllByRecursion (λ row. length row ≡ length s.schema.columns) (joined (live_rows s))
live_wide s = wide_lives s.schema (lives s.view)

-- the rows of live segments, one segment after another, are the rows of the table
pub live_joined : (s : DeclaredView) → joined (live_rows s) ≡ rows_of_set s
live_joined s = joined_lives s.schema (lives s.view)

-- they do not depend on the runs that are kept
pub live_same : (old new : DeclaredView) → Becomes old old.view new → live_rows new ≡ live_rows old
live_same old new b = ap (λ d. map (λ e. content_rows d e.1) (lives new.view)) b.schema
    ∙ ap (λ v. map (λ e. content_rows old.schema e.1) (lives v)) b.view

pub rows_same : (old new : DeclaredView) → Becomes old old.view new → rows_of_set new ≡ rows_of_set old
rows_same old new b = sym (live_joined new) ∙ ap joined (live_same old new b) ∙ live_joined old

-- what is known stays through two changes
pub same_then : (old mid new : DeclaredView) → Becomes old old.view mid → Becomes mid mid.view new → Becomes old old.view new
same_then old mid new a b = record { schema = b.schema ∙ a.schema; view = b.view ∙ a.view }

-- the segments that are lent have the rows of the live ones
pub lent_rows_are : (s : DeclaredView) (segments : List (NameParts × Content)) → AreLivesOf s segments
    → map (λ e. e.1.rows) segments ≡ live_rows s
lent_rows_are s segments are = each segments are.read ∙ ap (map (λ e. content_rows s.schema e.1)) are.known
  where
    each : (segments : List (NameParts × Content)) → AllByRecursion (λ e. IsReadBy s.schema e.1) segments
        → map (λ e. e.1.rows) segments ≡ map (λ (e : NameParts × List ℕ). content_rows s.schema e.1)
        (map (λ (e : NameParts × Content). (e.0, e.1.bytes)) segments)
    each [] all = refl
    each (e ∷ more) all = ap (λ r. r ∷ map (λ e. e.1.rows) more) (sym (ap rows_or_none all.0.rows))
        ∙ ap (λ l. content_rows s.schema e.1.bytes ∷ l) (each more all.1)
