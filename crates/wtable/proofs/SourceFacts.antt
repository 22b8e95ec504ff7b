-- The rows of segments, one after another, are the table.
use Rattle.std.proofs.Common.{◌≡◌, ℕ, ◌+◌, ◌≤◌, List, [], ◌∷◌, ◌++◌, length, length-append, map, arith}
use Rattle.std.proofs.Common.{refl, sym, ap, ◌∙◌, append_assoc}
use Rattle.std.specs.List.{enumerate_from, flat_map, AllByRecursion}
use Rattle.std.proofs.lemmas.List.{map-append}
use Rattle.wvalues.specs.Names.{NameParts}
use Rattle.wvalues.specs.Meaning.{Meaning}
use Rattle.wsegment.specs.Declaration.{Declaration}
use Rattle.wsegment.specs.Rows.{Content}
use Rattle.wset.specs.Views.{lives}
use Rattle.wset.specs.Sets.{DeclaredView}
use Rattle.wentries.specs.Holding.{IsReadBy}
use Rattle.wset.specs.Lending.{AreLivesOf}
use Rattle.wtable.specs.Tables.{rows_of_set}
use Rattle.wset.specs.Tables.{TableRow, content_rows, rows_or_none, segment_rows}

-- the rows of a live name
abbrev pub live_rows : Declaration → (NameParts × List ℕ) → List (List Meaning)
live_rows d (n, bytes) = content_rows d bytes

cells_given : (n : NameParts) (k : ℕ) (rows : List (List Meaning))
    → map (λ (r : TableRow). r.cells) (map (λ (r : ℕ × List Meaning). record { name = n; place = r.0; cells = r.1 })
    (enumerate_from k rows)) ≡ rows
cells_given n k [] = refl
cells_given n k (row ∷ rows) = ap (λ l. row ∷ l) (cells_given n (k + 1) rows)

-- the rows of the table are those of the live names
pub table_is : (d : Declaration) (all : List (NameParts × List ℕ))
    → flat_map (live_rows d) all ≡ map (λ (r : TableRow). r.cells) (flat_map (segment_rows d) all)
table_is d [] = refl
table_is d ((n, bytes) ∷ all) =
    ap (λ l. l ++ flat_map (live_rows d) all) (sym (cells_given n 0 (content_rows d bytes)))
    ∙ ap (λ l. map (λ (r : TableRow). r.cells) (segment_rows d (n, bytes)) ++ l) (table_is d all)
    ∙ sym (map-append (λ (r : TableRow). r.cells) (segment_rows d (n, bytes)) (flat_map (segment_rows d) all))

-- the segments of live names have the rows of the table
each_referenced : (d : Declaration) (segments : List (NameParts × Content)) → AllByRecursion (λ e. IsReadBy d e.1) segments
    → flat_map (λ e. e.1.rows) segments ≡ flat_map (live_rows d) (map (λ e. (e.0, e.1.bytes)) segments)
each_referenced d [] all = refl
each_referenced d ((n, content) ∷ segments) all =
    ap (λ l. l ++ flat_map (λ e. e.1.rows) segments) (sym (ap rows_or_none all.0.rows))
    ∙ ap (λ l. live_rows d (n, content.bytes) ++ l) (each_referenced d segments all.1)

pub set_rows : (s : DeclaredView) (segments : List (NameParts × Content)) → AreLivesOf s segments
    → flat_map (λ e. e.1.rows) segments ≡ rows_of_set s
set_rows s segments are = each_referenced s.schema segments are.read ∙ ap (flat_map (live_rows s.schema)) are.known
    ∙ table_is s.schema (lives s.view)

-- the rows of one segment more
pub more_rows : (old now all : List (List Meaning)) (segments left : List (NameParts × Content)) (e : NameParts × Content)
    → segments ≡ e ∷ left → old ++ flat_map (λ e. e.1.rows) segments ≡ all → now ≡ old ++ e.1.rows
    → now ++ flat_map (λ e. e.1.rows) left ≡ all
more_rows old now all segments left e is before more =
    ap (λ l. l ++ flat_map (λ e. e.1.rows) left) more ∙ append_assoc old e.1.rows (flat_map (λ e. e.1.rows) left)
    ∙ ap (λ l. old ++ flat_map (λ e. e.1.rows) l) (sym is) ∙ before

-- the rows that were gone over are no more than all
pub gone_within : (old now all : List (List Meaning)) (segments left : List (NameParts × Content)) (e : NameParts × Content)
    → segments ≡ e ∷ left → old ++ flat_map (λ e. e.1.rows) segments ≡ all → now ≡ old ++ e.1.rows → length now ≤ length all
gone_within old now all segments left e is before more =
    omega (arith, ap length (more_rows old now all segments left e is before more), length-append now (flat_map (λ e. e.1.rows) left))
