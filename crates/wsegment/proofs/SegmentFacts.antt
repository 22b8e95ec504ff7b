-- The rows of a segment, by what was found out about its bytes.
use Rattle.std.proofs.Common.{◌≡◌, ◌∙◌, ◌<◌, ◌≤◌, ◌⊎◌, inl, inr, true, false, ℕ, List, []}
use Rattle.std.proofs.Common.{◌∷◌, length, map, Result, Some, Ok, Err, refl, sym, ap}
use Rattle.std.proofs.lemmas.Bool.{le-ltb, lt-ltb}
use Rattle.std.proofs.lemmas.List.{length-map}
use Rattle.csv.specs.Reading.{default_config, records, strip_bom}
use Rattle.wvalues.specs.Meaning.{Meaning}
use Rattle.wsegment.specs.Cells.{rows_from}
use Rattle.wsegment.specs.Declaration.{Declaration, Described}
use Rattle.wsegment.specs.Header.{field_of, in_table_order, is_complete, kinds_of, named_each}
use Rattle.wsegment.specs.Judging.{counted}
use Rattle.wsegment.specs.Kept.{in_order_of}
use Rattle.wsegment.specs.Outcome.{◌>>=◌, Fails}
use Rattle.wsegment.specs.Rows.{rows_of, rows_of_records, rows_under}
use Rattle.wsegment.specs.declared.fault.SegmentFault.{SegmentFault}
use Rattle.wsegment.specs.declared.fault.SegmentFault.TheVariants as faults
use Rattle.wsegment.proofs.HeaderFacts.{in-order}

pub rows-long : (d : Declaration) (bytes : List ℕ) → 67108864 < length bytes → rows_of d bytes ≡ Err faults.TooLong
unfolding rows_of
rows-long d bytes long = rw (lt-ltb 67108864 (length bytes) long) refl

rows-short : (d : Declaration) (bytes : List ℕ) → length bytes ≤ 67108864
    → rows_of d bytes ≡ rows_of_records d (records default_config (strip_bom bytes))
unfolding rows_of
rows-short d bytes short = rw (le-ltb 67108864 (length bytes) short) refl

rows-none : (d : Declaration) (bytes : List ℕ) → length bytes ≤ 67108864 → records default_config (strip_bom bytes) ≡ []
    → rows_of d bytes ≡ Err faults.NoHeader
unfolding rows_of_records
rows-none d bytes short e = rows-short d bytes short ∙ rw e refl

pub stop-first : (fault : SegmentFault) (d : Declaration) (bytes : List ℕ) → length bytes ≤ 67108864
    → (left : List (List (List ℕ))) → left ≡ records default_config (strip_bom bytes)
    → (fault ≡ faults.NoMemory) ⊎ ((fault ≡ faults.NoHeader) × (left ≡ [])) → Fails fault (rows_of d bytes)
stop-first fault d bytes short left all (inl memory) = inl memory
stop-first fault d bytes short left all (inr none) = inr (rw none.0 (rows-none d bytes short (sym all ∙ none.1)))

-- bytes with a header, and the records below it
pub record IsHeaded (d : Declaration) (bytes : List ℕ) (header : List (List ℕ)) (below : List (List (List ℕ))) : Type 0 where
  pub short : length bytes ≤ 67108864
  pub all : records default_config (strip_bom bytes) ≡ header ∷ below

pub stop-header : (fault : SegmentFault) (d : Declaration) (bytes : List ℕ) (header : List (List ℕ))
    (below : List (List (List ℕ))) → IsHeaded d bytes header below
    → Fails fault (named_each d.columns [] header) → Fails fault (rows_of d bytes)
unfolding rows_of_records
stop-header fault d bytes header below h (inl memory) = inl memory
stop-header fault d bytes header below h (inr failed) = inr (rows-short d bytes h.short ∙ rw (h.all, failed) refl)

go-header : (d : Declaration) (bytes : List ℕ) (header : List (List ℕ)) (below : List (List (List ℕ)))
    (found : List Described) → IsHeaded d bytes header below
    → named_each d.columns [] header ≡ Ok found → rows_of d bytes ≡ rows_under d below found
unfolding rows_of_records
go-header d bytes header below found h p = rows-short d bytes h.short ∙ rw (h.all, p) refl

pub stop-fields : (fault : SegmentFault) (d : Declaration) (bytes : List ℕ) (header : List (List ℕ))
    (below : List (List (List ℕ))) (found : List Described) → IsHeaded d bytes header below
    → named_each d.columns [] header ≡ Ok found → (fault ≡ faults.NoMemory) ⊎ ((fault ≡ faults.MissingColumn)
    × (is_complete d.columns found ≡ false)) → Fails fault (rows_of d bytes)
unfolding rows_under
stop-fields fault d bytes header below found h p (inl memory) = inl memory
stop-fields fault d bytes header below found h p (inr missing) =
    inr (go-header d bytes header below found h p ∙ rw (missing.0, missing.1) refl)

-- rows in the order of the table's columns are rows in the order of their fields
order-same : (found : List Described) (columns : List Described) (fields : List ℕ) (read : Result (List (List Meaning))
    SegmentFault) → map Some fields ≡ map (field_of found) columns
    → (read >>= λ rows. Ok (map (in_table_order columns found) rows)) ≡ in_order_of fields read
order-same found columns fields (Ok rows) e = ap (λ (found : List (List Meaning)). Ok found) (in-order found columns fields rows e)
order-same found columns fields (Err fault) e = refl

rows-ordered : (d : Declaration) (bytes : List ℕ) (header : List (List ℕ)) (below : List (List (List ℕ)))
    (found : List Described) (fields : List ℕ) → IsHeaded d bytes header below
    → named_each d.columns [] header ≡ Ok found → is_complete d.columns found ≡ true → map Some fields ≡ map (field_of found) d.columns
    → rows_of d bytes ≡ in_order_of fields (rows_from (kinds_of found) 1 below)
unfolding rows_under
rows-ordered d bytes header below found fields h p complete e =
    go-header d bytes header below found h p ∙ rw complete (order-same found d.columns fields (rows_from (kinds_of found) 1 below) e)

pub stop-rows : (fault : SegmentFault) (d : Declaration) (bytes : List ℕ) (header : List (List ℕ))
    (below : List (List (List ℕ))) (found : List Described) (fields : List ℕ) → IsHeaded d bytes header below
    → named_each d.columns [] header ≡ Ok found → is_complete d.columns found ≡ true
    → map Some fields ≡ map (field_of found) d.columns → Fails fault (in_order_of fields (rows_from (kinds_of found) 1 below))
    → Fails fault (rows_of d bytes)
stop-rows fault d bytes header below found fields h p complete e (inl memory) = inl memory
stop-rows fault d bytes header below found fields h p complete e (inr failed) =
    inr (rows-ordered d bytes header below found fields h p complete e ∙ failed)

pub all-rows : (d : Declaration) (bytes : List ℕ) (header : List (List ℕ)) (below : List (List (List ℕ)))
    (found : List Described) (fields : List ℕ) (rows : List (List Meaning)) → IsHeaded d bytes header below
    → named_each d.columns [] header ≡ Ok found → is_complete d.columns found ≡ true
    → map Some fields ≡ map (field_of found) d.columns → in_order_of fields (rows_from (kinds_of found) 1 below) ≡ Ok rows
    → rows_of d bytes ≡ Ok rows
all-rows d bytes header below found fields rows h p complete e all = rows-ordered d bytes header below found fields h p complete e ∙ all

pub stop-missing : (d : Declaration) (bytes : List ℕ) (header : List (List ℕ)) (below : List (List (List ℕ)))
    (found : List Described) → IsHeaded d bytes header below
    → named_each d.columns [] header ≡ Ok found → is_complete d.columns found ≡ false → rows_of d bytes ≡ Err faults.MissingColumn
unfolding rows_under
stop-missing d bytes header below found h p missing = go-header d bytes header below found h p ∙ rw missing refl

-- in whatever order their cells stand, rows are as many
counted-each : (f : List Meaning → List Meaning) (read : Result (List (List Meaning)) SegmentFault)
    → counted (read >>= λ rows. Ok (map f rows)) ≡ counted read
counted-each f (Ok rows) = ap (λ (n : ℕ). Ok n) (length-map rows f)
counted-each f (Err fault) = refl

refused-each : (fault : SegmentFault) (f : List Meaning → List Meaning) (read : Result (List (List Meaning)) SegmentFault)
    → Fails fault (counted read) → Fails fault (read >>= λ rows. Ok (map f rows))
refused-each fault f read (inl memory) = inl memory
refused-each fault f (Ok rows) (inr e) = cc e
refused-each fault f (Err other) (inr e) = let same : other ≡ fault = cc in inr (ap (λ (g : SegmentFault). Err g) same)

-- the number of rows, and a fault of the rows that are counted
pub rows-counted : (d : Declaration) (bytes : List ℕ) (header : List (List ℕ)) (below : List (List (List ℕ)))
    (found : List Described) → IsHeaded d bytes header below
    → named_each d.columns [] header ≡ Ok found → is_complete d.columns found ≡ true
    → counted (rows_of d bytes) ≡ counted (rows_from (kinds_of found) 1 below)
unfolding rows_under
rows-counted d bytes header below found h p complete =
    ap (λ (read : Result (List (List Meaning)) SegmentFault). counted read) (go-header d bytes header below found h p)
    ∙ rw complete (counted-each (in_table_order d.columns found) (rows_from (kinds_of found) 1 below))

pub stop-counted : (fault : SegmentFault) (d : Declaration) (bytes : List ℕ) (header : List (List ℕ))
    (below : List (List (List ℕ))) (found : List Described) → IsHeaded d bytes header below
    → named_each d.columns [] header ≡ Ok found → is_complete d.columns found ≡ true
    → Fails fault (counted (rows_from (kinds_of found) 1 below)) → Fails fault (rows_of d bytes)
unfolding rows_under
stop-counted fault d bytes header below found h p complete failed =
    rw (go-header d bytes header below found h p, complete) (refused-each fault (in_table_order d.columns found)
    (rows_from (kinds_of found) 1 below) failed)
