-- The definition of a segment's rows never speaks of memory.
use Rattle.std.proofs.Common.{◌≡◌, ◌++◌, ◌==◌, ◌+◌, Bool, true, false, cond, ℕ, ℤ, List, []}
use Rattle.std.proofs.Common.{◌∷◌, length, map, Option, Some, None, Result, Ok, Err, ap}
use Rattle.std.specs.List.{list_any}
use Rattle.std.specs.Prelude.{nat_lt}
use Rattle.std.specs.Str.{bytes_eq, is_utf8}
use Rattle.csv.specs.Reading.{default_config, records, strip_bom}
use Rattle.wvalues.specs.Meaning.{Null}
use Rattle.wsegment.specs.Cells.{cell_of, cells_of, number_cell, row_of, rows_from, typed}
use Rattle.wsegment.specs.Declaration.{Declaration, Described}
use Rattle.wsegment.specs.Header.{column_named, fresh, in_table_order, is_complete, kinds_of, named, named_each}
use Rattle.wsegment.specs.Integer.{integer_of}
use Rattle.wsegment.specs.Outcome.{◌>>=◌}
use Rattle.wsegment.specs.Rows.{rows_of, rows_of_records, rows_under}
use Rattle.wsegment.specs.declared.kind.Kind.{Kind}
use Rattle.wsegment.specs.declared.kind.Kind.TheVariants as kinds
use Rattle.wsegment.specs.declared.fault.SegmentFault.{SegmentFault}
use Rattle.wsegment.specs.declared.fault.SegmentFault.TheVariants as faults

-- memory did not run out
abbrev Judges : {A : Type 0} → Result A SegmentFault → Type 0
Judges read = read ≡ Err faults.NoMemory → ⊥

judges-ok : {A : Type 0} (x : A) → Judges (Ok x)
judges-ok x e = cc e

judges-next : {A B : Type 0} (read : Result A SegmentFault) (f : A → Result B SegmentFault) → Judges read
    → ((x : A) → Judges (f x)) → Judges (read >>= f)
judges-next (Ok x) f h k e = k x e
judges-next {A} (Err fault) f h k e = let same : fault ≡ faults.NoMemory = cc e in h (ap (λ (fault : SegmentFault). Err fault) same)

judges-if : {A : Type 0} (b : Bool) (x y : Result A SegmentFault) → Judges x → Judges y → Judges (cond b x y)
judges-if true x y h k = h
judges-if false x y h k = k

judges-number : (row : ℕ) (number : Option ℤ) → Judges (number_cell row number)
judges-number row None e = cc e
judges-number row (Some n) e = cc e

judges-typed : (row : ℕ) (kind : Kind) (text : List ℕ) → Judges (typed row kind text)
judges-typed row kinds.Text text e = cc e
judges-typed row kinds.Integer text e = judges-number row (integer_of text) e

judges-cell : (row : ℕ) (kind : Kind) (field : List ℕ) → Judges (cell_of row kind field)
unfolding cell_of
judges-cell row kind field =
    judges-if (is_utf8 field) (cond (length field == 0) (Ok Null) (typed row kind field)) (Err (faults.RowNotUtf8 row))
    (judges-if (length field == 0) (Ok Null) (typed row kind field) (judges-ok Null) (judges-typed row kind field))
    (λ e. cc e)

judges-cells : (row : ℕ) (ks : List Kind) (fs : List (List ℕ)) → Judges (cells_of row ks fs)
unfolding cells_of
judges-cells row [] fs = judges-ok []
judges-cells row (k ∷ ks) [] = judges-ok []
judges-cells row (k ∷ ks) (f ∷ fs) =
    judges-next (cell_of row k f) (λ x. cells_of row ks fs >>= λ xs. Ok (x ∷ xs)) (judges-cell row k f)
    (λ x. judges-next (cells_of row ks fs) (λ xs. Ok (x ∷ xs)) (judges-cells row ks fs) (λ xs. judges-ok (x ∷ xs)))

judges-row : (row : ℕ) (ks : List Kind) (fs : List (List ℕ)) → Judges (row_of row ks fs)
unfolding row_of
judges-row row ks fs = judges-if (length fs == length ks) (cells_of row ks fs) (Err (faults.RowLength row))
    (judges-cells row ks fs) (λ e. cc e)

judges-rows : (ks : List Kind) (row : ℕ) (rs : List (List (List ℕ))) → Judges (rows_from ks row rs)
unfolding rows_from
judges-rows ks row [] = judges-ok []
judges-rows ks row (r ∷ rs) =
    judges-if (nat_lt 1000000 row) (Err faults.TooManyRows) (row_of row ks r >>= λ x. rows_from ks (row + 1) rs >>= λ xs.
    Ok (x ∷ xs)) (λ e. cc e)
    (judges-next (row_of row ks r) (λ x. rows_from ks (row + 1) rs >>= λ xs. Ok (x ∷ xs)) (judges-row row ks r)
    (λ x. judges-next (rows_from ks (row + 1) rs) (λ xs. Ok (x ∷ xs)) (judges-rows ks (row + 1) rs) (λ xs. judges-ok (x ∷ xs))))

judges-fresh : (earlier : List Described) (column : Option Described) → Judges (fresh earlier column)
judges-fresh earlier None = λ e. cc e
judges-fresh earlier (Some c) = judges-if (list_any (λ other. bytes_eq other.name c.name) earlier)
    (Err faults.RepeatedColumn) (Ok c) (λ e. cc e) (judges-ok c)

judges-named : (columns earlier : List Described) (field : List ℕ) → Judges (named columns earlier field)
unfolding named
judges-named columns earlier field =
    judges-if (is_utf8 field) (fresh earlier (column_named field columns)) (Err faults.HeaderNotUtf8)
    (judges-fresh earlier (column_named field columns)) (λ e. cc e)

judges-header : (columns earlier : List Described) (fs : List (List ℕ)) → Judges (named_each columns earlier fs)
unfolding named_each
judges-header columns earlier [] = judges-ok []
judges-header columns earlier (f ∷ fs) =
    judges-next (named columns earlier f) (λ c. named_each columns (earlier ++ c ∷ []) fs >>= λ cs. Ok (c ∷ cs))
    (judges-named columns earlier f)
    (λ c. judges-next (named_each columns (earlier ++ c ∷ []) fs) (λ cs. Ok (c ∷ cs))
    (judges-header columns (earlier ++ c ∷ []) fs) (λ cs. judges-ok (c ∷ cs)))

judges-under : (d : Declaration) (below : List (List (List ℕ))) (header : List Described) → Judges (rows_under d below header)
unfolding rows_under
judges-under d below header =
    judges-if (is_complete d.columns header) (rows_from (kinds_of header) 1 below >>= λ rows.
    Ok (map (in_table_order d.columns header) rows)) (Err faults.MissingColumn)
    (judges-next (rows_from (kinds_of header) 1 below) (λ rows. Ok (map (in_table_order d.columns header) rows))
    (judges-rows (kinds_of header) 1 below) (λ rows. judges-ok (map (in_table_order d.columns header) rows)))
    (λ e. cc e)

judges-records : (d : Declaration) (rs : List (List (List ℕ))) → Judges (rows_of_records d rs)
unfolding rows_of_records
judges-records d [] = λ e. cc e
judges-records d (header ∷ below) = judges-next (named_each d.columns [] header) (rows_under d below)
    (judges-header d.columns [] header) (judges-under d below)

pub judges : (d : Declaration) (bytes : List ℕ) → rows_of d bytes ≡ Err faults.NoMemory → ⊥
unfolding rows_of
judges d bytes =
    judges-if (nat_lt 67108864 (length bytes)) (Err faults.TooLong)
    (rows_of_records d (records default_config (strip_bom bytes))) (λ e. cc e)
    (judges-records d (records default_config (strip_bom bytes)))
