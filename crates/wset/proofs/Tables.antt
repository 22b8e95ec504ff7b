-- What a list says of entries that are read by the declaration, and their live contents.
use Rattle.std.proofs.Common.{◌≡◌, ℕ, zero, suc, List, [], ◌∷◌, map, length, IsOk, arith, subst, refl, sym, ap, ◌∙◌}
use Rattle.std.specs.List.{All, filter_map}
use Rattle.wsegment.specs.Declaration.{Declaration}
use Rattle.wsegment.specs.Rows.{Content, rows_of}
use Rattle.wvalues.specs.Names.{NameParts}
use Rattle.wset.specs.Views.{live_of}
use Rattle.wset.specs.Tables.{rows_or_none, content_rows}
use Rattle.wset.specs.Listing.{listed, known_row_count}
use Rattle.wentries.specs.Holding.{IsReadBy, IsHeldBy, known_of, row_count_of}
use Rattle.wentries.specs.Entries.{AllHeldBy, known_entry, known_entries, listing_of}
use Rattle.wentries.specs.declared.held.Held.{Held}
use Rattle.wentries.specs.declared.held.Held.TheVariants as held
use Rattle.wentries.specs.declared.entries.Entry.{Entry}

read_rows : (d : Declaration) (content : Content) → IsReadBy d content → content_rows d content.bytes ≡ content.rows
read_rows d content h = ap rows_or_none h.rows

held_row_count : (d : Declaration) (h : Held) → IsHeldBy d h → row_count_of h ≡ known_row_count d (known_of h)
held_row_count d (held.Live kept) h = ap length (sym (read_rows d kept.content h))
held_row_count d held.Disputed h = refl
held_row_count d held.Retired h = refl
held_row_count d held.Floor h = refl

pub listed_entries : (d : Declaration) (es : List Entry) → AllHeldBy d es → map listing_of es ≡ map (listed d) (known_entries es)
listed_entries d [] all = refl
listed_entries d (e ∷ es) all =
    ap (λ n. record (listed d (known_entry e)) { rows = n } ∷ map listing_of es) (held_row_count d e.held all.0)
    ∙ ap (λ l. listed d (known_entry e) ∷ l) (listed_entries d es all.1)

-- a live content before others
ok_first : (d : Declaration) (x : NameParts × List ℕ) (xs : List (NameParts × List ℕ)) → IsOk (rows_of d x.1)
    → All (λ e. IsOk (rows_of d e.1)) xs → All (λ e. IsOk (rows_of d e.1)) (x ∷ xs)
ok_first d x xs one rest zero e lt = one
ok_first d x xs one rest (suc k) e lt = rest k e (omega arith)

-- each live content is a segment by the declaration
pub read_lives : (d : Declaration) (es : List Entry) → AllHeldBy d es
    → All (λ e. IsOk (rows_of d e.1)) (filter_map live_of (known_entries es))
read_lives d [] all = λ k e lt. absurd (omega arith)
read_lives d (x ∷ es) all = by x.name x.held all.0 (read_lives d es all.1)
  where
    by : (n : NameParts) (h : Held) → IsHeldBy d h → All (λ e. IsOk (rows_of d e.1)) (filter_map live_of (known_entries es))
        → All (λ e. IsOk (rows_of d e.1)) (filter_map live_of ((n, known_of h) ∷ known_entries es))
    by n (held.Live kept) h rest = ok_first d (n, kept.content.bytes) (filter_map live_of (known_entries es))
        (subst IsOk (sym h.rows) refl) rest
    by n held.Disputed h rest = rest
    by n held.Retired h rest = rest
    by n held.Floor h rest = rest
