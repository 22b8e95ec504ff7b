-- Making runs leaves what is known as it is.
use Rattle.std.proofs.Common.{◌≡◌, ℕ, zero, suc, ◌<◌, List, [], ◌∷◌, ◌++◌, length, map, take, refl, sym, ap, subst, ◌∙◌, Option, Some, None}
use Rattle.std.specs.Prelude.{All, IfSome, T, ⊤, ◌^◌}
use Rattle.std.specs.List.{AllByRecursion, IsAmong, filter_map}
use Rattle.std.proofs.lemmas.List.{map-append}
use Rattle.std.proofs.lemmas.List.Elements.{All-append, All-nil, recursion_from_All}
use Rattle.wvalues.specs.declared.key.SortKey.{SortKey}
use Rattle.wvalues.specs.Names.{NameParts, name_cmp}
use Rattle.wsegment.specs.Declaration.{Declaration}
use Rattle.wsegment.specs.Rows.{Content}
use Rattle.wentries.specs.Knowledge.{Known, Live, Disputed, Retired, Floor}
use Rattle.wset.specs.Views.{live_of, lives}
use Rattle.wset.specs.Sets.{Becomes, DeclaredView}
use Rattle.wentries.specs.Holding.{IsReadBy, IsHeldBy, known_of}
use Rattle.wset.specs.Tables.{content_rows, rows_or_none}
use Rattle.wset.specs.Storing.{declared_view, IsOrderly}
use Rattle.wset.specs.declared.set.SegmentSet.TheInside.{Inside}
use Rattle.wset.proofs.Maps.{lives-view}
use Rattle.std.specs.FinMap.{is_sorted}
use Rattle.wentries.specs.Entries.{AllHeldBy, AreSettled, known_entry, known_entries}
use Rattle.wentries.specs.Blocks.{flat}
use Rattle.wset.specs.KeptOrders.{IsNoteOf, IsOrderOf}
use Rattle.wset.specs.Running.{AreStarts, live_rows}
use Rattle.wentries.specs.Keeping.{AreAdded, HeldHasRun, orders_in, plain_block, plain_entry, plain_held, rows_in}
use Rattle.wentries.specs.declared.entries.Entry.{Entry}
use Rattle.wentries.specs.declared.held.Held.{Held}
use Rattle.wentries.specs.declared.held.Held.TheVariants as held
use Rattle.wentries.proofs.AddedFacts.{added_none}
use Rattle.wentries.proofs.Lives.{count_same, plain_live}
use Rattle.wentries.proofs.Lists.{same_length}

-- what is seen of all entries is what is seen of each block
pub flat_plain : (xs ys : List (List Entry)) → map plain_block xs ≡ map plain_block ys
    → map plain_entry (flat xs) ≡ map plain_entry (flat ys)
flat_plain [] [] e = refl
flat_plain [] (y ∷ ys) e = absurd (cc)
flat_plain (x ∷ xs) [] e = absurd (cc)
flat_plain (x ∷ xs) (y ∷ ys) e =
    let h : plain_block x ≡ plain_block y = cc in
    let t : map plain_block xs ≡ map plain_block ys = cc in
    map-append plain_entry x (flat xs) ∙ ap (λ l. l ++ map plain_entry (flat xs)) h ∙ ap (λ l. map plain_entry y ++ l)
    (flat_plain xs ys t) ∙ sym (map-append plain_entry y (flat ys))

take_plain : (xs ys : List (List Entry)) (k : ℕ) → map plain_block xs ≡ map plain_block ys
    → map plain_block (take k xs) ≡ map plain_block (take k ys)
take_plain xs ys zero e = refl
take_plain [] [] (suc k) e = refl
take_plain [] (y ∷ ys) (suc k) e = absurd (cc)
take_plain (x ∷ xs) [] (suc k) e = absurd (cc)
take_plain (x ∷ xs) (y ∷ ys) (suc k) e =
    let h : plain_block x ≡ plain_block y = cc in
    let t : map plain_block xs ≡ map plain_block ys = cc in
    ap (λ b. b ∷ map plain_block (take k xs)) h ∙ ap (λ l. plain_block y ∷ l) (take_plain xs ys k t)

-- and the same numbers of them stand before each block
pub starts_same : (xs ys : List (List Entry)) (starts : List ℕ) → map plain_block ys ≡ map plain_block xs
    → AreStarts xs starts → AreStarts ys starts
starts_same xs ys starts e h k lt = h k lt
    ∙ sym (count_same (flat (take k ys)) (flat (take k xs)) (flat_plain (take k ys) (take k xs) (take_plain ys xs k e)))

abbrev told : NameParts × Option (Option (Option Content)) → NameParts × Known
told (n, None) = (n, Floor)
told (n, Some None) = (n, Retired)
told (n, Some (Some None)) = (n, Disputed)
told (n, Some (Some (Some c))) = (n, Live c.bytes)

told_entry : (n : NameParts) (h : Held) → told (n, plain_held h) ≡ (n, known_of h)
told_entry n (held.Live kept) = refl
told_entry n held.Disputed = refl
told_entry n held.Retired = refl
told_entry n held.Floor = refl

told_entries : (es : List Entry) → map told (map plain_entry es) ≡ known_entries es
told_entries [] = refl
told_entries (e ∷ es) = ap (λ k. k ∷ map told (map plain_entry es)) (told_entry e.name e.held) ∙ ap (λ l. known_entry e ∷ l)
    (told_entries es)

-- what is known is the same
pub known_same : (a b : List Entry) → map plain_entry a ≡ map plain_entry b → known_entries a ≡ known_entries b
known_same a b e = sym (told_entries a) ∙ ap (map told) e ∙ told_entries b

abbrev IsPlainlyRead : Declaration → Option (Option (Option Content)) → Type 0
IsPlainlyRead d None = ⊤
IsPlainlyRead d (Some None) = ⊤
IsPlainlyRead d (Some (Some None)) = ⊤
IsPlainlyRead d (Some (Some (Some c))) = IsReadBy d c

there : (d : Declaration) (h : Held) → IsHeldBy d h → IsPlainlyRead d (plain_held h)
there d (held.Live kept) r = r
there d held.Disputed r = r
there d held.Retired r = r
there d held.Floor r = r

back : (d : Declaration) (h : Held) → IsPlainlyRead d (plain_held h) → IsHeldBy d h
back d (held.Live kept) r = r
back d held.Disputed r = r
back d held.Retired r = r
back d held.Floor r = r

-- and was read by the same declaration
pub read_same : (d : Declaration) (a b : List Entry) → map plain_entry a ≡ map plain_entry b → AllHeldBy d b → AllHeldBy d a
read_same d [] b e all = tt
read_same d (x ∷ xs) [] e all = absurd (cc)
read_same d (x ∷ xs) (y ∷ ys) e all =
    let h : plain_entry x ≡ plain_entry y = cc in
    let t : map plain_entry xs ≡ map plain_entry ys = cc in
    (back d x.held (subst (IsPlainlyRead d) (sym (ap (λ p. p.1) h)) (there d y.held all.0)), read_same d xs ys t all.1)

plain_rows : (es : List Entry) → map (λ c. c.rows) (filter_map plain_live (map plain_entry es)) ≡ rows_in es
plain_rows [] = refl
plain_rows (e ∷ es) = by e.name e.held (plain_rows es)
  where
    by : (n : NameParts) (h : Held) → map (λ c. c.rows) (filter_map plain_live (map plain_entry es)) ≡ rows_in es
        → map (λ c. c.rows) (filter_map plain_live ((n, plain_held h) ∷ map plain_entry es)) ≡ rows_in (record { name = n; held = h } ∷ es)
    by n (held.Live kept) rest = ap (λ l. kept.content.rows ∷ l) rest
    by n held.Disputed rest = rest
    by n held.Retired rest = rest
    by n held.Floor rest = rest

-- the rows are the same
rows_same : (a b : List Entry) → map plain_entry a ≡ map plain_entry b → rows_in a ≡ rows_in b
rows_same a b e = sym (plain_rows a) ∙ ap (λ l. map (λ c. c.rows) (filter_map plain_live l)) e ∙ plain_rows b

-- a set that holds the same, with whatever runs, is as orderly
pub orderly_same : (a b : Inside) → b.schema ≡ a.schema → b.count ≡ a.count → b.starts.items ≡ a.starts.items
    → b.order ≡ a.order → b.differing ≡ a.differing → map plain_block b.blocks.items ≡ map plain_block a.blocks.items
    → IsOrderly a → IsOrderly b
orderly_same a b schema count starts order note plain h =
    let bs = b.blocks.items in
    let old = a.blocks.items in
    let same = flat_plain bs old plain in
    let known = known_same (flat bs) (flat old) same in
    record {
      rising = subst (λ es. T (is_sorted name_cmp es)) (sym known) h.rising;
      settled = subst AreSettled (sym known) h.settled;
      counted = count ∙ h.counted ∙ sym (same_length plain_entry (flat bs) (flat old) same);
      few = subst (λ n. n < 2 ^ 64) (sym count) h.few;
      read = subst (λ d. AllHeldBy d (flat bs)) (sym schema) (read_same a.schema (flat bs) (flat old) same h.read);
      placed = ap length starts ∙ h.placed ∙ sym (same_length plain_block bs old plain);
      starts = subst (AreStarts bs) (sym starts) (starts_same old bs a.starts.items plain h.starts);
      ordered = subst (λ o. IfSome o (IsOrderOf (rows_in (flat bs)))) (sym order) (subst (λ l. IfSome a.order (IsOrderOf l))
          (sym (rows_same (flat bs) (flat old) same)) h.ordered);
      noted = subst (λ o. IfSome o (IsNoteOf (rows_in (flat bs)))) (sym note) (subst (λ l. IfSome a.differing (IsNoteOf l))
          (sym (rows_same (flat bs) (flat old) same)) h.noted);
    }

run_among : (keys : List SortKey) (es : List Entry) → AllByRecursion (λ e. HeldHasRun keys e.held) es
    → AllByRecursion (λ o. IsAmong o keys) (orders_in es)
run_among keys [] all = tt
run_among keys (e ∷ es) all = by e.name e.held all.0 (run_among keys es all.1)
  where
    by : (n : NameParts) (h : Held) → HeldHasRun keys h → AllByRecursion (λ o. IsAmong o keys) (orders_in es)
        → AllByRecursion (λ o. IsAmong o keys) (orders_in (record { name = n; held = h } ∷ es))
    by n (held.Live kept) one rest = (one, rest)
    by n held.Disputed one rest = rest
    by n held.Retired one rest = rest
    by n held.Floor one rest = rest

all_flat : (P : Entry → Type 0) (bs : List (List Entry)) → AllByRecursion (All P) bs → All P (flat bs)
all_flat P [] all = All-nil P
all_flat P (b ∷ bs) all = All-append P b (flat bs) all.0 (all_flat P bs all.1)

-- each live segment has the run
pub all_have : (keys : List SortKey) (bs : List (List Entry)) → All (All (λ e. HeldHasRun keys e.held)) bs
    → AllByRecursion (λ o. IsAmong o keys) (orders_in (flat bs))
all_have keys bs all =
    run_among keys (flat bs) (recursion_from_All (λ e. HeldHasRun keys e.held) (flat bs)
    (all_flat (λ e. HeldHasRun keys e.held) bs (recursion_from_All (All (λ e. HeldHasRun keys e.held)) bs all)))

-- the rows of entries are those of the live contents
rows_told : (d : Declaration) (es : List Entry) → AllHeldBy d es
    → rows_in es ≡ map (λ e. content_rows d e.1) (filter_map live_of (known_entries es))
rows_told d [] all = refl
rows_told d (e ∷ es) all = by e.name e.held all.0 (rows_told d es all.1)
  where
    by : (n : NameParts) (h : Held) → IsHeldBy d h
        → rows_in es ≡ map (λ e. content_rows d e.1) (filter_map live_of (known_entries es))
        → rows_in (record { name = n; held = h } ∷ es) ≡ map (λ e. content_rows d e.1)
        (filter_map live_of ((n, known_of h) ∷ known_entries es))
    by n (held.Live kept) read rest = ap (λ r. r ∷ rows_in es) (sym (ap rows_or_none read.rows))
        ∙ ap (λ l. content_rows d kept.content.bytes ∷ l) rest
    by n held.Disputed read rest = rest
    by n held.Retired read rest = rest
    by n held.Floor read rest = rest

pub rows_live : (a : Inside) (s : DeclaredView) → IsOrderly a → declared_view a ≡ s → rows_in (flat a.blocks.items) ≡ live_rows s
rows_live a s h is =
    rows_told a.schema (flat a.blocks.items) h.read ∙ ap (map (λ e. content_rows a.schema e.1))
    (sym (lives-view (flat a.blocks.items) s.view h.rising (ap (λ (x : DeclaredView). x.view) is)))
    ∙ ap (λ (x : DeclaredView). map (λ e. content_rows x.schema e.1) (lives s.view)) is

-- a view that stays has the same rows
pub live_same : (s t : DeclaredView) → Becomes s s.view t → live_rows t ≡ live_rows s
live_same s t b = ap (λ d. map (λ e. content_rows d e.1) (lives t.view)) b.schema
    ∙ ap (λ v. map (λ e. content_rows s.schema e.1) (lives v)) b.view

-- a set that stays has the same runs
pub added_still : (keys : List SortKey) (s t : DeclaredView) → t ≡ s → AreAdded keys s.orders t.orders
added_still keys s t e = subst (λ (x : DeclaredView). AreAdded keys s.orders x.orders) (sym e) (added_none keys s.orders)

-- and what is added between is added
pub added_between : (keys : List SortKey) (r s t u : DeclaredView) → s ≡ r → AreAdded keys s.orders t.orders → u ≡ t
    → AreAdded keys r.orders u.orders
added_between keys r s t u before h after = subst (λ (x : DeclaredView). AreAdded keys x.orders u.orders) before
    (subst (λ (x : DeclaredView). AreAdded keys s.orders x.orders) (sym after) h)
