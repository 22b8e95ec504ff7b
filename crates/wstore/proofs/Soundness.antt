-- What is known of names is sound: each is a name, and each content a segment.
use Rattle.std.proofs.Common.{◌≡◌, ℕ, Bool, true, false, cond, ◌||◌, T, List, [], ◌∷◌, ◌++◌, length, Option}
use Rattle.std.proofs.Common.{None, Some, IsOk, is_eq, nat_lt, refl, sym, ap, ◌∙◌, subst, arith, append-nil}
use Rattle.std.proofs.lemmas.Bool.Decides.{nat_tests}
use Rattle.std.specs.List.{AllByRecursion}
use Rattle.std.specs.Ordering.{ordering_reverse}
use Rattle.std.specs.declared.cmp.Ordering.{Ordering}
use Rattle.std.specs.declared.cmp.Ordering.TheVariants.{Less, Equal, Greater}
use Rattle.std.specs.FinMap.Entries.{below_all}
use Rattle.std.specs.FinMap.{get, entries, find, is_sorted, get-entries, entries_sorted, empty, get-empty}
use Rattle.wvalues.specs.Names.{NameParts, IsName, name_cmp, names_total}
use Rattle.wsegment.specs.Declaration.{Declaration}
use Rattle.wsegment.specs.Rows.{rows_of}
use Rattle.wentries.specs.Knowledge.{Known, Live, Disputed, Retired, Floor, same_name, same_bytes, join_known}
use Rattle.wset.specs.Views.{View, is_below, join_told}
use Rattle.wset.specs.Items.{Item, SegmentItem, RetirementItem, FloorItem, view_of, view_of_item}
use Rattle.wentries.proofs.Floors.{exact_names, same_name-true}
use Rattle.wset.proofs.Joining.{get-join, same_view}
use Rattle.wset.proofs.Singles.{IsSingle, segment_single, retirement_single, floor_single}
use Rattle.wset.proofs.Union.{get-view_of, view_of_union}
use Rattle.wrecords.specs.Forms.{IsNumber}
use Rattle.wexchange.specs.Files.{IsRecord, AreRecords, text_of}
use Rattle.wexchange.specs.Judging.{IsFileOf}
use Rattle.wexchange.specs.declared.version.Version.{Version}
use Rattle.wexchange.specs.declared.version.Version.TheVariants.{One, Two}
use Rattle.wentries.proofs.Floors.{first, second, less}
use Rattle.wexchange.proofs.OneText.{one_text}
use Rattle.wstore.specs.History.{file_if}
use Rattle.wstore.specs.Standing.{HoldRecords}

no_known : (k : Known) → None ≡ Some k → ⊥
no_known k e = cc

one_known : (j k : Known) → Some j ≡ Some k → j ≡ k
one_known j k e = cc

-- ---- of items

-- a view that tells nothing
pub nothing_known : empty ≡ view_of []
nothing_known = same_view empty (view_of []) (λ q. get-empty name_cmp q ∙ sym (get-view_of [] q))

pub sound_nothing : (d : Declaration) → HoldRecords d []
sound_nothing d n k e = absurd (no_known k (sym (get-view_of [] n) ∙ e))

joined : (d : Declaration) (n : NameParts) (a b : Known) → IsRecord d (n, a) → IsRecord d (n, b) → IsRecord d (n, join_known a b)
joined d n Floor b h k = h
joined d n Retired Floor h k = k
joined d n Retired Retired h k = h
joined d n Retired Disputed h k = h
joined d n Retired (Live b) h k = h
joined d n Disputed Floor h k = k
joined d n Disputed Retired h k = h
joined d n Disputed Disputed h k = h
joined d n Disputed (Live b) h k = h
joined d n (Live a) Floor h k = k
joined d n (Live a) Retired h k = k
joined d n (Live a) Disputed h k = k
joined d n (Live a) (Live b) h k = by (same_bytes a b)
  where
    by : (t : Bool) → IsRecord d (n, cond t (Live a) Disputed)
    by true = h
    by false = h.0

told : (d : Declaration) (n : NameParts) (o p : Option Known) (j : Known) → ((k : Known) → o ≡ Some k → IsRecord d (n, k))
    → ((k : Known) → p ≡ Some k → IsRecord d (n, k)) → join_told o p ≡ Some j → IsRecord d (n, j)
told d n None p j f g e = g j e
told d n (Some a) None j f g e = f j e
told d n (Some a) (Some b) j f g e = subst (λ k. IsRecord d (n, k)) (one_known (join_known a b) j e) (joined d n a b (f a refl) (g b refl))

pub sound_both : (d : Declaration) (xs ys : List Item) → HoldRecords d xs → HoldRecords d ys → HoldRecords d (xs ++ ys)
sound_both d xs ys f g n j e =
    by (is_below (view_of xs) n || is_below (view_of ys) n) (sym (get-join (view_of xs) (view_of ys) n)
    ∙ ap (λ v. get v n) (sym (view_of_union xs ys)) ∙ e)
  where
    by : (b : Bool) → cond b None (join_told (get (view_of xs) n) (get (view_of ys) n)) ≡ Some j → IsRecord d (n, j)
    by true e = absurd (no_known j e)
    by false e = told d n (get (view_of xs) n) (get (view_of ys) n) j (f n) (g n) e

fits : (d : Declaration) (bytes : List ℕ) → IsOk (rows_of d bytes) → IsNumber (length bytes)
unfolding rows_of
fits d bytes ok = by (nat_lt 67108864 (length bytes)) refl
  where
    refused : (b : Bool) → nat_lt 67108864 (length bytes) ≡ b → b ≡ true → ⊥
    refused b e t =
        let long : nat_lt 67108864 (length bytes) ≡ true = e ∙ t in
        let wrong : false ≡ true = rw long at ok in
        cc

    by : (b : Bool) → nat_lt 67108864 (length bytes) ≡ b → IsNumber (length bytes)
    by true e = absurd (refused true e refl)
    by false e = record { fits = grind (arith, nat_tests) }

sound_single : (d : Declaration) (v : View) (m : NameParts) (j : Known) → IsSingle v m j → IsRecord d (m, j)
    → (q : NameParts) (k : Known) → get v q ≡ Some k → IsRecord d (q, k)
sound_single d v m j single record_is q k e = by (same_name q m) refl (sym (single q) ∙ e)
  where
    by : (b : Bool) → same_name q m ≡ b → cond b (Some j) None ≡ Some k → IsRecord d (q, k)
    by true s e = subst (λ i. IsRecord d (q, i)) (one_known j k e) (subst (λ n. IsRecord d (n, j)) (sym (same_name-true q m s)) record_is)
    by false s e = absurd (no_known k e)

pub sound_segment : (d : Declaration) (m : NameParts) (bytes : List ℕ) → IsName m → IsOk (rows_of d bytes)
    → HoldRecords d (SegmentItem m bytes ∷ [])
sound_segment d m bytes name read = sound_single d (view_of_item (SegmentItem m bytes)) m (Live bytes)
    (segment_single m bytes) (name, read, fits d bytes read)

pub sound_retirement : (d : Declaration) (m : NameParts) → IsName m → HoldRecords d (RetirementItem m ∷ [])
sound_retirement d m name = sound_single d (view_of_item (RetirementItem m)) m Retired (retirement_single m) name

pub sound_floor : (d : Declaration) (m : NameParts) → IsName m → HoldRecords d (FloorItem m ∷ [])
sound_floor d m name = sound_single d (view_of_item (FloorItem m)) m Floor (floor_single m) name

-- ---- entry by entry

find_below : (x : NameParts) (es : List (NameParts × Known)) → T (below_all name_cmp x es) → find name_cmp x es ≡ None
find_below x [] h = refl
find_below x (f ∷ es) h = ap (λ o. cond (is_eq o) (Some f.1) (find name_cmp x es)) (less _ (first _ _ h)) ∙ find_below x es (second _ _ h)

same_self : (x : NameParts) → name_cmp x x ≡ Equal
same_self x = by (name_cmp x x) refl
  where
    by : (o : Ordering) → name_cmp x x ≡ o → name_cmp x x ≡ Equal
    by Less e = let w : Less ≡ Greater = sym e ∙ names_total.antisymm x x ∙ ap ordering_reverse e in cc
    by Equal e = e
    by Greater e = let w : Greater ≡ Less = sym e ∙ names_total.antisymm x x ∙ ap ordering_reverse e in cc

all_found : (d : Declaration) (es : List (NameParts × Known)) → T (is_sorted name_cmp es)
    → ((n : NameParts) (k : Known) → find name_cmp n es ≡ Some k → IsRecord d (n, k)) → AllByRecursion (IsRecord d) es
all_found d [] h f = tt
all_found d (e ∷ es) h f = (
  f e.0 e.1 (ap (λ o. cond (is_eq o) (Some e.1) (find name_cmp e.0 es)) (same_self e.0)),
  all_found d es (second _ _ h) (λ n k found. f n k (later n k (name_cmp n e.0) refl found)),
)
  where
    later : (n : NameParts) (k : Known) (o : Ordering) → name_cmp n e.0 ≡ o → find name_cmp n es ≡ Some k
        → find name_cmp n (e ∷ es) ≡ Some k
    later n k Less c found = ap (λ o. cond (is_eq o) (Some e.1) (find name_cmp n es)) c ∙ found
    later n k Greater c found = ap (λ o. cond (is_eq o) (Some e.1) (find name_cmp n es)) c ∙ found
    later n k Equal c found =
        let same : n ≡ e.0 = exact_names n e.0 c in
        absurd (no_known k (sym (find_below e.0 es (first _ _ h)) ∙ ap (λ m. find name_cmp m es) (sym same) ∙ found))

pub records : (d : Declaration) (items : List Item) → HoldRecords d items → AreRecords d (view_of items)
records d items sound = all_found d (entries (view_of items)) (entries_sorted (view_of items))
    (λ n k found. sound n k (get-entries (view_of items) n ∙ found))

-- ---- the file of a slot

no_bytes : (x : ℕ) (xs : List ℕ) → [] ≡ x ∷ xs → ⊥
no_bytes x xs e = cc

-- no bytes begin with a text
pub no_file : (d : Declaration) (r : Version) (v : View) (more : List ℕ) → [] ≡ text_of r d v ++ more → ⊥
no_file d One v more e = no_bytes 87 _ e
no_file d Two v more e = no_bytes 87 _ e

-- the view whose file a slot holds is that of its items
pub slot_view : (d : Declaration) (b : Bool) (items : List Item) (v : View) → IsFileOf d v (file_if b d items)
    → HoldRecords d items → v ≡ view_of items
slot_view d true items v f sound = (one_text d f.version Two v (view_of items) f.is_view.records (records d items sound)
    (sym f.bytes_are)).1
slot_view d false items v f sound = absurd (no_file d f.version v [] (f.bytes_are ∙ sym (append-nil (text_of f.version d v))))
