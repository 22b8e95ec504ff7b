-- Joining views name by name, without what is below a floor.
use Rattle.std.proofs.Common.{◌≡◌, ℕ, Bool, true, false, cond, List, [], ◌∷◌, ◌++◌, Option, None, Some}
use Rattle.std.proofs.Common.{is_some, option_map, refl, sym, ap, ◌∙◌, ◌||◌, ◌⊎◌, inl, inr, ⊎_elim}
use Rattle.std.proofs.lemmas.Bool.{or_cases, or_left, or_right}
use Rattle.std.specs.List.{list_any, filter_map}
use Rattle.std.proofs.lemmas.List.Folds.{list_any-append}
use Rattle.std.specs.Cmp.Lexicographic.{nat_list_eq_equiv}
use Rattle.std.specs.FinMap.{find, get, keys, get-from_entries, contains_key-keys, same_map}
use Rattle.wvalues.specs.Names.{NameParts, name_cmp, names_total}
use Rattle.wentries.specs.Knowledge.{Known, Live, Disputed, Retired, Floor, same_name, same_bytes, join_known}
use Rattle.wset.specs.Views.{View, is_below, view_telling, join_told, join_names, join}
use Rattle.wset.specs.Laws.{JoinLaws}
use Rattle.wentries.proofs.Floors.{exact_names, same_name-true, same_bytes-true, same_bytes-refl, same_some}
use Rattle.wset.proofs.ViewFloors.{same_test, top_floor, below_floor, get-settled, below-settled, settled-settled}

pub same_bytes-symm : (a b : List ℕ) → same_bytes a b ≡ same_bytes b a
same_bytes-symm a b = nat_list_eq_equiv.symm a b

-- ---- joining what is known under one name

pub floor_last : (k : Known) → join_known k Floor ≡ Floor
floor_last Floor = refl
floor_last Retired = refl
floor_last Disputed = refl
floor_last (Live b) = refl

pub known_comm : (j k : Known) → join_known j k ≡ join_known k j
known_comm Floor k = sym (floor_last k)
known_comm j Floor = floor_last j
known_comm Retired Retired = refl
known_comm Retired Disputed = refl
known_comm Retired (Live b) = refl
known_comm Disputed Retired = refl
known_comm Disputed Disputed = refl
known_comm Disputed (Live b) = refl
known_comm (Live a) Retired = refl
known_comm (Live a) Disputed = refl
known_comm (Live a) (Live b) = live_comm a b (same_bytes a b) refl (same_bytes-symm a b)
  where
    live_comm : (a b : List ℕ) (t : Bool) → same_bytes a b ≡ t → same_bytes a b ≡ same_bytes b a
        → cond (same_bytes a b) (Live a) Disputed ≡ cond (same_bytes b a) (Live b) Disputed
    live_comm a b true e s = rw (← s, e) (ap Live (same_bytes-true a b e))
    live_comm a b false e s = rw (← s, e) refl

pub known_idem : (k : Known) → join_known k k ≡ k
known_idem Floor = refl
known_idem Retired = refl
known_idem Disputed = refl
known_idem (Live a) = rw (same_bytes-refl a) refl

live_assoc : (a b c : List ℕ) → join_known (join_known (Live a) (Live b)) (Live c) ≡ join_known (Live a) (join_known (Live b) (Live c))
live_assoc a b c = by_tests (same_bytes a b) (same_bytes b c) refl refl
  where
    by_tests : (t u : Bool) → same_bytes a b ≡ t → same_bytes b c ≡ u → join_known (join_known (Live a) (Live b)) (Live c)
        ≡ join_known (Live a) (join_known (Live b) (Live c))
    by_tests true true e f =
        let ends : same_bytes a c ≡ true = ap (λ x. same_bytes a x) (sym (same_bytes-true a b e ∙ same_bytes-true b c f))
        ∙ same_bytes-refl a in
        rw (e, f) (rw (ends, e) refl)
    by_tests true false e f =
        let ends : same_bytes a c ≡ false = ap (λ x. same_bytes x c) (same_bytes-true a b e) ∙ f in
        rw (e, f) (rw ends refl)
    by_tests false true e f = rw (e, f) (rw e refl)
    by_tests false false e f = rw (e, f) refl

-- two contents give one of them, or a dispute
either_retired : (b : Bool) (a : List ℕ) → join_known (cond b (Live a) Disputed) Retired ≡ Retired
either_retired true a = refl
either_retired false a = refl

disputed_first : (b : Bool) (a : List ℕ) → join_known Disputed (cond b (Live a) Disputed) ≡ Disputed
disputed_first true a = refl
disputed_first false a = refl

retired_first : (b : Bool) (a : List ℕ) → join_known Retired (cond b (Live a) Disputed) ≡ Retired
retired_first true a = refl
retired_first false a = refl

disputed_last : (b : Bool) (a : List ℕ) → join_known (cond b (Live a) Disputed) Disputed ≡ Disputed
disputed_last true a = refl
disputed_last false a = refl

pub known_assoc : (i j k : Known) → join_known (join_known i j) k ≡ join_known i (join_known j k)
known_assoc Floor j k = refl
known_assoc i Floor k = ap (λ x. join_known x k) (floor_last i) ∙ sym (floor_last i)
known_assoc i j Floor = floor_last (join_known i j) ∙ sym (ap (join_known i) (floor_last j) ∙ floor_last i)
known_assoc Retired Retired Retired = refl
known_assoc Retired Retired Disputed = refl
known_assoc Retired Retired (Live c) = refl
known_assoc Retired Disputed Retired = refl
known_assoc Retired Disputed Disputed = refl
known_assoc Retired Disputed (Live c) = refl
known_assoc Retired (Live b) Retired = refl
known_assoc Retired (Live b) Disputed = refl
known_assoc Retired (Live b) (Live c) = sym (retired_first (same_bytes b c) b)
known_assoc Disputed Retired Retired = refl
known_assoc Disputed Retired Disputed = refl
known_assoc Disputed Retired (Live c) = refl
known_assoc Disputed Disputed Retired = refl
known_assoc Disputed Disputed Disputed = refl
known_assoc Disputed Disputed (Live c) = refl
known_assoc Disputed (Live b) Retired = refl
known_assoc Disputed (Live b) Disputed = refl
known_assoc Disputed (Live b) (Live c) = sym (disputed_first (same_bytes b c) b)
known_assoc (Live a) Retired Retired = refl
known_assoc (Live a) Retired Disputed = refl
known_assoc (Live a) Retired (Live c) = refl
known_assoc (Live a) Disputed Retired = refl
known_assoc (Live a) Disputed Disputed = refl
known_assoc (Live a) Disputed (Live c) = refl
known_assoc (Live a) (Live b) Retired = either_retired (same_bytes a b) a
known_assoc (Live a) (Live b) Disputed = disputed_last (same_bytes a b) a
known_assoc (Live a) (Live b) (Live c) = live_assoc a b c

told_comm : (j k : Option Known) → join_told j k ≡ join_told k j
told_comm None None = refl
told_comm None (Some k) = refl
told_comm (Some j) None = refl
told_comm (Some j) (Some k) = ap Some (known_comm j k)

told_idem : (k : Option Known) → join_told k k ≡ k
told_idem None = refl
told_idem (Some k) = ap Some (known_idem k)

told_assoc : (i j k : Option Known) → join_told (join_told i j) k ≡ join_told i (join_told j k)
told_assoc None j k = refl
told_assoc (Some i) None k = refl
told_assoc (Some i) (Some j) None = refl
told_assoc (Some i) (Some j) (Some k) = ap Some (known_assoc i j k)

pub with_none : (o : Option Known) → o ≡ join_told o None
with_none None = refl
with_none (Some k) = refl

pub with_floor : (o : Option Known) → join_told o (Some Floor) ≡ Some Floor
with_floor None = refl
with_floor (Some k) = ap Some (floor_last k)

live_no_floor : (a b : List ℕ) (t : Bool) → cond t (Live a) Disputed ≡ Floor → ⊥
live_no_floor a b true e = cc
live_no_floor a b false e = cc

known_floor : (j k : Known) → join_known j k ≡ Floor → (j ≡ Floor) ⊎ (k ≡ Floor)
known_floor Floor k e = inl refl
known_floor j Floor e = inr refl
known_floor Retired Retired e = absurd cc
known_floor Retired Disputed e = absurd cc
known_floor Retired (Live b) e = absurd cc
known_floor Disputed Retired e = absurd cc
known_floor Disputed Disputed e = absurd cc
known_floor Disputed (Live b) e = absurd cc
known_floor (Live a) Retired e = absurd cc
known_floor (Live a) Disputed e = absurd cc
known_floor (Live a) (Live b) e = absurd (live_no_floor a b (same_bytes a b) e)

-- a floor that two know together is known to one of them
told_floor : (i j : Option Known) → join_told i j ≡ Some Floor → (i ≡ Some Floor) ⊎ (j ≡ Some Floor)
told_floor None j e = inr e
told_floor (Some i) None e = inl e
told_floor (Some i) (Some j) e = ⊎_elim (λ x. inl (ap (λ (k : Known). Some k) x)) (λ x. inr (ap (λ (k : Known). Some k) x))
    (known_floor i j (same_some _ Floor e))

-- ---- what a view tells

-- the entries that are told of some names
abbrev told_entries : (NameParts → Option Known) → List NameParts → List (NameParts × Known)
told_entries told ns = filter_map (λ n. option_map (λ k. (n, k)) (told n)) ns

-- one more name, of which this is told, before others
one_told : (told : NameParts → Option Known) (n q : NameParts) (ns : List NameParts) (a : Bool)
    → find name_cmp q (told_entries told ns) ≡ cond a (told q) None → (o : Option Known) → told n ≡ o → (b : Bool)
    → same_name q n ≡ b → find name_cmp q (told_entries told (n ∷ ns)) ≡ cond (same_name q n || a) (told q) None
one_told told n q ns true rest None is true same = rw (is, same) rest
one_told told n q ns false rest None is true same = rw (is, same) (rest ∙ sym (ap told (same_name-true q n same) ∙ is))
one_told told n q ns a rest None is false same = rw (is, same) rest
one_told told n q ns a rest (Some k) is true same = rw (is, same) (sym (ap told (same_name-true q n same) ∙ is))
one_told told n q ns a rest (Some k) is false same = rw (is, same) rest

find-telling : (told : NameParts → Option Known) (ns : List NameParts) (q : NameParts)
    → find name_cmp q (told_entries told ns) ≡ cond (list_any (same_name q) ns) (told q) None
find-telling told [] q = refl
find-telling told (n ∷ ns) q = one_told told n q ns (list_any (same_name q) ns) (find-telling told ns q) (told n) refl (same_name q n) refl

pub get-telling : (told : NameParts → Option Known) (ns : List NameParts) (q : NameParts)
    → get (view_telling told ns) q ≡ cond (list_any (same_name q) ns) (told q) None
get-telling told ns q = get-from_entries names_total _ q ∙ find-telling told ns q

pub or_first : (a b : Bool) → (a || b) ≡ false → a ≡ false
or_first true b e = cc
or_first false b e = refl

pub or_second : (a b : Bool) → (a || b) ≡ false → b ≡ false
or_second true b e = cc
or_second false b e = e

none_of : (o : Option Known) → is_some o ≡ false → o ≡ None
none_of None e = refl
none_of (Some k) e = cc

no_key : (v : View) (q : NameParts) → list_any (same_name q) (keys v) ≡ false → get v q ≡ None
no_key v q e = none_of (get v q) (contains_key-keys v q ∙ e)

pub get-join_names : (v w : View) (q : NameParts) → get (join_names v w) q ≡ join_told (get v q) (get w q)
get-join_names v w q = get-telling (λ n. join_told (get v n) (get w n)) (keys v ++ keys w) q
    ∙ by (list_any (same_name q) (keys v ++ keys w)) refl
  where
    by : (b : Bool) → list_any (same_name q) (keys v ++ keys w) ≡ b → cond b (join_told (get v q) (get w q)) None
        ≡ join_told (get v q) (get w q)
    by true e = refl
    by false e =
        let split : (list_any (same_name q) (keys v) || list_any (same_name q) (keys w)) ≡ false =
        sym (list_any-append (same_name q) (keys v) (keys w)) ∙ e in
        sym (ap (λ o. join_told o (get w q)) (no_key v q (or_first _ _ split))
        ∙ no_key w q (or_second (list_any (same_name q) (keys v)) _ split))

pub below-join_names : (v w : View) (q : NameParts) → is_below (join_names v w) q ≡ (is_below v q || is_below w q)
below-join_names v w q = same_test _ _ (λ h.
    let t = top_floor (join_names v w) q h in
    ⊎_elim (λ x. or_left _ _ (below_floor v q t.floor x t.above)) (λ x. or_right _ _ (below_floor w q t.floor x t.above))
    (told_floor (get v t.floor) (get w t.floor) (sym (get-join_names v w t.floor) ∙ t.found)))
    (λ h. ⊎_elim ours theirs (or_cases (is_below v q) _ h))
  where
    ours : is_below v q ≡ true → is_below (join_names v w) q ≡ true
    ours h =
        let t = top_floor v q h in
        below_floor (join_names v w) q t.floor (get-join_names v w t.floor ∙ ap (λ o. join_told o (get w t.floor)) t.found
        ∙ floor_first (get w t.floor)) t.above
      where
        floor_first : (o : Option Known) → join_told (Some Floor) o ≡ Some Floor
        floor_first None = refl
        floor_first (Some k) = refl

    theirs : is_below w q ≡ true → is_below (join_names v w) q ≡ true
    theirs h =
        let t = top_floor w q h in
        below_floor (join_names v w) q t.floor (get-join_names v w t.floor ∙ ap (join_told (get v t.floor)) t.found
        ∙ with_floor (get v t.floor)) t.above

-- ---- what a join tells

pub below-join : (v w : View) (q : NameParts) → is_below (join v w) q ≡ (is_below v q || is_below w q)
below-join v w q = below-settled (join_names v w) q ∙ below-join_names v w q

pub get-join : (v w : View) (q : NameParts) → get (join v w) q ≡ cond (is_below v q || is_below w q) None (join_told (get v q) (get w q))
get-join v w q =
    get-settled (join_names v w) q ∙ ap (λ b. cond b None (get (join_names v w) q)) (below-join_names v w q)
    ∙ ap (cond (is_below v q || is_below w q) None) (get-join_names v w q)

-- two views that tell the same of each name are one
pub same_view : (v w : View) → ((q : NameParts) → get v q ≡ get w q) → v ≡ w
same_view = same_map names_total exact_names

assoc_at : (a b c : Bool) (i j k : Option Known)
    → cond ((a || b) || c) None (join_told (cond (a || b) None (join_told i j)) k) ≡ cond (a || (b || c)) None
    (join_told i (cond (b || c) None (join_told j k)))
assoc_at true b c i j k = refl
assoc_at false true c i j k = refl
assoc_at false false true i j k = refl
assoc_at false false false i j k = told_assoc i j k

comm_at : (a b : Bool) (i j : Option Known) → cond (a || b) None (join_told i j) ≡ cond (b || a) None (join_told j i)
comm_at true true i j = refl
comm_at true false i j = refl
comm_at false true i j = refl
comm_at false false i j = told_comm i j

idem_at : (a : Bool) (i : Option Known) → (a ≡ true → i ≡ None) → cond (a || a) None (join_told i i) ≡ i
idem_at true i h = sym (h refl)
idem_at false i h = told_idem i

pub join_laws : JoinLaws
join_laws = record {
  associative = λ u v w. same_view _ _ (λ q.
      get-join (join u v) w q
      ∙ ap (λ b. cond (b || is_below w q) None (join_told (get (join u v) q) (get w q))) (below-join u v q)
      ∙ ap (λ o. cond ((is_below u q || is_below v q) || is_below w q) None (join_told o (get w q))) (get-join u v q)
      ∙ assoc_at (is_below u q) (is_below v q) (is_below w q) (get u q) (get v q) (get w q)
      ∙ sym (get-join u (join v w) q
      ∙ ap (λ b. cond (is_below u q || b) None (join_told (get u q) (get (join v w) q))) (below-join v w q)
      ∙ ap (λ o. cond (is_below u q || (is_below v q || is_below w q)) None (join_told (get u q) o)) (get-join v w q)));
  commutative = λ v w. same_view _ _ (λ q. get-join v w q ∙ comm_at (is_below v q) (is_below w q) (get v q) (get w q)
      ∙ sym (get-join w v q));
  idempotent = λ v h. same_view _ _ (λ q. get-join v v q ∙ idem_at (is_below v q) (get v q) (h q));
  settled = λ v w. settled-settled (join_names v w);
}
