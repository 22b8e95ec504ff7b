-- The first entry of a join of rising entries.
use Rattle.std.proofs.Common.{◌≡◌, ◌<◌, Bool, true, false, cond, T, List, [], ◌∷◌, ◌++◌, length}
use Rattle.std.proofs.Common.{Option, None, Some, refl, sym, ap, ◌∙◌, subst, arith, is_eq}
use Rattle.std.specs.declared.cmp.Ordering.{Ordering}
use Rattle.std.specs.declared.cmp.Ordering.TheVariants.{Less, Equal, Greater}
use Rattle.std.specs.FinMap.Entries.{below_all, by_order}
use Rattle.std.specs.FinMap.{find, put, entries, insert, get, entries-insert, get-entries, get-insert, get_tied}
use Rattle.std.specs.Ordering.{eq_by_cmp}
use Rattle.wvalues.specs.Names.{NameParts, name_cmp, names_total}
use Rattle.wsegment.specs.Declaration.{Declaration}
use Rattle.wentries.specs.Knowledge.{Known, join_known}
use Rattle.wset.specs.Views.{View, join_names, join_told}
use Rattle.wentries.specs.Holding.{IsHeldBy, known_of}
use Rattle.wentries.specs.Entries.{AllHeldBy, IsRising, known_entry, known_entries}
use Rattle.std.specs.List.{AllByRecursion}
use Rattle.wset.specs.Merging.{join_with, join_lists, Joins}
use Rattle.wentries.specs.declared.entries.Entry.{Entry}
use Rattle.wentries.proofs.Floors.{both, first, second, less, find_below, exact_names, is_equal}
use Rattle.wentries.proofs.Finding.{is_less, turned, below_all_below, put_here}
use Rattle.wset.proofs.Joining.{same_view, get-join_names, with_none}

-- ---- the entries of a join

-- a view with these entries joined to it, one by one
abbrev join_entries : View → List (NameParts × Known) → View
join_entries v [] = v
join_entries v (e ∷ es) = insert (join_entries v es) e.0 (join_with (get v e.0) e.1)

pub with_some : (v : Option Known) (k : Known) → Some (join_with v k) ≡ join_told v (Some k)
with_some None k = refl
with_some (Some j) k = refl

-- the join at a name, where it is the first entry
pub at_first : (b : Bool) (u v : Option Known) (k : Known) (r s : Option Known) → (b ≡ true → u ≡ v) → r ≡ join_told v s
    → cond b (Some (join_with u k)) r ≡ join_told v (cond b (Some k) s)
at_first true u v k r s same e = ap (λ o. Some (join_with o k)) (same refl) ∙ with_some v k
at_first false u v k r s same e = e

get-join_entries : (v : View) (es : List (NameParts × Known)) (q : NameParts)
    → get (join_entries v es) q ≡ join_told (get v q) (find name_cmp q es)
get-join_entries v [] q = with_none (get v q)
get-join_entries v (e ∷ es) q =
    get-insert names_total (join_entries v es) e.0 (join_with (get v e.0) e.1) q
    ∙ at_first (eq_by_cmp name_cmp q e.0) (get v e.0) (get v q) e.1 _ _ (λ t. get_tied names_total v q e.0 (is_equal _ t))
    (get-join_entries v es q)

is_join_entries : (v w : View) → join_names v w ≡ join_entries v (entries w)
is_join_entries v w = same_view _ _ (λ q. get-join_names v w q ∙ ap (join_told (get v q)) (get-entries w q)
    ∙ sym (get-join_entries v (entries w) q))

entries-join_entries : (v : View) (fs : List (NameParts × Known)) → entries (join_entries v fs) ≡ join_lists (entries v) fs
entries-join_entries v [] = refl
entries-join_entries v (f ∷ fs) =
    entries-insert names_total (join_entries v fs) f.0 (join_with (get v f.0) f.1)
    ∙ ap (λ o. put name_cmp f.0 (join_with o f.1) (entries (join_entries v fs))) (get-entries v f.0)
    ∙ ap (put name_cmp f.0 (join_with (find name_cmp f.0 (entries v)) f.1)) (entries-join_entries v fs)

pub entries-join_names : (v w : View) → entries (join_names v w) ≡ join_lists (entries v) (entries w)
entries-join_names v w = ap entries (is_join_entries v w) ∙ entries-join_entries v (entries w)

-- ---- the first entry of two rising lists

below_put : (x n : NameParts) (k : Known) (es : List (NameParts × Known)) → name_cmp x n ≡ Less
    → T (below_all name_cmp x es) → T (below_all name_cmp x (put name_cmp n k es))
below_put x n k [] e h = both _ _ (is_less _ e) tt
below_put x n k (f ∷ es) e h = by (name_cmp n f.0) (below_put x n k es e (second _ _ h))
  where
    by : (o : Ordering) → T (below_all name_cmp x (put name_cmp n k es))
        → T (below_all name_cmp x (by_order o ((n, k) ∷ f ∷ es) ((f.0, k) ∷ es) (f ∷ put name_cmp n k es)))
    by Less r = both _ _ (is_less _ e) h
    by Equal r = h
    by Greater r = both _ _ (first _ _ h) r

below_join : (x : NameParts) (es fs : List (NameParts × Known)) → T (below_all name_cmp x es) → T (below_all name_cmp x fs)
    → T (below_all name_cmp x (join_lists es fs))
below_join x es [] h k = h
below_join x es (f ∷ fs) h k = below_put x f.0 _ (join_lists es fs) (less _ (first _ _ k)) (below_join x es fs h (second _ _ k))

put_first : (n : NameParts) (k : Known) (es : List (NameParts × Known)) → T (below_all name_cmp n es) → put name_cmp n k es ≡ (n, k) ∷ es
put_first n k [] h = refl
put_first n k (f ∷ es) h = put_here f es n k Less (less _ (first _ _ h))

-- their first name is the least
pub theirs_first : (es fs : List (NameParts × Known)) (f : NameParts × Known) → T (below_all name_cmp f.0 es)
    → T (below_all name_cmp f.0 fs) → join_lists es (f ∷ fs) ≡ f ∷ join_lists es fs
theirs_first es fs f h k =
    ap (λ o. put name_cmp f.0 (join_with o f.1) (join_lists es fs)) (find_below f.0 es h)
    ∙ put_first f.0 f.1 (join_lists es fs) (below_join f.0 es fs h k)

-- our first name is the least
pub ours_first : (e : NameParts × Known) (es fs : List (NameParts × Known)) → T (below_all name_cmp e.0 fs)
    → join_lists (e ∷ es) fs ≡ e ∷ join_lists es fs
ours_first e es [] h = refl
ours_first e es (f ∷ fs) h =
    let above : name_cmp f.0 e.0 ≡ Greater = turned e.0 f.0 Less (less _ (first _ _ h)) in
    ap (λ o. put name_cmp f.0 (join_with (cond (is_eq o) (Some e.1) (find name_cmp f.0 es)) f.1) (join_lists (e ∷ es) fs)) above
    ∙ ap (put name_cmp f.0 (join_with (find name_cmp f.0 es) f.1)) (ours_first e es fs (second _ _ h))
    ∙ put_here e (join_lists es fs) f.0 (join_with (find name_cmp f.0 es) f.1) Greater above

-- the first names are the same
pub both_first : (e f : NameParts × Known) (es fs : List (NameParts × Known)) → name_cmp e.0 f.0 ≡ Equal
    → T (below_all name_cmp e.0 fs) → join_lists (e ∷ es) (f ∷ fs) ≡ (e.0, join_known e.1 f.1) ∷ join_lists es fs
both_first e f es fs same h =
    let same' : name_cmp f.0 e.0 ≡ Equal = turned e.0 f.0 Equal same in
    ap (λ o. put name_cmp f.0 (join_with (cond (is_eq o) (Some e.1) (find name_cmp f.0 es)) f.1) (join_lists (e ∷ es) fs)) same'
    ∙ ap (put name_cmp f.0 (join_known e.1 f.1)) (ours_first e es fs h)
    ∙ put_here e (join_lists es fs) f.0 (join_known e.1 f.1) Equal same'

-- ---- the first entry of a join

pub nothing : (es : List Entry) → length es ≡ 0 → es ≡ []
nothing [] e = refl
nothing (x ∷ xs) e = absurd (omega arith)

sized : (e : Entry) (ours rest : List Entry) → ours ≡ e ∷ rest → length rest < length ours
sized e ours rest is = subst (λ (l : List Entry). length rest < length l) (sym is) (omega arith)

-- the first entry is held by the declaration, and so are the others
parted : (d : Declaration) (e : Entry) (ours rest : List Entry) → ours ≡ e ∷ rest → AllHeldBy d ours → IsHeldBy d e.held × AllHeldBy d rest
parted d e ours rest is all = subst (AllHeldBy d) is all

module _ (ours theirs : List Entry) (ours_rise : IsRising ours) (theirs_rise : IsRising theirs) where
  pub step_theirs_alone : (f entry : Entry) (fs : List Entry) → ours ≡ [] → theirs ≡ f ∷ fs → entry ≡ f → Joins ours theirs entry ours fs
  step_theirs_alone f entry fs none is same =
      let rise : IsRising (f ∷ fs) = subst IsRising is theirs_rise in
      record {
        joined =
            ap (λ l. join_lists (known_entries l) (known_entries theirs)) none ∙ ap (λ l. join_lists [] (known_entries l)) is
            ∙ theirs_first [] (known_entries fs) (known_entry f) tt (first _ _ rise)
            ∙ ap (λ x. known_entry x ∷ join_lists [] (known_entries fs)) (sym same)
            ∙ ap (λ l. known_entry entry ∷ join_lists (known_entries l) (known_entries fs)) (sym none);
        ours_rise = ours_rise;
        theirs_rise = second _ _ rise;
        fewer = omega (arith, sized f theirs fs is);
        read = λ d h k. let p = parted d f theirs fs is k in (subst (λ (x : Entry). IsHeldBy d x.held) (sym same) p.0, h, p.1);
      }

  pub step_ours_alone : (e entry : Entry) (es : List Entry) → ours ≡ e ∷ es → theirs ≡ [] → entry ≡ e → Joins ours theirs entry es theirs
  step_ours_alone e entry es is none same =
      let rise : IsRising (e ∷ es) = subst IsRising is ours_rise in
      record {
        joined =
            ap (λ l. join_lists (known_entries l) (known_entries theirs)) is
            ∙ ap (λ l. join_lists (known_entries (e ∷ es)) (known_entries l)) none
            ∙ ap (λ x. known_entry x ∷ known_entries es) (sym same)
            ∙ ap (λ l. known_entry entry ∷ join_lists (known_entries es) (known_entries l)) (sym none);
        ours_rise = second _ _ rise;
        theirs_rise = theirs_rise;
        fewer = omega (arith, sized e ours es is);
        read = λ d h k. let p = parted d e ours es is h in (subst (λ (x : Entry). IsHeldBy d x.held) (sym same) p.0, p.1, k);
      }

  module _ (e f entry : Entry) (es fs : List Entry) (ours_is : ours ≡ e ∷ es) (theirs_is : theirs ≡ f ∷ fs) where
    our_rise : IsRising (e ∷ es)
    our_rise = subst IsRising ours_is ours_rise

    their_rise : IsRising (f ∷ fs)
    their_rise = subst IsRising theirs_is theirs_rise

    opened : join_lists (known_entries ours) (known_entries theirs) ≡ join_lists (known_entries (e ∷ es)) (known_entries (f ∷ fs))
    opened = ap (λ l. join_lists (known_entries l) (known_entries theirs)) ours_is
        ∙ ap (λ l. join_lists (known_entries (e ∷ es)) (known_entries l)) theirs_is

    pub step_less : name_cmp e.name f.name ≡ Less → entry ≡ e → Joins ours theirs entry es theirs
    step_less less_is same = record {
      joined =
          opened ∙ ours_first (known_entry e) (known_entries es) (known_entries (f ∷ fs))
          (both _ _ (is_less _ less_is) (below_all_below e.name f.name (known_entries fs) less_is (first _ _ their_rise)))
          ∙ ap (λ x. known_entry x ∷ join_lists (known_entries es) (known_entries (f ∷ fs))) (sym same)
          ∙ ap (λ l. known_entry entry ∷ join_lists (known_entries es) (known_entries l)) (sym theirs_is);
      ours_rise = second _ _ our_rise;
      theirs_rise = theirs_rise;
      fewer = omega (arith, sized e ours es ours_is);
      read = λ d h k. let p = parted d e ours es ours_is h in (subst (λ (x : Entry). IsHeldBy d x.held) (sym same) p.0, p.1, k);
    }

    pub step_greater : name_cmp e.name f.name ≡ Greater → entry ≡ f → Joins ours theirs entry ours fs
    step_greater greater_is same =
        let below : name_cmp f.name e.name ≡ Less = turned e.name f.name Greater greater_is in
        record {
          joined =
              opened ∙ theirs_first (known_entries (e ∷ es)) (known_entries fs) (known_entry f)
              (both _ _ (is_less _ below) (below_all_below f.name e.name (known_entries es) below (first _ _ our_rise)))
              (first _ _ their_rise)
              ∙ ap (λ x. known_entry x ∷ join_lists (known_entries (e ∷ es)) (known_entries fs)) (sym same)
              ∙ ap (λ l. known_entry entry ∷ join_lists (known_entries l) (known_entries fs)) (sym ours_is);
          ours_rise = ours_rise;
          theirs_rise = second _ _ their_rise;
          fewer = omega (arith, sized f theirs fs theirs_is);
          read = λ d h k. let p = parted d f theirs fs theirs_is k in (subst (λ (x : Entry). IsHeldBy d x.held) (sym same) p.0, h, p.1);
        }

    pub step_equal : name_cmp e.name f.name ≡ Equal
        → known_entry entry ≡ (e.name, join_known (known_of e.held) (known_of f.held))
        → ((d : Declaration) → IsHeldBy d e.held → IsHeldBy d entry.held) → Joins ours theirs entry es fs
    step_equal equal_is same read = record {
      joined =
          opened ∙ both_first (known_entry e) (known_entry f) (known_entries es) (known_entries fs) equal_is
          (subst (λ n. T (below_all name_cmp n (known_entries fs))) (sym (exact_names e.name f.name equal_is)) (first _ _ their_rise))
          ∙ ap (λ x. x ∷ join_lists (known_entries es) (known_entries fs)) (sym same);
      ours_rise = second _ _ our_rise;
      theirs_rise = second _ _ their_rise;
      fewer = omega (arith, sized e ours es ours_is, sized f theirs fs theirs_is);
      read = λ d h k. let p = parted d e ours es ours_is h in (read d p.0, p.1, (parted d f theirs fs theirs_is k).1);
    }

-- ---- what is known already

pub told_known : (o : Option Known) (j k : Known) → o ≡ Some j → join_known j k ≡ j → join_told o (Some k) ≡ o
told_known o j k is same = rw is (ap (λ (k : Known). Some k) same)

pub known_told : (o : Option Known) (j k : Known) → o ≡ Some j → join_told o (Some k) ≡ o → join_known j k ≡ j
known_told o j k is same = let e : Some (join_known j k) ≡ Some j = sym (ap (λ p. join_told p (Some k)) is) ∙ same ∙ is in cc

-- what holds of two lists together, and of each
pub all_both : (P : Entry → Type 0) (xs ys : List Entry) → AllByRecursion P xs → AllByRecursion P ys → AllByRecursion P (xs ++ ys)
all_both P [] ys h k = k
all_both P (x ∷ xs) ys h k = (h.0, all_both P xs ys h.1 k)

pub all_front : (P : Entry → Type 0) (xs ys : List Entry) → AllByRecursion P (xs ++ ys) → AllByRecursion P xs
all_front P [] ys h = tt
all_front P (x ∷ xs) ys h = (h.0, all_front P xs ys h.1)

pub all_back : (P : Entry → Type 0) (xs ys : List Entry) → AllByRecursion P (xs ++ ys) → AllByRecursion P ys
all_back P [] ys h = h
all_back P (x ∷ xs) ys h = all_back P xs ys h.1
