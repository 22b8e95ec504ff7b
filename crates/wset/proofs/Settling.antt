-- Entries without those below a floor, and one floor put among entries.
use Rattle.std.proofs.Common.{◌≡◌, ◌||◌, Bool, true, false, cond, not, T, List, [], ◌∷◌, None, refl, sym, ap, ◌∙◌}
use Rattle.std.specs.List.{list_any}
use Rattle.std.specs.Ordering.{ordering_reverse}
use Rattle.std.specs.declared.cmp.Ordering.TheVariants.{Less, Greater}
use Rattle.std.specs.FinMap.Entries.{find-where_key, is_sorted-where_key, where_key}
use Rattle.std.specs.FinMap.{entries, entries-from_sorted, entries_sorted, from_sorted}
use Rattle.std.specs.FinMap.{get-entries, get-from_sorted, get-retain_keys, is_sorted}
use Rattle.wvalues.specs.Names.{NameParts, name_cmp, names_total}
use Rattle.wentries.specs.Knowledge.{Known, is_over}
use Rattle.wset.specs.Views.{View, IsSettled, join, join_names, settled}
use Rattle.wentries.specs.Entries.{AreSettled, above_floors, AreBelow}
use Rattle.wset.specs.Merging.{join_lists}
use Rattle.wentries.proofs.Floors.{exact_names, over_floor, above_less}
use Rattle.wset.proofs.Joining.{same_view}
use Rattle.wset.proofs.Merging.{entries-join_names}

-- ---- the entries of a join

pub entries-settled : (v : View) → entries (settled v) ≡ above_floors (entries v)
entries-settled v =
    let p : NameParts → Bool = λ n. not (list_any (is_over n) (entries v)) in
    let sorted = is_sorted-where_key name_cmp p (entries v) (entries_sorted v) in
    let same : settled v ≡ from_sorted (where_key name_cmp p (entries v)) = same_view _ _ (λ q.
    get-retain_keys v p q (λ x h. ap p (sym (exact_names q x h)))
    ∙ ap (λ o. cond (p q) o None) (get-entries v q)
    ∙ sym (get-from_sorted name_cmp (where_key name_cmp p (entries v)) q sorted ∙ find-where_key name_cmp p q
    (λ x h. ap p (sym (exact_names q x h))) (entries v))) in
    ap entries same ∙ entries-from_sorted name_cmp (where_key name_cmp p (entries v)) sorted

pub entries-join : (v w : View) → entries (join v w) ≡ above_floors (join_lists (entries v) (entries w))
entries-join v w = entries-settled (join_names v w) ∙ ap above_floors (entries-join_names v w)

-- ---- settled entries

pub settled_view : (es : List (NameParts × Known)) → T (is_sorted name_cmp es) → AreSettled es → IsSettled (from_sorted es)
settled_view es s h n low =
    get-from_sorted name_cmp es n s ∙ h n (ap (list_any (is_over n)) (sym (entries-from_sorted name_cmp es s)) ∙ low)

pub settled_entries : (es : List (NameParts × Known)) → T (is_sorted name_cmp es) → IsSettled (from_sorted es) → AreSettled es
settled_entries es s h n low =
    sym (get-from_sorted name_cmp es n s) ∙ h n (ap (list_any (is_over n)) (entries-from_sorted name_cmp es s) ∙ low)

-- ---- a name is below no floor that stands before it

not_less_both : Less ≡ Greater → ⊥
not_less_both e = cc

turned_less : (a b : NameParts) → name_cmp a b ≡ Less → name_cmp b a ≡ Less → ⊥
turned_less a b ab ba = not_less_both (sym ba ∙ names_total.antisymm b a ∙ ap ordering_reverse ab)

pub not_low : (n : NameParts) (es : List (NameParts × Known)) → AreBelow n es → list_any (is_over n) es ≡ false
not_low n [] h = refl
not_low n (e ∷ es) h = by (is_over n e) refl (not_low n es h.1)
  where
    by : (b : Bool) → is_over n e ≡ b → list_any (is_over n) es ≡ false → list_any (is_over n) (e ∷ es) ≡ false
    by true is rest = absurd (turned_less e.0 n h.0 (above_less n e.0 (over_floor n e is).1))
    by false is rest = ap (λ b. b || list_any (is_over n) es) is ∙ rest
