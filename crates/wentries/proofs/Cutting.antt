-- Blocks that are cut in two, filled, and begun.
use Rattle.std.proofs.Common.{◌≡◌, ◌∙◌, ◌+◌, ◌<◌, ◌≤◌, ◌++◌, Bool, true, false, cond, ℕ, zero, suc, List, [], ◌∷◌, length, get_or, set}
use Rattle.std.proofs.Common.{take, drop, Option, is_some, option_map, refl, sym, ap, subst, arith, append_assoc, length-append}
use Rattle.std.proofs.lemmas.List.{append-nil, take-append-drop, take-append-le, take-set-le}
use Rattle.std.specs.Borrow.{Bor}
use Rattle.std.specs.List.{insert}
use Rattle.std.specs.Option.{option_copied}
use Rattle.std.specs.FinMap.Entries.{length-put}
use Rattle.std.specs.FinMap.{find, put}
use Rattle.wvalues.specs.Names.{NameParts, name_cmp, names_total}
use Rattle.wentries.specs.Entries.{AreBelow, IsRising, known_entries, AreBehind}
use Rattle.wentries.specs.Holding.{known_of}
use Rattle.wentries.specs.Blocks.{AreFilled, HasRoom, IsHome, flat, half, halved, longest, IsGrown}
use Rattle.wentries.specs.declared.entries.Entry.{Entry}
use Rattle.wentries.specs.declared.held.Held.{Held}
use Rattle.wentries.proofs.EntryFacts.{length-known_entries}
use Rattle.wentries.proofs.BlockFacts.{behind_next, below_next, counted_after, known_append, put_behind, rising_at}
use Rattle.wentries.proofs.Lists.{length-set}

pub block_at : (bs : List (List Entry)) (k : ℕ) (d e : List Entry) → k < length bs → get_or bs k d ≡ get_or bs k e
block_at [] k d e lt = absurd (omega arith)
block_at (b ∷ bs) zero d e lt = refl
block_at (b ∷ bs) (suc k) d e lt = block_at bs k d e (omega arith)

-- ---- two halves

pub halved_is : (bs : List (List Entry)) (k : ℕ) (d front back : List Entry) → k < length bs
    → front ≡ take half (get_or bs k d) → back ≡ drop half (get_or bs k d) → set (insert bs (suc k) back) k front ≡ halved k bs
halved_is [] k d front back lt f g = absurd (omega arith)
halved_is (b ∷ bs) zero d front back lt f g = ap (λ x. x ∷ back ∷ bs) f ∙ ap (λ x. take half b ∷ x ∷ bs) g
halved_is (b ∷ bs) (suc k) d front back lt f g = ap (λ l. b ∷ l) (halved_is bs k d front back (omega arith) f g)

get_insert : (bs : List (List Entry)) (k : ℕ) (x d : List Entry) → k < length bs → get_or (insert bs (suc k) x) k d ≡ get_or bs k d
get_insert [] k x d lt = absurd (omega arith)
get_insert (b ∷ bs) zero x d lt = refl
get_insert (b ∷ bs) (suc k) x d lt = get_insert bs k x d (omega arith)

-- a block is cut: its later half is put behind it, and then let go
pub cut_is : (bs more : List (List Entry)) (k : ℕ) (b c later front : List Entry) → k < length bs → b ≡ get_or bs k b
    → later ≡ drop half b → more ≡ insert bs (k + 1) later → c ≡ get_or more k c → front ≡ take half c → set more k front ≡ halved k bs
cut_is bs more k b c later front lt is l put at f =
    let next : more ≡ insert bs (suc k) later = put ∙ ap (λ m. insert bs m later) {x = k + 1} {y = suc k} (omega arith) in
    let same : c ≡ get_or bs k c = at ∙ ap (λ l. get_or l k c) next ∙ get_insert bs k later c lt in
    ap (λ l. set l k front) next
    ∙ halved_is bs k b front later lt (f ∙ ap (take half) (same ∙ block_at bs k c b lt)) (l ∙ ap (drop half) is)

pub flat_halved : (bs : List (List Entry)) (k : ℕ) → flat (halved k bs) ≡ flat bs
flat_halved [] k = refl
flat_halved (b ∷ bs) zero = sym (append_assoc (take half b) (drop half b) (flat bs)) ∙ ap (λ l. l ++ flat bs) (take-append-drop half b)
flat_halved (b ∷ bs) (suc k) = ap (λ l. b ++ l) (flat_halved bs k)

take_halved : (bs : List (List Entry)) (k : ℕ) → take k (halved k bs) ≡ take k bs
take_halved [] k = refl
take_halved (b ∷ bs) zero = refl
take_halved (b ∷ bs) (suc k) = ap (λ l. b ∷ l) (take_halved bs k)

drop_halved : (bs : List (List Entry)) (k : ℕ) → k < length bs → drop (suc (suc k)) (halved k bs) ≡ drop (suc k) bs
drop_halved [] k lt = absurd (omega arith)
drop_halved (b ∷ bs) zero lt = refl
drop_halved (b ∷ bs) (suc k) lt = drop_halved bs k (omega arith)

pub length_halved : (bs : List (List Entry)) (k : ℕ) → k < length bs → length (halved k bs) ≡ suc (length bs)
length_halved [] k lt = absurd (omega arith)
length_halved (b ∷ bs) zero lt = refl
length_halved (b ∷ bs) (suc k) lt = ap suc (length_halved bs k (omega arith))

first_halved : (bs : List (List Entry)) (k : ℕ) (d : List Entry) → k < length bs → get_or (halved k bs) k d ≡ take half (get_or bs k d)
first_halved [] k d lt = absurd (omega arith)
first_halved (b ∷ bs) zero d lt = refl
first_halved (b ∷ bs) (suc k) d lt = first_halved bs k d (omega arith)

later_halved : (bs : List (List Entry)) (k : ℕ) (d : List Entry) → k < length bs
    → get_or (halved k bs) (suc k) d ≡ drop half (get_or bs k d)
later_halved [] k d lt = absurd (omega arith)
later_halved (b ∷ bs) zero d lt = refl
later_halved (b ∷ bs) (suc k) d lt = later_halved bs k d (omega arith)

length_parts : (n m : ℕ) (b : List Entry) → length b ≡ n + m → (length (take n b) ≡ n) × (length (drop n b) ≡ m)
length_parts zero m b e = (refl, omega (arith, e))
length_parts (suc n) m [] e = absurd (omega arith)
length_parts (suc n) m (x ∷ b) e = let rest = length_parts n m b (omega (arith, e)) in (ap suc rest.0, rest.1)

length_first : (b : List Entry) → length b ≡ longest → length (take half b) ≡ half
length_first b e = (length_parts half half b (omega (arith, e))).0

length_later : (b : List Entry) → length b ≡ longest → length (drop half b) ≡ half
length_later b e = (length_parts half half b (omega (arith, e))).1

at_least : (n m : ℕ) → m ≡ n → n ≤ m
at_least n m e = omega (arith, e)

pub filled_halved : (bs : List (List Entry)) (k : ℕ) (d : List Entry) → k < length bs → length (get_or bs k d) ≡ longest
    → AreFilled half bs → AreFilled half (halved k bs)
filled_halved [] k d lt e h = absurd (omega arith)
filled_halved (b ∷ []) zero d lt e h = (at_least half _ (length_first b e), tt)
filled_halved (b ∷ []) (suc k) d lt e h = absurd (omega arith)
filled_halved (b ∷ c ∷ bs) zero d lt e h = (at_least half _ (length_first b e), (at_least half _ (length_later b e), h.1))
filled_halved (b ∷ c ∷ bs) (suc zero) d lt e h = (h.0, filled_halved (c ∷ bs) zero d (omega arith) e h.1)
filled_halved (b ∷ c ∷ bs) (suc (suc k)) d lt e h = (h.0, filled_halved (c ∷ bs) (suc k) d (omega arith) e h.1)

-- ---- the home of a name, when its block is cut

pub home_first : (bs : List (List Entry)) (n : NameParts) (k : ℕ) (b : List Entry) → IsHome bs n k → IsRising (flat bs)
    → b ≡ get_or (halved k bs) k b → ((after : List Entry) → IsRising (b ++ after) → AreBehind n (known_entries after))
    → IsHome (halved k bs) n k
home_first bs n k b h rises is behind =
    let lt : k < length (halved k bs) = omega (arith, h.in_range, length_halved bs k h.in_range) in
    record {
      in_range = lt;
      before = subst (λ l. AreBelow n (known_entries (flat l))) (sym (take_halved bs k)) h.before;
      behind = behind_next (halved k bs) k b n lt is (subst IsRising (sym (flat_halved bs k)) rises) behind;
    }

pub home_later : (bs : List (List Entry)) (n : NameParts) (k : ℕ) (b : List Entry) → IsHome bs n k → IsRising (flat bs)
    → b ≡ get_or (halved k bs) k b → ((before : List Entry) → IsRising (before ++ b)
    → AreBelow n (known_entries (before ++ b))) → IsHome (halved k bs) n (k + 1)
home_later bs n k b h rises is below =
    let next : suc (suc k) ≡ suc (k + 1) = omega arith in
    let lt : k < length (halved k bs) = omega (arith, h.in_range, length_halved bs k h.in_range) in
    record {
      in_range = omega (arith, h.in_range, length_halved bs k h.in_range);
      before = below_next (halved k bs) k b n lt is (subst IsRising (sym (flat_halved bs k)) rises) below;
      behind = subst (λ m. AreBehind n (known_entries (flat (drop m (halved k bs))))) next
          (subst (λ l. AreBehind n (known_entries (flat l))) (sym (drop_halved bs k h.in_range)) h.behind);
    }

-- ---- room

pub room_below : (b : List Entry) (n : NameParts) → IsRising b → length b < longest → HasRoom b n
room_below b n h lt k = by (is_some (find name_cmp n (known_entries b))) (length-put name_cmp names_total n k (known_entries b) h)
  where
    by : (c : Bool) → length (put name_cmp n k (known_entries b)) ≡ cond c (length (known_entries b))
        (length (known_entries b) + 1) → length (put name_cmp n k (known_entries b)) ≤ longest
    by true e = omega (arith, e, length-known_entries b, lt)
    by false e = omega (arith, e, length-known_entries b, lt)

pub room_known : (o : Option (Bor Held)) (b : List Entry) (n : NameParts) → option_map known_of (option_copied o)
    ≡ find name_cmp n (known_entries b) → is_some o ≡ true → IsRising b → length b ≤ longest → HasRoom b n
room_known o b n known is h le k = omega (arith, counted_after o b n k true known is h, le)

pub room_first : (bs : List (List Entry)) (n : NameParts) (k : ℕ) (d : List Entry) → k < length bs
    → length (get_or bs k d) ≡ longest → IsRising (get_or (halved k bs) k d) → HasRoom (get_or (halved k bs) k d) n
room_first bs n k d lt e h = room_below (get_or (halved k bs) k d) n h
    (omega (arith, length_first (get_or bs k d) e, ap length (first_halved bs k d lt)))

pub room_later : (bs : List (List Entry)) (n : NameParts) (k : ℕ) (d : List Entry) → k < length bs
    → length (get_or bs k d) ≡ longest → IsRising (get_or (halved k bs) (suc k) d) → HasRoom (get_or (halved k bs) (suc k) d) n
room_later bs n k d lt e h = room_below (get_or (halved k bs) (suc k) d) n h
    (omega (arith, length_later (get_or bs k d) e, ap length (later_halved bs k d lt)))

-- ---- what is known where a block was cut

module _ (bs more : List (List Entry)) (n : NameParts) (k : ℕ) (b : List Entry) (cut : more ≡ halved k bs)
    (within : k < length bs) (rises : IsRising (flat bs)) where
  pub cut_within : k < length more
  cut_within = omega (arith, within, ap length cut, length_halved bs k within)

  pub cut_flat : flat more ≡ flat bs
  cut_flat = ap flat cut ∙ flat_halved bs k

  cut_rises : IsRising (flat (halved k bs))
  cut_rises = subst IsRising (sym (flat_halved bs k)) rises

  pub cut_home_first : IsHome bs n k → b ≡ get_or more k b → ((after : List Entry) → IsRising (b ++ after)
      → AreBehind n (known_entries after)) → IsHome more n k
  cut_home_first h is behind = subst (λ l. IsHome l n k) (sym cut) (home_first bs n k b h rises (is ∙ ap (λ l. get_or l k b) cut) behind)

  pub cut_home_later : IsHome bs n k → b ≡ get_or more k b → ((before : List Entry) → IsRising (before ++ b)
      → AreBelow n (known_entries (before ++ b))) → IsHome more n (k + 1)
  cut_home_later h is below = subst (λ l. IsHome l n (k + 1)) (sym cut)
      (home_later bs n k b h rises (is ∙ ap (λ l. get_or l k b) cut) below)

  module _ (full : List Entry) (is : full ≡ get_or bs k full) (most : length full ≡ longest) where
    cut_full : (d : List Entry) → length (get_or bs k d) ≡ longest
    cut_full d = ap length (block_at bs k d full within ∙ sym is) ∙ most

    pub cut_room_first : (d : List Entry) → HasRoom (get_or more k d) n
    cut_room_first d =
        let inside : k < length (halved k bs) = omega (arith, within, length_halved bs k within) in
        subst (λ l. HasRoom (get_or l k d) n) (sym cut) (room_first bs n k d within (cut_full d)
        (rising_at (halved k bs) k d inside cut_rises))

    pub cut_room_later : (d : List Entry) → HasRoom (get_or more (k + 1) d) n
    cut_room_later d =
        let inside : suc k < length (halved k bs) = omega (arith, within, length_halved bs k within) in
        let next : suc k ≡ k + 1 = omega arith in
        subst (λ m. HasRoom (get_or more m d) n) next (subst (λ l. HasRoom (get_or l (suc k) d) n) (sym cut)
        (room_later bs n k d within (cut_full d) (rising_at (halved k bs) (suc k) d inside cut_rises)))

    pub cut_filled : AreFilled half bs → AreFilled half more
    cut_filled h = subst (AreFilled half) (sym cut) (filled_halved bs k full within (cut_full full) h)

-- ---- blocks that grow

pub filled_set : (n : ℕ) (bs : List (List Entry)) (k : ℕ) (d c : List Entry) → length (get_or bs k d) ≤ length c
    → AreFilled n bs → AreFilled n (set bs k c)
filled_set n [] k d c le h = h
filled_set n (b ∷ []) zero d c le h = tt
filled_set n (b ∷ []) (suc k) d c le h = tt
filled_set n (b ∷ x ∷ bs) zero d c le h = (omega (arith, le, h.0), h.1)
filled_set n (b ∷ x ∷ bs) (suc zero) d c le h = (h.0, filled_set n (x ∷ bs) zero d c le h.1)
filled_set n (b ∷ x ∷ bs) (suc (suc k)) d c le h = (h.0, filled_set n (x ∷ bs) (suc k) d c le h.1)

pub filled_pushed : (n : ℕ) (bs : List (List Entry)) (k : ℕ) (b c : List Entry) (e : Entry) → b ≡ get_or bs k b
    → c ≡ b ++ e ∷ [] → AreFilled n bs → AreFilled n (set bs k c)
filled_pushed n bs k b c e is pushed h = filled_set n bs k b c (omega (arith, ap length is, ap length pushed, length-append b (e ∷ []))) h

pub filled_more : (n : ℕ) (bs : List (List Entry)) (k : ℕ) (d b : List Entry) → suc k ≡ length bs
    → n ≤ length (get_or bs k d) → AreFilled n bs → AreFilled n (bs ++ b ∷ [])
filled_more n [] k d b e le h = absurd (omega arith)
filled_more n (x ∷ []) zero d b e le h = (le, tt)
filled_more n (x ∷ []) (suc k) d b e le h = absurd (omega arith)
filled_more n (x ∷ y ∷ bs) zero d b e le h = absurd (omega arith)
filled_more n (x ∷ y ∷ bs) (suc k) d b e le h = (h.0, filled_more n (y ∷ bs) k d b (omega arith) le h.1)

pub filled_first : (n : ℕ) (bs : List (List Entry)) (b : List Entry) → length bs ≡ 0 → AreFilled n (bs ++ b ∷ [])
filled_first n [] b e = tt
filled_first n (x ∷ bs) b e = absurd (omega arith)

-- ---- an entry behind all others

pub flat_begun : (bs : List (List Entry)) (b : List Entry) → flat (bs ++ b ∷ []) ≡ flat bs ++ b
flat_begun [] b = append-nil b
flat_begun (x ∷ bs) b = ap (λ l. x ++ l) (flat_begun bs b) ∙ sym (append_assoc x (flat bs) b)

pub flat_grown : (bs : List (List Entry)) (k : ℕ) (d c more : List Entry) → suc k ≡ length bs → c ≡ get_or bs k d ++ more
    → flat (set bs k c) ≡ flat bs ++ more
flat_grown [] k d c more e is = absurd (omega arith)
flat_grown (b ∷ []) zero d c more e is = append-nil c ∙ is ∙ ap (λ l. l ++ more) (sym (append-nil b))
flat_grown (b ∷ []) (suc k) d c more e is = absurd (omega arith)
flat_grown (b ∷ x ∷ bs) zero d c more e is = absurd (omega arith)
flat_grown (b ∷ x ∷ bs) (suc k) d c more e is = ap (λ l. b ++ l) (flat_grown (x ∷ bs) k d c more (omega arith) is)
    ∙ sym (append_assoc b (flat (x ∷ bs)) more)

entry_at : (es : List Entry) (i : ℕ) (e : Entry) → i < length es → e ≡ get_or es i e → drop i es ≡ e ∷ drop (i + 1) es
entry_at [] i e lt is = absurd (omega arith)
entry_at (x ∷ es) zero e lt is = ap (λ y. y ∷ es) (sym is)
entry_at (x ∷ es) (suc i) e lt is = entry_at es i e (omega arith) is ∙ ap (λ m. e ∷ drop m (x ∷ es)) {x = suc (i + 1)} {y =
    suc i + 1} (omega arith)

-- one more of those that are put in turn
pub entries_more : (all more es : List Entry) (i : ℕ) (e shared : Entry) → i < length es → e ≡ get_or es i e → shared ≡ e
    → more ≡ all ++ shared ∷ [] → all ++ drop i es ≡ es → more ++ drop (i + 1) es ≡ es
entries_more all more es i e shared lt is same put whole =
    ap (λ l. l ++ drop (i + 1) es) put
    ∙ append_assoc all (shared ∷ []) (drop (i + 1) es)
    ∙ ap (λ y. all ++ y ∷ drop (i + 1) es) same
    ∙ ap (λ l. all ++ l) (sym (entry_at es i e lt is))
    ∙ whole

pub put_end : (es : List Entry) (e : Entry) → AreBelow e.name (known_entries es)
    → known_entries (es ++ e ∷ []) ≡ put name_cmp e.name (known_of e.held) (known_entries es)
put_end es e below =
    known_append es (e ∷ [])
    ∙ sym (put_behind (known_entries es) [] e.name (known_of e.held) below)
    ∙ ap (put name_cmp e.name (known_of e.held)) (append-nil (known_entries es))

-- ---- the blocks before the last stay

pub grown_begun : (old new : List (List Entry)) (b : List Entry) → new ≡ old ++ b ∷ [] → IsGrown old new
grown_begun old new b is = record {
  more = omega (arith, ap length is, length-append old (b ∷ []));
  long = omega (arith, ap length is, length-append old (b ∷ []));
  front = λ k lt. ap (take k) is ∙ take-append-le k old (b ∷ []) (omega (arith, lt));
}

pub grown_set : (old : List (List Entry)) (k : ℕ) (b : List Entry) → suc k ≡ length old → IsGrown old (set old k b)
grown_set old k b end = record {
  more = omega (arith, length-set old k b);
  long = omega (arith, length-set old k b);
  front = λ j lt. take-set-le j old k b (omega (arith, lt, end));
}
