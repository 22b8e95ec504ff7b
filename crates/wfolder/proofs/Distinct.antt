-- The entries of a disk in memory differ in their paths.
use Rattle.std.proofs.Common.{◌≡◌, ◌∙◌, ◌&&◌, ◌||◌, ◌++◌, ℕ, Bool, true, false, cond, not, List, [], ◌∷◌, Option, Result, Ok}
use Rattle.std.proofs.Common.{Err, OnOk, OnErr, refl, sym, ap, map}
use Rattle.std.specs.Prelude.{reverse}
use Rattle.std.proofs.lemmas.Bool.{false≢true}
use Rattle.std.proofs.lemmas.Slice.Eq.{bytes_eq-Decides}
use Rattle.std.specs.Bool.{Decides}
use Rattle.std.specs.List.{AllByRecursion}
use Rattle.std.specs.Str.{bytes_eq}
use Rattle.wfolder.specs.Memory.{AreKnown, IsEntry, IsKnown, Leading, are_distinct, has_path, leading_of, led, may_lead, relinked, settled}
use Rattle.wfolder.specs.declared.disk.Entry.{Entry}
use Rattle.wfolder.proofs.Memory.{known_led, known_same}

-- a path that is led is there, and no other is new
has_led : (path other : List ℕ) (file : Option ℕ) (es : List Leading)
    → has_path other (led path file es) ≡ (bytes_eq path other || has_path other es)
has_led path other file [] = refl
has_led path other file (e ∷ es) = by (bytes_eq e.path path) (bytes_eq-Decides e.path path) (has_led path other file es)
  where
    twice : (a b : Bool) → (a || b) ≡ (a || (a || b))
    twice true b = refl
    twice false b = refl

    swap : (a b c : Bool) → (a || (b || c)) ≡ (b || (a || c))
    swap true true c = refl
    swap true false c = refl
    swap false b c = refl

    by : (b : Bool) → Decides b (e.path ≡ path) → has_path other (led path file es) ≡ (bytes_eq path other || has_path other es)
        → has_path other (cond b (relinked file e ∷ es) (e ∷ led path file es))
        ≡ (bytes_eq path other || (bytes_eq e.path other || has_path other es))
    by true d more = ap (λ (p : List ℕ). bytes_eq p other || has_path other es) (d.0 refl)
        ∙ twice (bytes_eq path other) (has_path other es)
        ∙ ap (λ (p : List ℕ). bytes_eq path other || (bytes_eq p other || has_path other es)) (sym (d.0 refl))
    by false d more = ap (λ b. bytes_eq e.path other || b) more ∙ swap (bytes_eq e.path other) (bytes_eq path other) (has_path other es)

left_false : (a b : Bool) → a ≡ false → (a || b) ≡ b
left_false a b is = ap (λ (c : Bool). c || b) is

both : (a b : Bool) → (a && b) ≡ true → (a ≡ true) × (b ≡ true)
both true b is = (refl, is)
both false b is = absurd (false≢true is)

no_more : (a b c : Bool) → not a ≡ true → b ≡ true → c ≡ a → (not c && b) ≡ true
no_more true b c is all same = absurd (false≢true is)
no_more false b c is all same = rw same all

differ : (a b : List ℕ) → bytes_eq a b ≡ false → bytes_eq b a ≡ false
differ a b is = by (bytes_eq b a) (bytes_eq-Decides b a)
  where
    by : (r : Bool) → Decides r (b ≡ a) → r ≡ false
    by true d = absurd (false≢true (sym is ∙ (bytes_eq-Decides a b).1 (sym (d.0 refl))))
    by false d = refl

pub distinct_led : (path : List ℕ) (file : Option ℕ) (es : List Leading) → are_distinct es ≡ true
    → are_distinct (led path file es) ≡ true
distinct_led path file [] all = refl
distinct_led path file (e ∷ es) all =
    by (bytes_eq e.path path) refl (both (not (has_path e.path es)) (are_distinct es) all) (distinct_led path file es)
  where
    by : (b : Bool) → bytes_eq e.path path ≡ b → (not (has_path e.path es) ≡ true) × (are_distinct es ≡ true)
        → (are_distinct es ≡ true → are_distinct (led path file es) ≡ true)
        → are_distinct (cond b (relinked file e ∷ es) (e ∷ led path file es)) ≡ true
    by true is h more = all
    by false is h more = no_more (has_path e.path es) (are_distinct (led path file es)) (has_path e.path (led path file es)) h.0
        (more h.1)
        (has_led path e.path file es ∙ left_false (bytes_eq path e.path) (has_path e.path es) (differ e.path path is))

has_settled : (path : List ℕ) (es : List Leading) → has_path path (map settled es) ≡ has_path path es
has_settled path [] = refl
has_settled path (e ∷ es) = ap (λ b. bytes_eq e.path path || b) (has_settled path es)

pub distinct_settled : (es : List Leading) → are_distinct es ≡ true → are_distinct (map settled es) ≡ true
distinct_settled [] all = refl
distinct_settled (e ∷ es) all =
    let h = both (not (has_path e.path es)) (are_distinct es) all in
    no_more (has_path e.path es) (are_distinct (map settled es)) (has_path e.path (map settled es)) h.0 (distinct_settled es h.1)
    (has_settled e.path es)

-- so each is the entry of its path
one_more : (e : Leading) (es xs : List Leading) → has_path e.path xs ≡ false → AllByRecursion (IsEntry es) xs
    → AllByRecursion (IsEntry (e ∷ es)) xs
one_more e es [] none all = tt
one_more e es (x ∷ xs) none all = by (bytes_eq x.path e.path) refl none (one_more e es xs)
  where
    by : (b : Bool) → bytes_eq x.path e.path ≡ b → (b || has_path e.path xs) ≡ false
        → (has_path e.path xs ≡ false → AllByRecursion (IsEntry es) xs → AllByRecursion (IsEntry (e ∷ es)) xs)
        → AllByRecursion (IsEntry (e ∷ es)) (x ∷ xs)
    by true is none more = absurd (false≢true (sym none))
    by false is none more = (
      ap (λ b. cond b (e.file ∷ reverse e.earlier) (may_lead x.path es)) (differ x.path e.path is) ∙ all.0,
      more none all.1,
    )

not_true : (a : Bool) → not a ≡ true → a ≡ false
not_true true is = absurd (false≢true is)
not_true false is = refl

pub all_entries : (es : List Leading) → are_distinct es ≡ true → AllByRecursion (IsEntry es) es
all_entries [] all = tt
all_entries (e ∷ es) all =
    let h = both (not (has_path e.path es)) (are_distinct es) all in (
      ap (λ b. cond b (e.file ∷ reverse e.earlier) (may_lead e.path es)) ((bytes_eq-Decides e.path e.path).1 refl),
      one_more e es es (not_true (has_path e.path es) h.0) (all_entries es h.1),
    )

-- both facts on a disk's entries are kept where a path is led, or nothing is changed
pub kept_by : {E : Type 0} (r : Result (Unit {0}) E) (file : Option ℕ) (path : List ℕ) (old new : List Leading) (count : ℕ)
    → IsKnown count file → AreKnown count old → are_distinct old ≡ true → OnOk r (new ≡ led path file old) → OnErr r (new ≡ old)
    → AreKnown count new × (are_distinct new ≡ true)
kept_by (Ok t) file path old new count is known distinct ok err = (
  known_same count (led path file old) new ok (known_led path file old count is known),
  ap are_distinct ok ∙ distinct_led path file old distinct,
)
kept_by (Err e) file path old new count is known distinct ok err =
    (known_same count old new err known, ap are_distinct err ∙ distinct)

pub kept_push : (b : Bool) (file : Option ℕ) (path : List ℕ) (es new : List Entry) (e : Entry) (count : ℕ) → IsKnown count file
    → AreKnown count (map leading_of es) → are_distinct (map leading_of es) ≡ true → new ≡ cond b (es ++ e ∷ []) es
    → map leading_of (es ++ e ∷ []) ≡ led path file (map leading_of es)
    → AreKnown count (map leading_of new) × (are_distinct (map leading_of new) ≡ true)
kept_push true file path es new e count is known distinct same leads =
    let all : map leading_of new ≡ led path file (map leading_of es) = ap (map leading_of) same ∙ leads in (
      known_same count (led path file (map leading_of es)) (map leading_of new) all
          (known_led path file (map leading_of es) count is known),
      ap are_distinct all ∙ distinct_led path file (map leading_of es) distinct,
    )
kept_push false file path es new e count is known distinct same leads =
    let all : map leading_of new ≡ map leading_of es = ap (map leading_of) same in
    (known_same count (map leading_of es) (map leading_of new) all known, ap are_distinct all ∙ distinct)
