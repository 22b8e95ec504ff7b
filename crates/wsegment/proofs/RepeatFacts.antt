-- Two columns of one name.
use Rattle.std.proofs.Common.{◌≡◌, ◌∙◌, ◌++◌, ◌||◌, ◌<◌, ◌+◌, Bool, true, false, cond, not}
use Rattle.std.proofs.Common.{ℕ, List, [], ◌∷◌, drop, take, get_or, length, refl, sym, ap}
use Rattle.std.proofs.lemmas.List.{take-append-drop, take_more}
use Rattle.std.proofs.lemmas.List.Folds.{list_any-append}
use Rattle.std.proofs.lemmas.Map.Text.{is_eq-slice_cmp}
use Rattle.std.proofs.lemmas.Slice.Eq.{bytes_eq-Decides}
use Rattle.std.specs.Bool.{Decides}
use Rattle.std.specs.BTreeSet.{BTreeSet, Updates, contains}
use Rattle.std.specs.Borrow.{Bor}
use Rattle.std.specs.Cmp.Lexicographic.{slice_cmp}
use Rattle.std.specs.List.{list_any}
use Rattle.std.specs.Ordering.{is_eq, nat_cmp}
use Rattle.std.specs.Str.{bytes_eq}
use Rattle.std.specs.declared.cmp.Ordering.{Ordering}
use Rattle.wsegment.specs.Declaration.{Described}
use Rattle.wsegment.specs.Spelling.{repeats_name}

-- whether a column of the list has this name
abbrev pub has_name : List ℕ → List Described → Bool
has_name name columns = list_any (λ c. bytes_eq c.name name) columns

name-sym : (a b : List ℕ) → bytes_eq a b ≡ bytes_eq b a
name-sym a b = by (bytes_eq a b) (bytes_eq b a) (bytes_eq-Decides a b) (bytes_eq-Decides b a)
  where
    by : (r s : Bool) → Decides r (a ≡ b) → Decides s (b ≡ a) → r ≡ s
    by true s d e = sym (e.1 (sym (d.0 refl)))
    by false true d e = d.1 (sym (e.0 refl))
    by false false d e = refl

shuffle : (a s b r : Bool) → ((a || (s || false)) || (b || r)) ≡ ((s || b) || (a || r))
shuffle true true b r = refl
shuffle true false true r = refl
shuffle true false false r = refl
shuffle false true b r = refl
shuffle false false b r = refl

-- one more column behind others
pub repeats-push : (cs : List Described) (x : Described) → repeats_name (cs ++ x ∷ []) ≡ (has_name x.name cs || repeats_name cs)
repeats-push [] x = refl
repeats-push (c ∷ cs) x =
    rw (list_any-append (λ (other : Described). bytes_eq other.name c.name) cs (x ∷ []), repeats-push cs x, name-sym x.name c.name)
    (shuffle (has_name c.name cs) (bytes_eq c.name x.name) (has_name x.name cs) (repeats_name cs))

pub repeats-front : (cs ds : List Described) → repeats_name cs ≡ true → repeats_name (cs ++ ds) ≡ true
repeats-front [] ds e = cc e
repeats-front (c ∷ cs) ds e = rw (list_any-append (λ (other : Described). bytes_eq other.name c.name) cs ds)
    (by (has_name c.name cs) (has_name c.name ds) (repeats_name cs) (repeats_name (cs ++ ds)) e (repeats-front cs ds))
  where
    by : (a b r s : Bool) → (a || r) ≡ true → (r ≡ true → s ≡ true) → ((a || b) || s) ≡ true
    by true b r s e h = refl
    by false true r s e h = refl
    by false false r s e h = h e

-- a name that an earlier column has, and one that none has
pub repeats-found : (cs : List Described) (i : ℕ) (x : Described) → i < length cs → x ≡ get_or cs i x
    → has_name x.name (take i cs) ≡ true → repeats_name cs ≡ true
repeats-found cs i x lt is found =
    let more : take (i + 1) cs ≡ take i cs ++ x ∷ [] = take_more cs i x lt ∙ ap (λ y. take i cs ++ y ∷ []) (sym is) in
    let front : repeats_name (take (i + 1) cs) ≡ true = rw (more, repeats-push (take i cs) x, found) refl in
    ap repeats_name (sym (take-append-drop (i + 1) cs)) ∙ repeats-front (take (i + 1) cs) (drop (i + 1) cs) front

pub repeats-none : (cs : List Described) (i : ℕ) (x : Described) → i < length cs → x ≡ get_or cs i x
    → has_name x.name (take i cs) ≡ false → repeats_name (take i cs) ≡ false → repeats_name (take (i + 1) cs) ≡ false
repeats-none cs i x lt is none so_far = rw (take_more cs i x lt, ← is, repeats-push (take i cs) x, none, so_far) refl

abbrev pub by_text : Bor (List ℕ) → Bor (List ℕ) → Ordering
by_text x y = slice_cmp nat_cmp x.now y.now

or-cond : (r h : Bool) → cond r true h ≡ (h || (r || false))
or-cond true true = refl
or-cond true false = refl
or-cond false true = refl
or-cond false false = refl

-- a name goes among those that were seen
pub names-go : (old new : BTreeSet (Bor (List ℕ))) (name : Bor (List ℕ)) (cs : List Described) (i : ℕ) (x : Described)
    → i < length cs → x ≡ get_or cs i x → name.now ≡ x.name → Updates by_text old new name true
    → ((q : Bor (List ℕ)) → contains by_text old q ≡ has_name q.now (take i cs)) → (q : Bor (List ℕ))
    → contains by_text new q ≡ has_name q.now (take (i + 1) cs)
names-go old new name cs i x lt is same updates known q =
    let more : take (i + 1) cs ≡ take i cs ++ x ∷ [] = take_more cs i x lt ∙ ap (λ y. take i cs ++ y ∷ []) (sym is) in
    let after : has_name q.now (take (i + 1) cs) ≡ (has_name q.now (take i cs) || (bytes_eq x.name q.now || false)) =
    rw more (list_any-append (λ (c : Described). bytes_eq c.name q.now) (take i cs) (x ∷ [])) in
    let is_new : is_eq (slice_cmp nat_cmp name.now q.now) ≡ bytes_eq x.name q.now = is_eq-slice_cmp name.now q.now
    ∙ ap (λ n. bytes_eq n q.now) same in
    updates.0 q ∙ rw (is_new, known q) (or-cond (bytes_eq x.name q.now) (has_name q.now (take i cs))) ∙ sym after

-- what the answer of an insert says
pub was-there : (added b : Bool) → added ≡ not b → added ≡ false → b ≡ true
was-there added true e f = refl
was-there added false e f = sym f ∙ e

pub was-not-there : (added b : Bool) → added ≡ not b → added ≡ true → b ≡ false
was-not-there added true e f = sym f ∙ e
was-not-there added false e f = refl
