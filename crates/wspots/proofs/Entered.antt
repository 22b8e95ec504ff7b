-- The WINDOW entries of a SELECT, and the names of the columns in its GROUP BY, mark after mark.
use Rattle.std.proofs.Common.{◌≡◌, ℕ, suc, ◌+◌, ◌<◌, Bool, true, false, ◌||◌, cond, List, [], drop, get_or, length, ap, sym, ◌∙◌}
use Rattle.std.proofs.Common.{Option, Some, None, add-one, refl, is_some, true≢false, if◌then◌else◌}
use Rattle.std.proofs.Math.Seq.{drop-cons}
use Rattle.std.proofs.lemmas.Map.Text.{is_eq-slice_cmp}
use Rattle.std.proofs.lemmas.Slice.Eq.{bytes_eq-Decides}
use Rattle.std.specs.Borrow.{Bor}
use Rattle.std.specs.BTreeMap.{BTreeMap, IsEmpty, Updates}
use Rattle.std.specs.Map.{lookup}
use Rattle.std.specs.BTreeSet as sets
use Rattle.std.specs.BTreeSet.{BTreeSet}
use Rattle.std.specs.List.{list_any}
use Rattle.std.specs.Ordering.{is_eq}
use Rattle.std.specs.Str.{bytes_eq}
use Rattle.wgrammar.specs.declared.following.Mark.{Mark}
use Rattle.wlexer.specs.declared.token.Token.{Token}
use Rattle.wscope.specs.Texts.{by_text}
use Rattle.wspots.specs.declared.scene.Written.{Written}
use Rattle.wspots.specs.Items.{of_name}
use Rattle.wspots.specs.Names.{holds}
use Rattle.wspots.specs.Made.{HasEntries, HasNames, entry_from, entry_name, grouped_name, is_text}

abbrev or_first : Option ℕ → Option ℕ → Option ℕ
or_first None other = other
or_first (Some one) other = Some one

-- a map has the first entries of the marks before one
abbrev pub AreEntered : List Token → ℕ → List Mark → ℕ → BTreeMap (Bor (List ℕ)) ℕ → Type 0
AreEntered tokens level marks i entries = (q : Bor (List ℕ))
    → or_first (of_name entries q.now) (entry_from tokens level q.now i (drop i marks)) ≡ entry_from tokens level q.now 0 marks

-- a set has the names of the columns in GROUP BY at the marks before one
abbrev pub AreNamed : Written → ℕ → ℕ → BTreeSet (Bor (List ℕ)) → Type 0
AreNamed written level i names = (q : Bor (List ℕ))
    → (holds names q.now || list_any (λ mark. is_text q.now (grouped_name written level mark)) (drop i written.marks.now))
    ≡ list_any (λ mark. is_text q.now (grouped_name written level mark)) written.marks.now

-- ---- entries

kept : (b : Bool) (g one other : Option ℕ) → (b ≡ true → is_some g ≡ true) → or_first g other ≡ or_first g (if b then one else other)
kept true None one other e = absurd (true≢false (sym (e refl)))
kept true (Some n) one other e = refl
kept false g one other e = refl

put : (b : Bool) (g : Option ℕ) (i : ℕ) (other : Option ℕ) → (b ≡ true → is_some g ≡ false)
    → or_first (cond b (Some i) g) other ≡ or_first g (if b then Some i else other)
put true None i other e = refl
put true (Some n) i other e = absurd (true≢false (e refl))
put false g i other e = refl

same_text : (name q : List ℕ) (P : List ℕ → Bool) (b : Bool) → P name ≡ b → bytes_eq name q ≡ true → P q ≡ b
same_text name q P b e is = ap P (sym ((bytes_eq-Decides name q).0 is)) ∙ e

or_none : (g : Option ℕ) → or_first g None ≡ g
or_none None = refl
or_none (Some n) = refl

pub none_entered : (tokens : List Token) (level : ℕ) (marks : List Mark) (m : BTreeMap (Bor (List ℕ)) ℕ) → IsEmpty m
    → AreEntered tokens level marks 0 m
none_entered tokens level marks m e = λ q. ap (λ (es : List (Bor (List ℕ) × ℕ)). or_first
    (lookup (λ (k : Bor (List ℕ)). is_eq (by_text q k)) es) (entry_from tokens level q.now 0 marks)) e

pub all_entered : (tokens : List Token) (level : ℕ) (marks : List Mark) (i : ℕ) (m : BTreeMap (Bor (List ℕ)) ℕ) → drop i marks ≡ []
    → AreEntered tokens level marks i m → HasEntries tokens level marks m
all_entered tokens level marks i m e all = λ q. sym (or_none (of_name m q.now))
    ∙ ap (λ l. or_first (of_name m q.now) (entry_from tokens level q.now i l)) (sym e) ∙ all q

module _ (tokens : List Token) (level : ℕ) (marks : List Mark) (i : ℕ) (d : Mark) (h : i < length marks) where
  abbrev mark : Mark
  mark = get_or marks i d

  abbrev behind : List ℕ → Option ℕ
  behind q = entry_from tokens level q (suc i) (drop (suc i) marks)

  entry_step : (q : List ℕ) (name : Option (List ℕ)) → entry_name tokens level mark ≡ name
      → entry_from tokens level q i (drop i marks) ≡ (if is_text q name then Some i else behind q)
  entry_step q name e =
      rw (drop-cons marks i d) (ap (λ n. if is_text q n then Some i else behind q) e)

  pub entered_nowhere : (m : BTreeMap (Bor (List ℕ)) ℕ) → entry_name tokens level mark ≡ None
      → AreEntered tokens level marks i m → AreEntered tokens level marks (i + 1) m
  entered_nowhere m e all = rw add-one (λ q. ap (or_first (of_name m q.now)) (sym (entry_step q.now None e)) ∙ all q)

  pub entered_before : (m : BTreeMap (Bor (List ℕ)) ℕ) (name : Bor (List ℕ)) → entry_name tokens level mark ≡ Some name.now
      → is_some (of_name m name.now) ≡ true → AreEntered tokens level marks i m → AreEntered tokens level marks (i + 1) m
  entered_before m name e known all = rw add-one (λ q. kept (bytes_eq name.now q.now) (of_name m q.now) (Some i) (behind q.now)
      (same_text name.now q.now (λ n. is_some (of_name m n)) true known)
      ∙ ap (or_first (of_name m q.now)) (sym (entry_step q.now (Some name.now) e)) ∙ all q)

  pub entered_here : (m new : BTreeMap (Bor (List ℕ)) ℕ) (name : Bor (List ℕ)) → entry_name tokens level mark ≡ Some name.now
      → is_some (of_name m name.now) ≡ false → Updates by_text m new name (Some i)
      → AreEntered tokens level marks i m → AreEntered tokens level marks (i + 1) new
  entered_here m new name e unknown u all = rw add-one (λ q. ap (λ g. or_first g (behind q.now)) (u.0 q
      ∙ ap (λ b. cond b (Some i) (of_name m q.now)) (is_eq-slice_cmp name.now q.now))
      ∙ put (bytes_eq name.now q.now) (of_name m q.now) i (behind q.now)
      (same_text name.now q.now (λ n. is_some (of_name m n)) false unknown)
      ∙ ap (or_first (of_name m q.now)) (sym (entry_step q.now (Some name.now) e)) ∙ all q)

-- ---- names in GROUP BY

or_false : (b : Bool) → (b || false) ≡ b
or_false true = refl
or_false false = refl

added : (b g other : Bool) → (cond b true g || other) ≡ (g || (b || other))
added true true other = refl
added true false other = refl
added false g other = refl

pub none_named : (written : Written) (level : ℕ) (names : BTreeSet (Bor (List ℕ))) → sets.IsEmpty names → AreNamed written level 0 names
none_named written level names e = λ q. ap (λ (ks : List (Bor (List ℕ))). list_any (λ (k : Bor (List ℕ)). is_eq (by_text q k)) ks
    || list_any (λ mark. is_text q.now (grouped_name written level mark)) written.marks.now) e

pub all_named : (written : Written) (level i : ℕ) (names : BTreeSet (Bor (List ℕ))) → drop i written.marks.now ≡ []
    → AreNamed written level i names → HasNames written level names
all_named written level i names e all = λ q. sym (or_false (holds names q.now))
    ∙ ap (λ l. holds names q.now || list_any (λ mark. is_text q.now (grouped_name written level mark)) l) (sym e) ∙ all q

module _ (written : Written) (level i : ℕ) (d : Mark) (h : i < length written.marks.now) where
  abbrev here : Mark
  here = get_or written.marks.now i d

  abbrev are_behind : List ℕ → Bool
  are_behind q = list_any (λ mark. is_text q (grouped_name written level mark)) (drop (suc i) written.marks.now)

  name_step : (q : List ℕ) (name : Option (List ℕ)) → grouped_name written level here ≡ name
      → list_any (λ mark. is_text q (grouped_name written level mark)) (drop i written.marks.now) ≡ (is_text q name || are_behind q)
  name_step q name e =
      rw (drop-cons written.marks.now i d) (ap (λ n. is_text q n || are_behind q) e)

  pub named_nowhere : (names : BTreeSet (Bor (List ℕ))) → grouped_name written level here ≡ None
      → AreNamed written level i names → AreNamed written level (i + 1) names
  named_nowhere names e all = rw add-one (λ q. ap (λ b. holds names q.now || b) (sym (name_step q.now None e)) ∙ all q)

  pub named_here : (names new : BTreeSet (Bor (List ℕ))) (name : Bor (List ℕ)) → grouped_name written level here ≡ Some name.now
      → sets.Updates by_text names new name true → AreNamed written level i names → AreNamed written level (i + 1) new
  named_here names new name e u all = rw add-one (λ q. ap (λ b. b || are_behind q.now) (u.0 q
      ∙ ap (λ b. cond b true (holds names q.now)) (is_eq-slice_cmp name.now q.now))
      ∙ added (bytes_eq name.now q.now) (holds names q.now) (are_behind q.now)
      ∙ ap (λ b. holds names q.now || b) (sym (name_step q.now (Some name.now) e)) ∙ all q)
