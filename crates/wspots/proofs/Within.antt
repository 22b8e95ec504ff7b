-- What is read at a token is read within the tokens.
use Rattle.std.proofs.Common.{◌≡◌, sym, ap, ◌∙◌, ℕ, ◌<◌, ◌≤◌, ◌^◌}
use Rattle.std.proofs.Common.{Bool, true, false, ◌&&◌, List, length, arith, Option, Some, None}
use Rattle.std.proofs.Common.{◌-◌, inl, inr, refl, slice_get, slice_range, subst, take, drop, if◌then◌else◌}
use Rattle.std.proofs.lemmas.Option.{slice_get_cases}
use Rattle.wlexer.specs.declared.token.Token.{Token}
use Rattle.wlexer.specs.declared.token.Symbol.TheVariants.{OpenParenthesis, Asterisk}
use Rattle.wlexer.specs.declared.keyword.Keyword.TheVariants.{Grouping}
use Rattle.wlexer.specs.Token.{TokenMeaning}
use Rattle.wgrammar.specs.declared.following.Mark.{Mark}
use Rattle.wgrammar.specs.declared.grammar.Role.TheVariants.{Identifier}
use Rattle.wspots.specs.declared.scene.Scene.{Scene}
use Rattle.wspots.specs.Keys.{is_wrong_key}
use Rattle.wspots.specs.Scene.{ColumnName, column, column_at, column_named, column_of, mark_of, tokens_of}
use Rattle.wclauses.specs.Tokens.{next, passes, name_of, name_at, is_called, is_grouping, is_star, says_keyword, says_symbol}

false_is_not : false ≡ true → ⊥
false_is_not h = cc

none_passes : (test : TokenMeaning → Bool) (o : Option Token) → o ≡ None → passes test o ≡ true → ⊥
none_passes test None e h = cc
none_passes test (Some token) e h = cc

pub passes_within : (test : TokenMeaning → Bool) (ts : List Token) (k : ℕ) → passes test (slice_get ts k) ≡ true → k < length ts
passes_within test ts k h = elim (slice_get_cases ts k).1 [
  | inl (t, within, found, is) ↦ within
  | inr (past, none) ↦ absurd (none_passes test (slice_get ts k) none h)
]

none_named : (name : List ℕ) (o : Option Token) → o ≡ None → name_of o ≡ Some name → ⊥
none_named name None e h = cc
none_named name (Some token) e h = cc

pub name_within : (ts : List Token) (k : ℕ) (name : List ℕ) → name_at ts k ≡ Some name → k < length ts
name_within ts k name h = elim (slice_get_cases ts k).1 [
  | inl (t, within, found, is) ↦ within
  | inr (past, none) ↦ absurd (none_named name (slice_get ts k) none h)
]

pub called_within : (ts : List Token) (k : ℕ) → k < 2 ^ 64 → is_called ts k ≡ true → k < length ts
called_within ts k small h =
    let behind : next k < length ts = passes_within (says_symbol OpenParenthesis) ts (next k) h in omega (arith, behind, small)

both : (a b : Bool) → (a && b) ≡ true → a ≡ true
both true b h = refl
both false b h = h

pub grouping_within : (ts : List Token) (k : ℕ) → is_grouping ts k ≡ true → k < length ts
grouping_within ts k h = passes_within (says_keyword Grouping) ts k (both _ _ h)

pub star_within : (ts : List Token) (k : ℕ) → is_star ts k ≡ true → k < length ts
star_within ts k h = passes_within (says_symbol Asterisk) ts k (both _ _ h)

-- a key that holds a literal holds a token
pub wrong_within : (ts : List Token) (items from to : ℕ) → from ≤ to → to ≤ length ts → is_wrong_key (slice_range ts from to) items ≡ true
    → from < length ts
wrong_within ts items from to le within h = elim (slice_get_cases ts from).1 [
  | inl (t, inside, found, is) ↦ inside
  | inr (past, none) ↦
      let nothing : to - from ≡ 0 = omega (arith, le, within, past) in
      let told : false ≡ true = subst (λ (k : ℕ). is_wrong_key (take k (drop from ts)) items ≡ true) nothing h in
      absurd (false_is_not told)
]

no_column : (b : Bool) (c : ColumnName) (o : Option ColumnName) → o ≡ None → (if b then None else o) ≡ Some c → ⊥
no_column true c o e h = cc
no_column false c o e h = cc

pub column_within : (ts : List Token) (k : ℕ) (c : ColumnName) → column_at ts k ≡ Some c → k < length ts
column_within ts k c h = elim (slice_get_cases ts k).1 [
  | inl (t, within, found, is) ↦ within
  | inr (past, none) ↦
      absurd (no_column (is_called ts k) c (column_named ts k (name_at ts k))
      (ap (λ (o : Option Token). column_named ts k (name_of o)) none) h)
]

-- where a column is named behind a mark, a token stands there
pub source_within : (scene : Scene) (number : ℕ) (mark : Mark) (c : ColumnName) → mark_of scene number Identifier ≡ Some mark
    → column scene number ≡ Some c → mark.token < length (tokens_of scene)
source_within scene number mark c e h =
    column_within (tokens_of scene) mark.token c (sym (ap (λ (o : Option Mark). column_of (tokens_of scene) o) e) ∙ h)
