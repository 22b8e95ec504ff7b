-- A line of a query, and its characters one after another.
use Rattle.std.proofs.Common.{◌≡◌, ◌≢◌, ◌⊎◌, inl, inr, refl, sym, ◌-◌, ◌<◌, ◌≤◌, ◌++◌, ◌∷◌, ℕ, zero, suc, List, length, ap, rules}
use Rattle.std.proofs.Common.{Bool, true, false, None, Some, cond, drop, take, nat_lt}
use Rattle.std.specs.List.{before_first, position, position_or_len}
use Rattle.std.proofs.lemmas.Bool.{cases_lt}
use Rattle.std.proofs.lemmas.List.{take_all}
use Rattle.wshown.specs.Shown.{line_character, line_characters}

-- what stands before the first that passes
pub before_found : (p : ℕ → Bool) (bytes : List ℕ) (n : ℕ) → position p bytes ≡ Some n → take n bytes ≡ before_first p bytes
before_found p bytes n found = by (nat_lt (position_or_len p bytes) (length bytes)) found
  where
    by : (b : Bool) → cond b (Some (position_or_len p bytes)) None ≡ Some n → take n bytes ≡ before_first p bytes
    by true e = search (rules, e)
    by false e = cc

pub before_none : (p : ℕ → Bool) (bytes : List ℕ) → position p bytes ≡ None → bytes ≡ before_first p bytes
before_none p bytes none = by (cases_lt (position_or_len p bytes) (length bytes))
  where
    by : (position_or_len p bytes < length bytes) ⊎ (length bytes ≤ position_or_len p bytes) → bytes ≡ before_first p bytes
    by (inl less) = absurd (search (rules, none, less))
    by (inr all) = sym (take_all (position_or_len p bytes) bytes all)

-- ---- its characters

pub line_step : (left c : ℕ) (cs : List ℕ) → left ≢ 0 → line_characters left (c ∷ cs) ≡ line_character c ++ line_characters (left - 1) cs
line_step zero c cs some = absurd (some refl)
line_step (suc left) c cs some = ap (λ n. line_character c ++ line_characters n cs) (search rules)

pub left_out_step : (before c : ℕ) (cs : List ℕ) → before ≢ 0 → drop before (c ∷ cs) ≡ drop (before - 1) cs
left_out_step zero c cs some = absurd (some refl)
left_out_step (suc before) c cs some = ap (λ n. drop n cs) (search rules)
