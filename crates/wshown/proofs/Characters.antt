-- Characters that are shown one after another.
use Rattle.std.proofs.Common.{rules, ◌≡◌, ◌≢◌, ◌∙◌, refl, ◌++◌, ◌-◌, ◌∷◌, ℕ, zero, suc, List, [], length, ap, chars}
use Rattle.std.proofs.lemmas.Str.{chars-nil}
use Rattle.std.proofs.lemmas.List.{nil_from_length}
use Rattle.wshown.specs.Shown.{shown_character, shown_characters}

pub chars_of_empty : (text : List ℕ) → length text ≡ 0 → chars text ≡ []
chars_of_empty text none = ap chars (nil_from_length text none) ∙ chars-nil

-- one character, and those behind it
pub shown_step : (left c : ℕ) (cs : List ℕ) → left ≢ 0 → shown_characters left (c ∷ cs) ≡ shown_character c
    ++ shown_characters (left - 1) cs
shown_step zero c cs some = absurd (some refl)
shown_step (suc left) c cs some = ap (λ n. shown_character c ++ shown_characters n cs) (search rules)
