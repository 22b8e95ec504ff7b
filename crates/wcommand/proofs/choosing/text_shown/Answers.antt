use Rattle.std.proofs.Common.{◌≡◌, ◌∙◌, ℕ, List, length, [], ap, sym, append_assoc, append-nil, chars}
use Rattle.std.proofs.lemmas.Str.{IsUtf8-past_char, chars_past_char, chars-nil}
use Rattle.std.proofs.lemmas.List.{nil_from_length}
use Rattle.wcommand.proofs.choosing.text_shown.Goals as goal

chars_of_empty : (text : List ℕ) → length text ≡ 0 → chars text ≡ []
chars_of_empty text none = ap chars (nil_from_length text none) ∙ chars-nil

pub characters-preserved : goal.characters-preserved
characters-preserved c =
    let held = c.characters.invariant in
    let parts = c.in-Some.ensures.steps.0 in
    let step = chars_past_char _ _ c.in-Some.c held.0 parts in
    (IsUtf8-past_char _ _ c.in-Some.c held.0 parts, rw (c.in_default.ensures.bytes, c.shown.ensures, append_assoc) (rw step at held.1))

pub returns : goal.returns
returns c = sym (append-nil _) ∙ rw (chars_of_empty _ c.in-None.ensures.steps.0.0) at c.characters.invariant.1
