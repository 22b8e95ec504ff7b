use Rattle.std.proofs.Common.{◌∙◌, sym, append_assoc, append-nil}
use Rattle.std.proofs.lemmas.Str.{IsUtf8-past_char, chars_past_char}
use Rattle.wshown.proofs.Characters.{chars_of_empty}
use Rattle.wshown.proofs.values.push_path.Goals as goal

pub characters-preserved : goal.characters-preserved
characters-preserved c =
    let held = c.characters.invariant in
    let parts = c.in-Some.ensures.steps.0 in
    let step = chars_past_char _ _ c.in-Some.c held.0 parts in (
      IsUtf8-past_char _ _ c.in-Some.c held.0 parts,
      rw (c.in_ok-push_character.ensures, append_assoc) (rw (step) at held.1),
    )

pub returns : goal.returns
returns c = sym (append-nil _) ∙ rw (chars_of_empty _ c.in-None.ensures.steps.0.0) at c.characters.invariant.1
