use Rattle.std.proofs.Common.{rules, ◌∙◌, sym, append_assoc, append-nil}
use Rattle.std.proofs.lemmas.Str.{IsUtf8-past_char, chars_past_char}
use Rattle.wshown.proofs.Characters.{chars_of_empty, shown_step}
use Rattle.wshown.proofs.values.push_text.Goals as goal

pub returns-then-left-eq0 : goal.returns-then-left-eq0
returns-then-left-eq0 c =
    let held = c.characters.invariant in
    let step = chars_past_char _ _ c.in-Some.c held.0 c.in-Some.ensures.steps.0 in
    search (rules, held.1, step, c.if-left-eq0.true)

pub characters-preserved : goal.characters-preserved
characters-preserved c =
    let held = c.characters.invariant in
    let parts = c.in-Some.ensures.steps.0 in
    let step = chars_past_char _ _ c.in-Some.c held.0 parts in (
      IsUtf8-past_char _ _ c.in-Some.c held.0 parts,
      rw (c.in_ok-push_character.ensures, append_assoc)
          (rw (step, shown_step c.characters.left c.in-Some.c _ (search rules)) at held.1),
    )

pub returns : goal.returns
returns c = sym (append-nil _) ∙ rw (chars_of_empty _ c.in-None.ensures.steps.0.0) at c.characters.invariant.1
