use Rattle.std.proofs.Common.{rules, ◌≡◌, ◌∙◌, sym, append_assoc, append-nil, arith}
use Rattle.std.proofs.Math.Seq.{drop-nil}
use Rattle.std.proofs.lemmas.Str.{IsUtf8-past_char, chars_past_char}
use Rattle.wshown.proofs.Characters.{chars_of_empty}
use Rattle.wshown.proofs.Lines.{left_out_step, line_step}
use Rattle.wshown.proofs.places.push_characters.Goals as goal

pub characters-preserved-then-before-gt0 : goal.characters-preserved-then-before-gt0
characters-preserved-then-before-gt0 c =
    let held = c.characters.invariant in
    let parts = c.in-Some.ensures.steps.0 in
    let step = chars_past_char _ _ c.in-Some.c held.0 parts in (
      IsUtf8-past_char _ _ c.in-Some.c held.0 parts,
      rw (step, left_out_step c.characters.before c.in-Some.c _ (search rules)) at held.1,
    )

pub returns-then-left-eq0 : goal.returns-then-left-eq0
returns-then-left-eq0 c =
    let held = c.characters.invariant in
    let step = chars_past_char _ _ c.in-Some.c held.0 c.in-Some.ensures.steps.0 in
    let none : c.characters.before ≡ 0 = omega (arith, c.if-before-gt0.false) in
    let here = rw (step, none) at held.1 in
    search (rules, here, c.if-left-eq0.true)

pub characters-preserved : goal.characters-preserved
characters-preserved c =
    let held = c.characters.invariant in
    let parts = c.in-Some.ensures.steps.0 in
    let step = chars_past_char _ _ c.in-Some.c held.0 parts in
    let none : c.characters.before ≡ 0 = omega (arith, c.if-before-gt0.false) in (
      IsUtf8-past_char _ _ c.in-Some.c held.0 parts,
      rw (c.in_ok-push_of_line.ensures, none, append_assoc)
          (rw (step, none, line_step c.characters.left c.in-Some.c _ (search rules)) at held.1),
    )

pub returns : goal.returns
returns c = sym (append-nil _) ∙ rw (chars_of_empty _ c.in-None.ensures.steps.0.0, drop-nil c.characters.before) at c.characters.invariant.1
