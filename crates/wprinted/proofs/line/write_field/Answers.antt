use Rattle.std.proofs.Common.{◌∙◌, ◌≡◌, ◌∷◌, [], cond, drop, arith}
use Rattle.wprinted.proofs.BackLines.{comma-first, if-none, kept-behind}
use Rattle.wprinted.proofs.line.write_field.Goals as goal

pub returns-clause-kept : goal.returns-clause-kept
returns-clause-kept c =
    let behind = c.in_ok-behind.behind in
    let new = c.write_field_text.new.line in
    if-none c.write_field_text.result (λ (h : drop behind new ≡ drop behind c.write_comma.new.line).
    kept-behind behind c.args.end (cond c.args.is_last [] (44 ∷ [])) c.args.line.now new
    (omega (arith, c.in_ok-behind.ensures.within)) (omega (arith, c.requires))
    (c.write_field_text.ensures.room ∙ c.in_ok-behind.ensures.room)
    (h ∙ c.in_ok-behind.ensures.written ∙ comma-first c.args.is_last (drop c.args.end c.args.line.now))) c.write_field_text.ensures.kept
