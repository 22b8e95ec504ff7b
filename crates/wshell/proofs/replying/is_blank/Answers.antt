use Rattle.std.proofs.Common.{rules, map, subst, sym}
use Rattle.wlexer.specs.Lexing.{Lexes}
use Rattle.wlexer.specs.Token.{placed}
use Rattle.wask.proofs.Read.{lexed_text}
use Rattle.wshell.proofs.Blanks.{blank_by_tokens, faulty_is_filled, filled_is_false}
use Rattle.wshell.proofs.replying.is_blank.Goals as goal

pub returns-in-Ok : goal.returns-in-Ok
returns-in-Ok c =
    let lexed = c.in-Ok.ensures in
    blank_by_tokens c.args.text.now c.as_slice.result.now c.is_empty.result c.is_empty.ensures
    (lexed_text c.in-Ok.tokens c.args.text.now lexed.too_long lexed.not_utf8)
    (subst (λ ts. Lexes c.args.text.now (map placed ts)) (sym c.as_slice.ensures.value) lexed.tokens)

pub returns-in-Err : goal.returns-in-Err
returns-in-Err c = filled_is_false c.args.text.now (faulty_is_filled c.args.text.now c.in-Err.field-0 (search rules)
    c.in-Err.ensures.too_long c.in-Err.ensures.not_utf8 c.in-Err.ensures.fault_at)
