use Rattle.std.proofs.Common.{sym, ◌∙◌, arith}
use Rattle.std.specs.Fmt.{decimal}
use Rattle.std.proofs.lemmas.Str.{IsUtf8-from_ascii}
use Rattle.std.proofs.lemmas.Fmt.{IsAscii-decimal, parse-decimal}
use Rattle.wvalues.specs.Number.{IsPlain}
use Rattle.wvalues.proofs.Words.{decimal_plain, plain_found}
use Rattle.wvalues.proofs.number.number_word.Goals as goal

pub returns-then-not-is_plain-clause-only : goal.returns-then-not-is_plain-clause-only
returns-then-not-is_plain-clause-only c = λ n h e.
    let plain : IsPlain c.args.word.now = rw e (decimal_plain n (omega arith)) in
    let yes = c.is_plain.ensures.1 plain in
    cc

pub returns-in-Ok-parse-clause-found : goal.returns-in-Ok-parse-clause-found
returns-in-Ok-parse-clause-found c =
    let text_is = c.in-Ok.ensures.cases.0 in
    let plain = c.is_plain.ensures.0 c.if-not-is_plain.false in
    let found = plain_found c.in-Ok.text.now c.parse.result c.in-Ok-parse.number c.parse.ensures.value.0 (rw text_is plain)
    c.in-Ok-parse.is in
    record { fits = found.1; digits = sym text_is ∙ found.0 }

pub returns-in-Ok-parse-clause-only : goal.returns-in-Ok-parse-clause-only
returns-in-Ok-parse-clause-only c = λ n h e.
    let read = parse-decimal 32 n c.in-Ok.text.now c.parse.result h (omega arith) (c.in-Ok.ensures.cases.0 ∙ e) c.parse.ensures.value.0 in
    cc (c.in-Ok-parse.is, read)

pub returns-in-Err-parse-clause-only : goal.returns-in-Err-parse-clause-only
returns-in-Err-parse-clause-only c = λ n h e.
    let read = parse-decimal 32 n c.in-Ok.text.now c.parse.result h (omega arith) (c.in-Ok.ensures.cases.0 ∙ e) c.parse.ensures.value.0 in
    cc (c.in-Err-parse.is, read)

pub returns-in-Err-clause-only : goal.returns-in-Err-clause-only
returns-in-Err-clause-only c = λ n h e. absurd
    (c.in-Err.ensures.cases.0 (rw e (IsUtf8-from_ascii (decimal n) (IsAscii-decimal n (omega arith)))))
