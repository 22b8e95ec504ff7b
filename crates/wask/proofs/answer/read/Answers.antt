use Rattle.std.proofs.Common.{Err, map, ap, refl, sym, subst}
use Rattle.wlexer.specs.Token.{placed}
use Rattle.wlexer.specs.Lexing.{Lexes}
use Rattle.wquery.specs.QueryTree.{view_query}
use Rattle.wask.specs.Texts.{IsRefused}
use Rattle.wask.proofs.Read.{lexed_text, read_by, text_lacking, unparsed}
use Rattle.wask.proofs.answer.read.Goals as goal

pub returns-in-Err-parse-clause-reads : goal.returns-in-Err-parse-clause-reads
returns-in-Err-parse-clause-reads c =
    let lexed = c.in-Ok.ensures in
    subst (λ f. IsRefused c.args.text.now f) (sym c.syntactical_fault.ensures)
    (unparsed c.args.text.now c.deref.result.now c.in-Err-parse.fault (lexed_text c.in-Ok.tokens c.args.text.now
    lexed.too_long lexed.not_utf8)
    (subst (λ ts. Lexes c.args.text.now (map placed ts)) (sym c.deref.ensures.value) lexed.tokens)
    (λ e. c.in-Err-parse.ensures.refused (ap Err e)))

pub returns-clause-reads : goal.returns-clause-reads
returns-clause-reads c =
    let lexed = c.in-Ok.ensures in
    read_by c.args.text.now (view_query c.in-Ok-parse.query) c.deref.result.now (lexed_text c.in-Ok.tokens c.args.text.now
    lexed.too_long lexed.not_utf8)
    (subst (λ ts. Lexes c.args.text.now (map placed ts)) (sym c.deref.ensures.value) lexed.tokens)
    c.in-Ok-parse.ensures.spelled

pub returns-in-Err-clause-lacks : goal.returns-in-Err-clause-lacks
returns-in-Err-clause-lacks c = λ lacks. text_lacking c.in-Err.fault _ c.args.text.now refl c.in-Err.ensures.too_long
    c.in-Err.ensures.not_utf8 cc

pub returns-in-Err-parse-clause-lacks : goal.returns-in-Err-parse-clause-lacks
returns-in-Err-parse-clause-lacks c = λ _. lexed_text c.in-Ok.tokens c.args.text.now c.in-Ok.ensures.too_long c.in-Ok.ensures.not_utf8
