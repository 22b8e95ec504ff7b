use Rattle.std.proofs.Common.{◌-◌, length, sym, arith, rules, false-eqb}
use Rattle.std.proofs.lemmas.Bool.{eqb-true}
use Rattle.std.proofs.lemmas.Result.{err_from_is_err_and}
use Rattle.wlexer.proofs.Steps.{separates_shorter, spelled_shorter, tokens_before, all_tokens, lexical_fault, token_more}
use Rattle.wlexer.proofs.lexer.lex_text.Goals as goal

pub returns-then-is_empty-clause-found : goal.returns-then-is_empty-clause-found
returns-then-is_empty-clause-found c =
    all_tokens c.args.text.now c.tokens.left.now c.behind_separators-here.result.now c.tokens.tokens.items
    c.tokens.invariant.so_far c.behind_separators-here.ensures (eqb-true _ 0 (sym c.if-is_empty.ensures))

pub overflow_sub-from : goal.overflow_sub-from
overflow_sub-from c =
    let shorter = separates_shorter c.behind_separators-here.ensures in
    omega arith

pub returns-in_err-lexeme-clause-fault : goal.returns-in_err-lexeme-clause-fault
returns-in_err-lexeme-clause-fault c =
    let shorter = separates_shorter c.behind_separators-here.ensures in
    let some = false-eqb _ 0 c.if-is_empty.ensures in
    let p = err_from_is_err_and c.from_residual.result c.from_residual.ensures.1 in
    rw (p.1, p.2) (lexical_fault _ _ _ _ (tokens_before c.args.text.now c.tokens.left.now
    c.behind_separators-here.result.now c.tokens.tokens.items c.tokens.invariant.so_far
    c.behind_separators-here.ensures) (omega arith) (omega arith) c.in_err-lexeme.ensures.fault)

pub overflow_sub-to : goal.overflow_sub-to
overflow_sub-to c =
    let shorter = separates_shorter c.behind_separators-here.ensures in
    let less = spelled_shorter c.in_ok-lexeme.ensures.found in
    omega arith

pub tokens-smaller : goal.tokens-smaller
tokens-smaller c =
    let shorter = separates_shorter c.behind_separators-here.ensures in
    let less = spelled_shorter c.in_ok-lexeme.ensures.found in
    omega arith

pub tokens-preserved : goal.tokens-preserved
tokens-preserved c =
    let shorter = separates_shorter c.behind_separators-here.ensures in
    let less = spelled_shorter c.in_ok-lexeme.ensures.found in
    record {
      utf8 = search rules;
      so_far = token_more c.args.text.now c.tokens.left.now c.behind_separators-here.result.now c.in_ok-lexeme.after.now
          c.tokens.tokens.items c.push.new.self.items
          (record {
            lexeme = c.in_ok-lexeme.lexeme;
            from =
                length c.args.text.now - length c.behind_separators-here.result.now;
            to =
                length c.args.text.now - length c.in_ok-lexeme.after.now;
          })
          c.tokens.invariant.so_far c.behind_separators-here.ensures c.in_ok-lexeme.ensures.found (omega arith)
          (omega arith) c.in_ok-push.ensures.items;
      within = omega arith;
    }
