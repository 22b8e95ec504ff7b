use Rattle.std.proofs.Common.{◌∙◌, ◌≡◌, ◌∷◌, [], drop, arith}
use Rattle.wprinted.proofs.BackLines.{if-none, kept-behind}
use Rattle.wprinted.proofs.line.write_doubled.Goals as goal

pub returns-then-byte-eq34-clause-kept : goal.returns-then-byte-eq34-clause-kept
returns-then-byte-eq34-clause-kept c =
    let start = c.in_ok-start.start in
    let new = c.write_byte-then-byte-eq34.new.line in
    if-none c.write_byte-then-byte-eq34.result (λ (h : drop start new ≡ drop start c.write_byte.new.line).
    kept-behind start c.args.end (c.args.byte ∷ []) c.args.line.now new (omega (arith, c.in_ok-start.ensures.within))
    (omega (arith, c.requires))
    (c.write_byte-then-byte-eq34.ensures.room ∙ c.in_ok-start.ensures.room)
    (h ∙ c.in_ok-start.ensures.written)) c.write_byte-then-byte-eq34.ensures.kept
