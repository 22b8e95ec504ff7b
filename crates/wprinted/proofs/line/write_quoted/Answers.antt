use Rattle.std.proofs.Common.{◌∙◌, ◌≡◌, ◌++◌, ◌∷◌, [], append_assoc, drop, sym, arith}
use Rattle.std.specs.List.{flat_map}
use Rattle.wprinted.specs.Printing.{doubled, quote}
use Rattle.wprinted.proofs.BackLines.{if-none, kept-behind, none-keeps}
use Rattle.wprinted.proofs.line.write_quoted.Goals as goal

pub returns-in_err-at-2-clause-kept : goal.returns-in_err-at-2-clause-kept
returns-in_err-at-2-clause-kept c =
    let written = flat_map doubled (drop c.loop-left.left c.args.text.now) in
    none-keeps c.from_residual-in_err-at-2.result
    (kept-behind c.loop-left.at c.args.end (written ++ quote ∷ []) c.args.line.now c.write_doubled.new.line
    (omega arith) (omega arith) (omega arith) (c.in_err-at-2.ensures.kept ∙ c.loop-left.invariant.written
    ∙ sym (append_assoc written (quote ∷ []) (drop c.args.end c.args.line.now))))

pub returns-clause-kept : goal.returns-clause-kept
returns-clause-kept c =
    let at = c.loop-left.at in
    let new = c.write_byte-2.new.line in
    let written = flat_map doubled (drop c.loop-left.left c.args.text.now) in
    if-none c.write_byte-2.result (λ (h : drop at new ≡ drop at c.loop-left.line).
    kept-behind at c.args.end (written ++ quote ∷ []) c.args.line.now new (omega arith) (omega arith) (omega arith)
    (h ∙ c.loop-left.invariant.written
    ∙ sym (append_assoc written (quote ∷ []) (drop c.args.end c.args.line.now)))) c.write_byte-2.ensures.kept
