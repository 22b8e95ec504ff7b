use Rattle.std.proofs.Common.{◌∙◌, drop, map, refl, arith}
use Rattle.wprinted.specs.Beside.{values_of}
use Rattle.wprinted.specs.Printing.{field_text, line_text, values_at}
use Rattle.wprinted.proofs.BackLines.{kept-behind, line-more, none-keeps}
use Rattle.wprinted.proofs.line.write_line.Goals as goal

pub loop-left-preserved : goal.loop-left-preserved
loop-left-preserved c = record {
  written = line-more c.args.places.now (values_of c.args.row.now) (drop c.args.end c.args.line.now) c.loop-left.left _ _ _ _
      c.loop-left-test.true c.loop-left.invariant.left refl c.loop-left.invariant.written c.field_at.ensures
      c.in_ok-at-2.ensures.written;
  before = omega (arith, c.in_ok-at-2.ensures.within, c.loop-left.invariant.before);
  room = c.in_ok-at-2.ensures.room ∙ c.loop-left.invariant.room;
  left = omega (arith, c.loop-left.invariant.left);
}

pub returns-in_err-at-2-clause-kept : goal.returns-in_err-at-2-clause-kept
returns-in_err-at-2-clause-kept c =
    none-keeps c.from_residual-in_err-at-2.result (kept-behind c.loop-left.at c.args.end
    (line_text (map field_text (values_at (drop c.loop-left.left c.args.places.now) (values_of c.args.row.now))))
    c.args.line.now c.write_field.new.line (omega arith) (omega arith) (omega arith)
    (c.in_err-at-2.ensures.kept ∙ c.loop-left.invariant.written))
