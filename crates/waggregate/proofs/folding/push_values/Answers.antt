use Rattle.std.proofs.Common.{map, rules, subst}
use Rattle.std.specs.Prelude.{unwrap_or}
use Rattle.std.specs.Option.{is_none}
use Rattle.std.proofs.lemmas.Result.{err_from_is_err_and}
use Rattle.wvalues.specs.Meaning.{Null, meaning}
use Rattle.wrows.specs.declared.fault.AnswerFault.TheVariants.{OutOfRange}
use Rattle.wrows.proofs.RowFacts.{none_of_all, added_all}
use Rattle.wrows.specs.Outcomes.{Gives}
use Rattle.std.specs.Prelude.{Err}
use Rattle.waggregate.specs.FrameAnswers.{answer_or_out_of_range}
use Rattle.waggregate.proofs.FoldFacts.{refused_part}
use Rattle.waggregate.proofs.folding.push_values.Goals as goal

pub returns-in_err-value : goal.returns-in_err-value
returns-in_err-value g c =
    let p = err_from_is_err_and c.from_residual.result c.from_residual.ensures.1 in
    let answer = g.F.AnsweringFold.answer c.args.fold.now in
    record {
      gives = rw (p.1, p.2) (refused_part answer c.in_err-value.field-0.0 c.args.parts.now c.loop-part.part-index
          c.part-item.result c.loop-part-test.true
          (subst (λ part. Gives meaning (Err c.in_err-value.field-0.0) (answer_or_out_of_range (answer part))) c.part-item.is
          c.in_err-value.ensures));
      added = search rules;
    }

pub returns : goal.returns
returns g c =
    let answer = g.F.AnsweringFold.answer c.args.fold.now in
    let parts = c.args.parts.now in
    record {
      gives = none_of_all is_none answer OutOfRange parts c.loop-part.part-index c.loop-part-test.false c.loop-part.invariant.in_range;
      added = added_all (λ (r : _). unwrap_or r Null) answer parts c.loop-part.part-index (map meaning c.args.column.now.items)
          (map meaning c.loop-part.column.items) c.loop-part-test.false c.loop-part.invariant.so_far;
    }
