use Rattle.std.proofs.Common.{◌≡◌, ◌<◌, Err, get_or, length, map, rules, subst, sym, ap, ◌∙◌, arith}
use Rattle.std.specs.Option.{is_none}
use Rattle.std.specs.Prelude.{unwrap_or}
use Rattle.std.proofs.lemmas.List.{get_or-map, length-map}
use Rattle.std.proofs.lemmas.Result.{err_from_is_err_and}
use Rattle.wvalues.specs.Meaning.{Null, meaning}
use Rattle.wrows.specs.Outcomes.{Gives}
use Rattle.wrows.specs.declared.fault.AnswerFault.TheVariants.{OutOfRange}
use Rattle.wrows.proofs.RowFacts.{any_next, none_of_all}
use Rattle.waggregate.specs.FrameAnswers.{answer_or_out_of_range, values_or_null}
use Rattle.waggregate.proofs.FoldFacts.{refused_part}
use Rattle.waggregate.proofs.PutFacts.{all_put, answer_in_range, value_answered}
use Rattle.waggregate.proofs.folding.put_values.Goals as goal

pub returns-in_err-value : goal.returns-in_err-value
returns-in_err-value g c =
    let p = err_from_is_err_and c.from_residual.result c.from_residual.ensures.1 in
    let answer = g.F.AnsweringFold.answer c.args.fold.now in
    record {
      gives = rw (p.1, p.2) (refused_part answer c.in_err-value.field-0.0 c.args.parts.now c.loop-place.place
          c.index-parts-place.result c.loop-place-test.true
          (subst (λ part. Gives meaning (Err c.in_err-value.field-0.0) (answer_or_out_of_range (answer part)))
          c.index-parts-place.is c.in_err-value.ensures));
      put = search rules;
    }

pub loop-place-preserved : goal.loop-place-preserved
loop-place-preserved g c =
    let answer = g.F.AnsweringFold.answer c.args.fold.now in
    let parts = c.args.parts.now in
    let k = c.loop-place.place in
    let part = c.index-parts-place.result in
    let value = c.in_ok-value.value in
    let results = map answer parts in
    let long = length-map parts answer in
    let there : k < length results = omega (arith, long, c.loop-place-test.true) in
    let within : k < length (values_or_null results) = omega (arith, there, length-map results (λ r. unwrap_or r Null)) in
    let at : answer part ≡ get_or results k (answer part) = ap answer c.index-parts-place.is
    ∙ sym (get_or-map answer parts k part (answer part) c.loop-place-test.true) in
    let is : meaning value ≡ get_or (values_or_null results) k Null =
    value_answered (answer part) (meaning value) c.in_ok-value.ensures ∙ ap (λ r. unwrap_or r Null) at ∙ sym
    (get_or-map (λ r. unwrap_or r Null) results k (answer part) Null there) in
    record {
      long = c.put_at.ensures.len ∙ c.loop-place.invariant.long;
      in_range = any_next (λ part. is_none (answer part)) parts k part c.loop-place-test.true c.index-parts-place.is
          c.loop-place.invariant.in_range (answer_in_range (answer part) (meaning value) c.in_ok-value.ensures);
      put = c.put_at.ensures.put (values_or_null results) within is ∙ c.loop-place.invariant.put;
    }

pub returns : goal.returns
returns g c =
    let answer = g.F.AnsweringFold.answer c.args.fold.now in
    let parts = c.args.parts.now in
    let results = map answer parts in
    let long = length-map parts answer in
    let long_values = length-map results (λ r. unwrap_or r Null) in
    record {
      gives = none_of_all is_none answer OutOfRange parts c.loop-place.place c.loop-place-test.false c.loop-place.invariant.in_range;
      put = sym (all_put (map meaning c.loop-place.column) (values_or_null results) c.args.rows.now c.loop-place.place
          (omega (arith, long, long_values, c.loop-place-test.false))) ∙ c.loop-place.invariant.put;
    }
