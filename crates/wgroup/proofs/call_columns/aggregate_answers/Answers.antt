use Rattle.std.proofs.Common.{◌≡◌, ◌+◌, ◌++◌, ◌∷◌, [], List, Vec, Global, length, map, take, subst, ap, sym, ◌∙◌, arith, length-append}
use Rattle.std.specs.List.{flat_map}
use Rattle.std.proofs.lemmas.List.{length-map, flat_map_more}
use Rattle.std.proofs.lemmas.Result.{err_from_is_err_and}
use Rattle.wvalues.specs.declared.value.Value.{Value}
use Rattle.wvalues.specs.Meaning.{Meaning, meaning}
use Rattle.wgroup.specs.Finer.{AreAnswered, IsMade}
use Rattle.wgroup.specs.Shared.{fed_answers}
use Rattle.waggregate.specs.Feeding.{fed_by}
use Rattle.wgroup.proofs.ColumnFacts.{answers_fault, answers_next}
use Rattle.wgroup.proofs.MadeFacts.{answered_more}
use Rattle.wgroup.proofs.TellFacts.{count_next}
use Rattle.wgroup.proofs.call_columns.aggregate_answers.Goals as goal

pub group_answers-requires-clause-made : goal.group_answers-requires-clause-made
group_answers-requires-clause-made c =
    let i = c.loop-groups.groups-index in
    let sets = c.args.sets.now in
    let g = c.groups-item.result in
    let so_many : i ≡ length c.deref.result.now = sym c.loop-groups.invariant.as_many ∙ ap length (sym c.deref.ensures.value) in
    subst (λ n. IsMade (take n sets) g) so_many (subst (IsMade (take i sets)) (sym c.groups-item.is)
    (c.requires.made i g c.loop-groups-test.true))

pub group_answers-requires-clause-answered : goal.group_answers-requires-clause-answered
group_answers-requires-clause-answered c =
    let fed = c.args.fed.now in
    subst (AreAnswered fed.function (fed_by fed.argument fed.filter) c.args.sets.now)
    (sym c.deref.ensures.value) c.loop-groups.invariant.known

pub returns-in_err-answers-clause-gives : goal.returns-in_err-answers-clause-gives
returns-in_err-answers-clause-gives c =
    let p = err_from_is_err_and c.from_residual-in_err-answers.result c.from_residual-in_err-answers.ensures.1 in
    let view : Vec Value Global → List Meaning = λ column. map meaning column.items in
    let f = fed_answers c.args.fed.now in
    rw (p.1, p.2) (answers_fault f c.args.sets.now c.loop-groups.groups-index c.groups-item.result _
    (flat_map (λ list. map meaning list.items) c.loop-groups.answered.items) c.in_err-answers.field-0.0 view view
    c.loop-groups-test.true c.groups-item.is c.loop-groups.invariant.so_far c.in_err-answers.ensures.gives)

pub loop-groups-preserved : goal.loop-groups-preserved
loop-groups-preserved c =
    let one : Vec Value Global → List Meaning = λ list. map meaning list.items in
    let g = c.groups-item.result in
    let i = c.loop-groups.groups-index in
    let sets = c.args.sets.now in
    let answered = c.loop-groups.answered.items in
    let answers = c.in_ok-answers.answers in
    let fed = c.args.fed.now in
    let f = fed_answers fed in
    let pushed : flat_map one c.push.new.self.items ≡ flat_map one answered ++ one answers =
    ap (flat_map one) c.in_ok-push.ensures.items ∙ sym (flat_map_more one [] answered answers) in
    let long : length (flat_map one c.push.new.self.items) ≡ length (flat_map one answered) + length g.order.items
    = omega (
      arith,
      ap length pushed,
      length-append (flat_map one answered) (one answers),
      length-map answers.items meaning,
      c.in_ok-answers.ensures.len,
    ) in
    record {
      so_far = answers_next f sets i g _ (flat_map one answered) _ (one answers) c.loop-groups-test.true c.groups-item.is
          c.loop-groups.invariant.so_far c.in_ok-answers.ensures.gives pushed;
      known = answered_more fed.function (fed_by fed.argument fed.filter) sets answered _ i g answers
          c.loop-groups.invariant.as_many c.loop-groups-test.true c.groups-item.is c.loop-groups.invariant.known
          c.in_ok-answers.ensures.gives c.in_ok-push.ensures.items;
      as_many = omega (arith, ap length c.in_ok-push.ensures.items, length-append answered (answers ∷ []), c.loop-groups.invariant.as_many);
      len = count_next sets i g (length (flat_map one answered)) (length (flat_map one c.push.new.self.items)) _
          c.loop-groups-test.true c.groups-item.is long c.loop-groups.invariant.len;
    }
