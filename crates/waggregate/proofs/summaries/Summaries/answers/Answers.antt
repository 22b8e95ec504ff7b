use Rattle.std.proofs.Common.{ℕ, [], Option, get_or, map, refl}
use Rattle.std.specs.Option.{is_none}
use Rattle.std.specs.Prelude.{unwrap_or}
use Rattle.std.proofs.lemmas.Result.{err_from_is_err_and}
use Rattle.wvalues.specs.Meaning.{Meaning, Null, meaning}
use Rattle.wrows.specs.declared.fault.AnswerFault.TheVariants.{OutOfRange}
use Rattle.wrows.proofs.RowFacts.{added_all, any_next, none_of_all, same_at}
use Rattle.waggregate.specs.Summaries.{answer_at}
use Rattle.waggregate.proofs.FoldFacts.{refused_part}
use Rattle.waggregate.proofs.GroupFacts.{answers_column, fault_of_answers, answers_length}
use Rattle.waggregate.proofs.PutFacts.{answer_in_range}
use Rattle.waggregate.proofs.SummaryFacts.{all_said, answers_more, nothing}
use Rattle.waggregate.proofs.summaries.Summaries.answers.Goals as goal

pub returns-in_err-answer-clause-gives : goal.returns-in_err-answer-clause-gives
returns-in_err-answer-clause-gives c = λ values groups count are.
    let p = err_from_is_err_and c.from_residual-in_err-answer.result c.from_residual-in_err-answer.ensures.1 in
    let s = c.args.self.now in
    let order = c.args.order.now in
    let answer_of : ℕ → Option Meaning = λ g. answer_at c.args.function s.groups.items g nothing in
    rw (p.1, p.2) (fault_of_answers c.in_err-answer.field-0.0 (map answer_of order) _
    (all_said values groups count s c.args.function nothing order are c.requires.covered c.requires.ordered)
    (refused_part answer_of c.in_err-answer.field-0.0 order c.loop-group.group-index 0 c.loop-group-test.true
    (c.in_err-answer.ensures nothing)))

pub loop-group-preserved : goal.loop-group-preserved
loop-group-preserved c =
    let order = c.args.order.now in
    let i = c.loop-group.group-index in
    let answer_of : ℕ → Option Meaning = λ g. answer_at c.args.function c.args.self.now.groups.items g nothing in
    record {
      in_range = any_next (λ g. is_none (answer_of g)) order i (get_or order i 0) c.loop-group-test.true
          (same_at order i 0 (get_or order i 0) c.loop-group-test.true)
          c.loop-group.invariant.in_range (answer_in_range (answer_of (get_or order i 0)) (meaning c.in_ok-answer.answer)
          (c.in_ok-answer.ensures nothing));
      so_far = answers_more answer_of order i c.loop-group.column.items c.push.new.self.items c.in_ok-answer.answer
          c.loop-group-test.true c.loop-group.invariant.so_far c.in_ok-push.ensures.items (c.in_ok-answer.ensures nothing);
    }

pub returns-clause-gives : goal.returns-clause-gives
returns-clause-gives c = λ values groups count are.
    let s = c.args.self.now in
    let order = c.args.order.now in
    let answer_of : ℕ → Option Meaning = λ g. answer_at c.args.function s.groups.items g nothing in
    answers_column [] c.loop-group.column.items (map answer_of order) _
    (all_said values groups count s c.args.function nothing order are c.requires.covered c.requires.ordered) refl
    (none_of_all is_none answer_of OutOfRange order c.loop-group.group-index c.loop-group-test.false c.loop-group.invariant.in_range)
    (added_all (λ (r : _). unwrap_or r Null) answer_of order c.loop-group.group-index [] (map meaning c.loop-group.column.items)
    c.loop-group-test.false c.loop-group.invariant.so_far)

pub returns-clause-len : goal.returns-clause-len
returns-clause-len c =
    let order = c.args.order.now in
    let answer_of : ℕ → Option Meaning = λ g. answer_at c.args.function c.args.self.now.groups.items g nothing in
    answers_length [] c.loop-group.column.items (map answer_of order) answer_of order refl refl
    (added_all (λ (r : _). unwrap_or r Null) answer_of order c.loop-group.group-index [] (map meaning c.loop-group.column.items)
    c.loop-group-test.false c.loop-group.invariant.so_far)
