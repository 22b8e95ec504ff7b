use Rattle.std.proofs.Common.{◌≡◌, ◌<◌, List, refl, ap, ◌∙◌, arith}
use Rattle.wexpressions.specs.declared.fault.ParseFault.TheVariants.{Syntax}
use Rattle.wquery.specs.declared.expression.Arguments.TheVariants as given
use Rattle.wquery.specs.declared.expression.ChainKind.TheVariants.{Disjunction}
use Rattle.wquery.specs.declared.expression.Expression.{Expression}
use Rattle.wquery.specs.Tree.{Tree, Quoted, These, NoTrees, trees, view, views, view_arguments, view_key, view_keys, view_window}
use Rattle.wquery.proofs.Says.{null_says, number_says, text_says, column_says, call_says, not_says, sign_says, compare_says}
use Rattle.wquery.proofs.Says.{between_says, in_says, listed_says, named_says, windowed_says}
use Rattle.wtokens.specs.Notation.{Row, Listed, meanings}
use Rattle.wexpressions.specs.Grammar.{ChainRank, NegationRank, SignRank, deeper, window}
use Rattle.wexpressions.specs.Finding.{Got, failed, Answers}
use Rattle.wexpressions.proofs.Steps.{answers_less, short, grips, missing, not_said, got_along, other_token, one_parts}
use Rattle.wexpressions.proofs.Steps.{never_either, never_then, never_listed, any_leads, after_leads, done_leads, then_got}
use Rattle.wexpressions.proofs.Steps.{then_refused, after_got, after_missing, after_never, as_got, as_refused, one_got, perhaps_absent}
use Rattle.wexpressions.proofs.Steps.{perhaps_present, either_first, either_second, done_got, room_answers, closed_refused}
use Rattle.wexpressions.proofs.Steps.{closed_by, listing_more, listing_got, listing_refused, handed_on}
use Rattle.wexpressions.proofs.Rows.{chain_refused, chain_got, going_more, going_refused, going_over, comparison_grip}
use Rattle.wexpressions.proofs.Fits.{tests_begin, begins_not, primary_no_sign, lower, nothing_below, operand_falls, chain_falls, key_falls}
use Rattle.wexpressions.proofs.Parts.{optional_answers, one_more, one_grips, null_tested_leads, compared_leads, test_leads}
use Rattle.wexpressions.proofs.Parts.{tested_leads, no_test, call_leads, key_leads, key_leads_nulls, window_leads_parts}
use Rattle.wexpressions.proofs.Parts.{window_leads_order, window_leads_frame, primary_number, primary_text, primary_null}
use Rattle.wexpressions.proofs.Parts.{primary_name_copied, primary_grouping, window_along, meanings_fall_on, primary_open}
use Rattle.wexpressions.proofs.Parts.{primary_none, window_empty, no_list, meanings_fall, kind_above}
use Rattle.wexpressions.proofs.expressions.+parser.Goals as goal

pub chain-returns-in_err-first : goal.chain-returns-in_err-first
chain-returns-in_err-first t c = handed_on _ _ _ _ c.from_residual.ensures.1 (chain_refused _ c.in_err-first.ensures)

pub chain-returns : goal.chain-returns
chain-returns t c = chain_got c.in_ok-first.ensures c.goes_on.ensures

pub goes_on-returns-in-Err : goal.goes_on-returns-in-Err
goes_on-returns-in-Err t c = going_refused c.in-Err.fault c.chain.invariant c.in-Some.ensures c.in-Err.ensures

pub goes_on-chain-smaller : goal.goes_on-chain-smaller
goes_on-chain-smaller t c = let a = (operand_falls c.args.depth c.args.kind).falls _ _ _ c.in-Ok.ensures.found in let e =
    one_parts c.in-Some.ensures in meanings_fall _ _ _ e.1 a

pub goes_on-chain-preserved : goal.goes_on-chain-preserved
goes_on-chain-preserved t c = going_more c.chain.invariant c.in-Some.ensures c.in-Ok.ensures c.in-Ok-join.ensures

pub goes_on-returns : goal.goes_on-returns
goes_on-returns t c = going_over c.chain.invariant c.in_default.ensures

pub negation-returns-in_default : goal.negation-returns-in_default
negation-returns-in_default t c = either_second (after_never c.in_default.ensures) c.test.ensures

pub negation-returns-in_err-one_level : goal.negation-returns-in_err-one_level
negation-returns-in_err-one_level t c = handed_on _ _ Syntax _ c.from_residual.ensures.1
    (either_first (begins_not (tests_begin c.args.depth (deeper c.args.depth)) c.in-Some.ensures (omega arith))
    (after_got c.in-Some.ensures (as_refused Syntax
    (missing (nothing_below c.args.depth NegationRank _ c.in_err-one_level.ensures.err)))))

pub negation-returns-in_err-e : goal.negation-returns-in_err-e
negation-returns-in_err-e t c = let lt : 0 < c.args.depth = c.in_ok-one_level.ensures.ok in
    handed_on _ _ _ _ c.from_residual-in_err-e.ensures.1
    (either_first (begins_not (tests_begin c.args.depth (deeper c.args.depth)) c.in-Some.ensures (omega arith))
    (after_got c.in-Some.ensures (as_refused _
    (lower c.args.depth NegationRank (λ (R : Row Tree). Answers R 22 (meanings c.in-Some.after.now)
    (failed c.in_err-e.field-0.0)) lt c.in_err-e.ensures))))

pub test-returns-in_err-e : goal.test-returns-in_err-e
test-returns-in_err-e t c = handed_on _ _ _ _ c.from_residual.ensures.1 (then_refused _ (λ e. null_tested_leads) c.in_err-e.ensures)

pub test-returns : goal.test-returns
test-returns t c = then_got (λ e. null_tested_leads) c.in_ok-e.ensures c.null_tested.ensures

pub comparison-returns-in_err-left : goal.comparison-returns-in_err-left
comparison-returns-in_err-left t c = handed_on _ _ _ _ c.from_residual.ensures.1 (then_refused _ (λ l. compared_leads)
    c.in_err-left.ensures)

pub comparison-returns : goal.comparison-returns
comparison-returns t c = then_got (λ l. compared_leads) c.in_ok-left.ensures c.compared.ensures

pub compared-returns-in_default : goal.compared-returns-in_default
compared-returns-in_default t c = perhaps_absent (never_then c.in_default.ensures)

pub compared-returns-in-Err : goal.compared-returns-in-Err
compared-returns-in-Err t c = perhaps_present (one_grips comparison_grip c.in-Some.ensures)
    (then_got {j = 31} (λ x. any_leads) (one_got c.in-Some.ensures)
    (as_refused c.in-Err.fault (answers_less (omega arith) c.in-Err.ensures)))

pub range-returns-in_err-e : goal.range-returns-in_err-e
range-returns-in_err-e t c = handed_on _ _ _ _ c.from_residual.ensures.1 (then_refused _ (λ e. tested_leads) c.in_err-e.ensures)

pub range-returns : goal.range-returns
range-returns t c = then_got (λ e. tested_leads) c.in_ok-e.ensures c.range_tested.ensures

pub range_tested-returns-then-range_test_follows : goal.range_tested-returns-then-range_test_follows
range_tested-returns-then-range_test_follows t c =
    perhaps_present (c.range_test_follows.ensures.yes c.if-range_test_follows.true)
    (then_got (λ n. test_leads) (optional_answers {k = 25} _ (omega arith) c.optional_not-negated.ensures.here
    c.optional_not-negated.ensures.absent) c.range_test.ensures)

pub range_tested-returns : goal.range_tested-returns
range_tested-returns t c = perhaps_absent (no_test (c.range_test_follows.ensures.other c.if-range_test_follows.false))

pub range_test-returns-in-Some : goal.range_test-returns-in-Some
range_test-returns-in-Some t c = either_first (other_token c.in-Some.ensures (λ q. cc)) (after_got c.in-Some.ensures c.between.ensures)

pub range_test-returns-in-None : goal.range_test-returns-in-None
range_test-returns-in-None t c = either_second (after_never c.in_default.ensures) (after_missing c.in-None.ensures)

pub range_test-returns-in-Some-keyword : goal.range_test-returns-in-Some-keyword
range_test-returns-in-Some-keyword t c =
    either_second (after_never c.in_default.ensures) (after_got c.in-Some-keyword.ensures c.among.ensures)

pub among-returns-in_default : goal.among-returns-in_default
among-returns-in_default t c = after_missing c.in_default.ensures

pub among-returns-in-Err : goal.among-returns-in-Err
among-returns-in-Err t c = after_got c.in-Some.ensures (as_refused c.in-Err.fault (answers_less (omega arith) c.in-Err.ensures))

pub between-returns-in-Err : goal.between-returns-in-Err
between-returns-in-Err t c = then_refused c.in-Err.fault (λ low. after_leads (omega arith)) c.in-Err.ensures

pub between-returns : goal.between-returns
between-returns t c = then_got (λ low. after_leads (omega arith)) c.in-Ok.ensures c.up_to.ensures

pub up_to-returns-in_default : goal.up_to-returns-in_default
up_to-returns-in_default t c = after_missing c.in_default.ensures

pub up_to-returns-in-Err : goal.up_to-returns-in-Err
up_to-returns-in-Err t c = after_got c.in-Some.ensures (as_refused c.in-Err.fault (answers_less (omega arith) c.in-Err.ensures))

pub sign-returns-in_default : goal.sign-returns-in_default
sign-returns-in_default t c = either_second (never_then c.in_default.ensures) c.primary.ensures

pub sign-returns-in_err-one_level : goal.sign-returns-in_err-one_level
sign-returns-in_err-one_level t c = handed_on _ _ Syntax _ c.from_residual.ensures.1
    (either_first (primary_no_sign c.in-Some.ensures) (then_got {j = 31} (λ m. any_leads) (one_got c.in-Some.ensures)
    (as_refused Syntax (missing (nothing_below c.args.depth SignRank _ c.in_err-one_level.ensures.err)))))

pub sign-returns-in_err-e : goal.sign-returns-in_err-e
sign-returns-in_err-e t c = let lt : 0 < c.args.depth = c.in_ok-one_level.ensures.ok in
    handed_on _ _ _ _ c.from_residual-in_err-e.ensures.1 (either_first (primary_no_sign c.in-Some.ensures)
    (then_got {j = 31} (λ m. any_leads) (one_got c.in-Some.ensures)
    (as_refused _ (lower c.args.depth SignRank (λ (R : Row Tree). Answers R 28 (meanings c.in-Some.after.now)
    (failed c.in_err-e.field-0.0)) lt c.in_err-e.ensures))))

pub primary-returns-in-Some : goal.primary-returns-in-Some
primary-returns-in-Some t c = got_along (number_says _) refl (primary_number c.in-Some.ensures)

pub primary-returns-in-Some-keyword : goal.primary-returns-in-Some-keyword
primary-returns-in-Some-keyword t c = got_along null_says refl (primary_null c.in-Some-keyword.ensures)

pub primary-returns-in-None : goal.primary-returns-in-None
primary-returns-in-None t c = primary_none c.in_default.ensures c.in_default-text.ensures c.in_default-keyword.ensures
    c.in_default-name.ensures c.in_default-keyword-2.ensures c.in-None.ensures

pub primary-returns-in-Some-symbol : goal.primary-returns-in-Some-symbol
primary-returns-in-Some-symbol t c = primary_open c.in-Some-symbol.ensures c.closed.ensures

pub closed-returns-in_err-one_level : goal.closed-returns-in_err-one_level
closed-returns-in_err-one_level t c = handed_on _ _ Syntax _ c.from_residual.ensures.1
    (missing (never_then (nothing_below c.args.depth (ChainRank Disjunction) _ c.in_err-one_level.ensures.err)))

pub closed-returns-in_err-e : goal.closed-returns-in_err-e
closed-returns-in_err-e t c = let lt : 0 < c.args.depth = c.in_ok-one_level.ensures.ok in
    handed_on _ _ _ _ c.from_residual-in_err-e.ensures.1
    (closed_refused _ (omega arith) (lower c.args.depth (ChainRank Disjunction)
    (λ (R : Row Tree). Answers R 20 (meanings c.args.tokens.now) (failed c.in_err-e.field-0.0)) lt c.in_err-e.ensures))

pub closed-returns : goal.closed-returns
closed-returns t c = let lt : 0 < c.args.depth = c.in_ok-one_level.ensures.ok in
    closed_by view (λ s. s.now) _ (omega arith) (lower c.args.depth (ChainRank Disjunction)
    (λ (R : Row Tree). Answers R 20 (meanings c.args.tokens.now) (Got (view c.in_ok-e.e) (meanings c.in_ok-e.rest.now)))
    lt c.in_ok-e.ensures) c.closed_off.ensures.here c.closed_off.ensures.missing

pub column_or_call-returns-in-Some : goal.column_or_call-returns-in-Some
column_or_call-returns-in-Some t c = perhaps_present (grips c.in-Some.ensures (omega arith))
    (either_first (other_token c.in-Some.ensures (λ q. cc)) (after_got c.in-Some.ensures (answers_less (omega arith) c.qualified.ensures)))

pub column_or_call-returns-in-Some-symbol : goal.column_or_call-returns-in-Some-symbol
column_or_call-returns-in-Some-symbol t c = perhaps_present (grips c.in-Some-symbol.ensures (omega arith))
    (either_second (after_never c.in_default.ensures) (after_got c.in-Some-symbol.ensures c.call.ensures))

pub call-returns-in_err-arguments : goal.call-returns-in_err-arguments
call-returns-in_err-arguments t c = handed_on _ _ _ _ c.from_residual.ensures.1 (then_refused _ (λ g. any_leads {k = 28})
    c.in_err-arguments.ensures)

pub call-returns-in-Err : goal.call-returns-in-Err
call-returns-in-Err t c = then_got (λ g. any_leads) c.in_ok-arguments.ensures (then_refused c.in-Err.fault (λ f. call_leads)
    c.in-Err.ensures)

pub call-returns-in-Err-optional_over : goal.call-returns-in-Err-optional_over
call-returns-in-Err-optional_over t c = then_got (λ g. any_leads) c.in_ok-arguments.ensures
    (then_got (λ f. call_leads) c.in-Ok.ensures (then_refused c.in-Err-optional_over.fault (λ r. done_leads (omega arith))
    c.in-Err-optional_over.ensures))

pub arguments-returns-in-None : goal.arguments-returns-in-None
arguments-returns-in-None t c = either_second (after_never c.in_default.ensures)
    (either_first (no_list c.args.depth c.in-Some-symbol.ensures (omega arith)) (after_got c.in-Some-symbol.ensures c.in-None.ensures))

pub arguments-returns-in-Some-everything_closed : goal.arguments-returns-in-Some-everything_closed
arguments-returns-in-Some-everything_closed t c =
    either_second (after_never c.in_default.ensures)
    (either_first (no_list c.args.depth c.in-Some-symbol.ensures (omega arith)) (after_got c.in-Some-symbol.ensures
    c.in-Some-everything_closed.ensures))

pub arguments-returns-in_err-list : goal.arguments-returns-in_err-list
arguments-returns-in_err-list t c = handed_on _ _ _ _ c.from_residual.ensures.1
    (either_second (after_never c.in_default.ensures) (either_second (after_never c.in_default-symbol.ensures)
    (as_refused _ c.in_err-list.ensures)))

pub closed_list-returns-in_err-one_level : goal.closed_list-returns-in_err-one_level
closed_list-returns-in_err-one_level t c =
    handed_on _ _ Syntax _ c.from_residual.ensures.1
    (missing (never_then (never_listed (nothing_below c.args.depth (ChainRank c.args.kind) _ c.in_err-one_level.ensures.err))))

pub closed_list-returns-in_err-list : goal.closed_list-returns-in_err-list
closed_list-returns-in_err-list t c = let lt : 0 < c.args.depth = c.in_ok-one_level.ensures.ok in
    handed_on _ _ _ _ c.from_residual-in_err-list.ensures.1
    (closed_refused _ (omega arith) (lower c.args.depth (ChainRank c.args.kind) (λ (R : Row Tree). Answers (Listed R) 12
    (meanings c.args.tokens.now) (failed c.in_err-list.field-0.0)) lt c.in_err-list.ensures))

pub closed_list-returns : goal.closed_list-returns
closed_list-returns t c = let lt : 0 < c.args.depth = c.in_ok-one_level.ensures.ok in
    closed_by (λ l. views l.items) (λ s. s.now) _ (omega arith) (lower c.args.depth (ChainRank c.args.kind)
    (λ (R : Row Tree). Answers (Listed R) 12 (meanings c.args.tokens.now) (Got (views c.in_ok-list.list.items)
    (meanings c.in_ok-list.rest.now))) lt c.in_ok-list.ensures) c.closed_off.ensures.here c.closed_off.ensures.missing

pub list-returns-in-Err : goal.list-returns-in-Err
list-returns-in-Err t c = listing_refused c.in-Err.fault (kind_above c.args.kind) c.elements.invariant c.in-Err.ensures

pub list-returns-in-None : goal.list-returns-in-None
list-returns-in-None t c = listing_got (kind_above c.args.kind) c.elements.invariant c.in-Ok.ensures c.in-None.ensures
    (one_more view _ _ _ c.in-Ok-push.ensures.added)

pub list-elements-smaller : goal.list-elements-smaller
list-elements-smaller t c = let a = (chain_falls (operand_falls c.args.depth c.args.kind)).falls _ _ _ c.in-Ok.ensures.found
    in meanings_fall_on _ _ _ c.in-Some.ensures a

pub list-elements-preserved : goal.list-elements-preserved
list-elements-preserved t c = listing_more (kind_above c.args.kind) c.elements.invariant c.in-Ok.ensures c.in-Some.ensures
    (one_more view _ _ _ c.in-Ok-push.ensures.added)

pub optional_filter-returns-in_default : goal.optional_filter-returns-in_default
optional_filter-returns-in_default t c = perhaps_absent (after_never c.in_default.ensures)

pub optional_filter-returns-in_default-symbol : goal.optional_filter-returns-in_default-symbol
optional_filter-returns-in_default-symbol t c = perhaps_present (grips c.in-Some.ensures (omega arith))
    (after_got c.in-Some.ensures (after_missing c.in_default-symbol.ensures))

pub optional_filter-returns-in_default-keyword : goal.optional_filter-returns-in_default-keyword
optional_filter-returns-in_default-keyword t c = perhaps_present (grips c.in-Some.ensures (omega arith))
    (after_got c.in-Some.ensures (after_got c.in-Some-symbol.ensures (after_missing c.in_default-keyword.ensures)))

pub optional_filter-returns-in_err-e : goal.optional_filter-returns-in_err-e
optional_filter-returns-in_err-e t c = handed_on _ _ _ _ c.from_residual.ensures.1
    (perhaps_present (grips c.in-Some.ensures (omega arith))
    (after_got c.in-Some.ensures (after_got c.in-Some-symbol.ensures (after_got c.in-Some-keyword.ensures
    (as_refused _ (answers_less (omega arith) c.in_err-e.ensures))))))

pub optional_filter-returns : goal.optional_filter-returns
optional_filter-returns t c = perhaps_present (grips c.in-Some.ensures (omega arith))
    (after_got c.in-Some.ensures (after_got c.in-Some-symbol.ensures (after_got c.in-Some-keyword.ensures
    (as_got (answers_less (omega arith) c.in_ok-e.ensures)))))

pub optional_over-returns-in_default : goal.optional_over-returns-in_default
optional_over-returns-in_default t c = perhaps_absent (after_never c.in_default.ensures)

pub optional_over-returns-in_err-window : goal.optional_over-returns-in_err-window
optional_over-returns-in_err-window t c =
    handed_on _ _ _ _ c.from_residual.ensures.1 (perhaps_present (grips c.in-Some.ensures (omega arith))
    (after_got c.in-Some.ensures (either_second (never_then (not_said c.in-Some-symbol.ensures refl))
    (after_got c.in-Some-symbol.ensures (as_refused _ (answers_less (omega arith) c.in_err-window.ensures))))))

pub optional_over-returns-in-Some-symbol : goal.optional_over-returns-in-Some-symbol
optional_over-returns-in-Some-symbol t c =
    got_along (windowed_says _) refl (perhaps_present (grips c.in-Some.ensures (omega arith))
    (after_got c.in-Some.ensures (either_second (never_then (not_said c.in-Some-symbol.ensures refl))
    (after_got c.in-Some-symbol.ensures (as_got (answers_less (omega arith) c.in_ok-window.ensures))))))

pub optional_over-returns-in_err-name : goal.optional_over-returns-in_err-name
optional_over-returns-in_err-name t c = handed_on _ _ _ _ c.from_residual-in_err-name.ensures.1
    (perhaps_present (grips c.in-Some.ensures (omega arith))
    (after_got c.in-Some.ensures (either_first (after_never c.in_default-symbol.ensures)
    (as_refused _ (answers_less (omega arith) c.in_err-name.ensures)))))

pub optional_over-returns : goal.optional_over-returns
optional_over-returns t c = got_along (named_says _) refl (perhaps_present (grips c.in-Some.ensures (omega arith))
    (after_got c.in-Some.ensures (either_first (after_never c.in_default-symbol.ensures)
    (as_got (answers_less (omega arith) c.in_ok-name.ensures)))))

pub window_inside-returns-in-Some : goal.window_inside-returns-in-Some
window_inside-returns-in-Some t c = got_along (c.window.ensures ∙ window_along (ap views c.new.ensures.items)
    (ap view_keys c.new-in-Some.ensures.items)) refl (window_empty c.in-Some.ensures)

pub window_inside-returns-in_err-window : goal.window_inside-returns-in_err-window
window_inside-returns-in_err-window t c = let lt : 0 < c.args.depth = c.in_ok-one_level.ensures.ok in
    handed_on _ _ _ _ c.from_residual-in_err-window.ensures.1 (either_second (after_never c.in_default.ensures)
    (room_answers lt (closed_refused _ (omega arith) (lower c.args.depth (ChainRank Disjunction)
    (λ (R : Row Tree). Answers (window R) 3 (meanings c.args.tokens.now) (failed c.in_err-window.field-0.0)) lt
    c.in_err-window.ensures))))

pub window_inside-returns : goal.window_inside-returns
window_inside-returns t c = let lt : 0 < c.args.depth = c.in_ok-one_level.ensures.ok in
    either_second (after_never c.in_default.ensures)
    (room_answers lt (closed_by view_window (λ s. s.now) _ (omega arith) (lower c.args.depth (ChainRank Disjunction)
    (λ (R : Row Tree). Answers (window R) 3 (meanings c.args.tokens.now) (Got (view_window c.in_ok-window.window)
    (meanings c.in_ok-window.rest.now))) lt c.in_ok-window.ensures) c.closed_off.ensures.here c.closed_off.ensures.missing))

pub window-returns-in_err-copied : goal.window-returns-in_err-copied
window-returns-in_err-copied t c = handed_on _ _ _ _ c.from_residual.ensures.1 (then_refused _ (λ x. window_leads_parts)
    c.in_err-copied.ensures)

pub window-returns-in_err-partition : goal.window-returns-in_err-partition
window-returns-in_err-partition t c = handed_on _ _ _ _ c.from_residual-in_err-partition.ensures.1
    (then_got (λ x. window_leads_parts) c.in_ok-copied.ensures (then_refused _ (λ x. window_leads_order) c.in_err-partition.ensures))

pub window-returns-in-Err : goal.window-returns-in-Err
window-returns-in-Err t c = then_got (λ x. window_leads_parts) c.in_ok-copied.ensures (then_got (λ x. window_leads_order)
    c.in_ok-partition.ensures (then_refused c.in-Err.fault (λ x. window_leads_frame) c.in-Err.ensures))

pub window-returns-in_default : goal.window-returns-in_default
window-returns-in_default t c = then_got (λ x. window_leads_parts) c.in_ok-copied.ensures
    (then_got (λ x. window_leads_order) c.in_ok-partition.ensures (then_got (λ x. window_leads_frame) c.in-Ok.ensures
    (then_refused Syntax (λ x. done_leads (omega arith)) c.in_default.ensures)))

pub window-returns : goal.window-returns
window-returns t c = got_along c.window.ensures refl (then_got (λ x. window_leads_parts) c.in_ok-copied.ensures
    (then_got (λ x. window_leads_order) c.in_ok-partition.ensures (then_got (λ x. window_leads_frame) c.in-Ok.ensures
    (then_got (λ x. done_leads (omega arith)) c.in-Some.ensures done_got))))

pub partition-returns-in_default : goal.partition-returns-in_default
partition-returns-in_default t c = got_along (ap views c.new.ensures.items) refl (perhaps_absent (after_never c.in_default.ensures))

pub partition-returns-in-None : goal.partition-returns-in-None
partition-returns-in-None t c = perhaps_present (grips c.in-Some.ensures (omega arith))
    (after_got c.in-Some.ensures (after_missing c.in-None.ensures))

pub partition-returns-in-Some-keyword : goal.partition-returns-in-Some-keyword
partition-returns-in-Some-keyword t c = perhaps_present (grips c.in-Some.ensures (omega arith))
    (after_got c.in-Some.ensures (after_got c.in-Some-keyword.ensures (answers_less (omega arith) c.list.ensures)))

pub order-returns-in_default : goal.order-returns-in_default
order-returns-in_default t c = got_along (ap view_keys c.new.ensures.items) refl (perhaps_absent (after_never c.in_default.ensures))

pub order-returns-in-None : goal.order-returns-in-None
order-returns-in-None t c = perhaps_present (grips c.in-Some.ensures (omega arith))
    (after_got c.in-Some.ensures (after_missing c.in-None.ensures))

pub order-returns-in-Some-keyword : goal.order-returns-in-Some-keyword
order-returns-in-Some-keyword t c = perhaps_present (grips c.in-Some.ensures (omega arith))
    (after_got c.in-Some.ensures (after_got c.in-Some-keyword.ensures (answers_less (omega arith) c.keys.ensures)))

pub keys-returns-in-Err : goal.keys-returns-in-Err
keys-returns-in-Err t c = listing_refused c.in-Err.fault (omega arith) c.elements.invariant c.in-Err.ensures

pub keys-returns-in-None : goal.keys-returns-in-None
keys-returns-in-None t c = listing_got (omega arith) c.elements.invariant c.in-Ok.ensures c.in-None.ensures
    (one_more view_key _ _ _ c.in-Ok-push.ensures.added)

pub keys-elements-smaller : goal.keys-elements-smaller
keys-elements-smaller t c = let a = (key_falls (chain_falls (operand_falls c.args.depth Disjunction))).falls _ _ _
    c.in-Ok.ensures.found in meanings_fall_on _ _ _ c.in-Some.ensures a

pub keys-elements-preserved : goal.keys-elements-preserved
keys-elements-preserved t c = listing_more (omega arith) c.elements.invariant c.in-Ok.ensures c.in-Some.ensures
    (one_more view_key _ _ _ c.in-Ok-push.ensures.added)

pub key-returns-in_err-e : goal.key-returns-in_err-e
key-returns-in_err-e t c = handed_on _ _ _ _ c.from_residual.ensures.1 (then_refused _ (λ e. key_leads) c.in_err-e.ensures)

pub key-returns-in_default : goal.key-returns-in_default
key-returns-in_default t c = then_got (λ e. key_leads) c.in_ok-e.ensures
    (then_got (λ d. key_leads_nulls) c.descending-descending.ensures (then_refused Syntax (λ n. done_leads (omega arith))
    c.in_default.ensures))

pub key-returns : goal.key-returns
key-returns t c = got_along c.key.ensures refl (then_got (λ e. key_leads) c.in_ok-e.ensures
    (then_got (λ d. key_leads_nulls) c.descending-descending.ensures (then_got (λ n. done_leads (omega arith)) c.in-Some.ensures done_got)))

pub list-returns-in-Err-push : goal.list-returns-in-Err-push
list-returns-in-Err-push t c = short c.in-Err-push.fault c.in-Err-push.ensures.fault

pub keys-returns-in-Err-push : goal.keys-returns-in-Err-push
keys-returns-in-Err-push t c = short c.in-Err-push.fault c.in-Err-push.ensures.fault

pub primary-returns-in-Some-text : goal.primary-returns-in-Some-text
primary-returns-in-Some-text t c = got_along (text_says _ ∙ ap Quoted c.in_ok-text.ensures.cases) refl (primary_text c.in-Some-text.ensures)

pub primary-returns-in-Some-name : goal.primary-returns-in-Some-name
primary-returns-in-Some-name t c = primary_name_copied c.in-Some-name.ensures c.in_ok-name.ensures.cases c.column_or_call.ensures

pub primary-returns-in-Some-keyword-2 : goal.primary-returns-in-Some-keyword-2
primary-returns-in-Some-keyword-2 t c = primary_grouping c.in-Some-keyword-2.ensures (answers_less (omega arith) c.grouping_call.ensures)

pub negation-returns : goal.negation-returns
negation-returns t c = let lt : 0 < c.args.depth = c.in_ok-one_level.ensures.ok in
    got_along (not_says _ _ c.in_ok-operand.ensures.ok) refl
    (either_first (begins_not (tests_begin c.args.depth (deeper c.args.depth)) c.in-Some.ensures (omega arith))
    (after_got c.in-Some.ensures (as_got
    (lower c.args.depth NegationRank (λ (R : Row Tree). Answers R 22 (meanings c.in-Some.after.now)
    (Got (view c.in_ok-e.e) (meanings c.in_ok-e.rest.now))) lt c.in_ok-e.ensures))))

pub compared-returns : goal.compared-returns
compared-returns t c = got_along (compare_says _ _ _ _ _ c.in-Ok-new.ensures.ok c.in-Ok-new-2.ensures.ok) refl
    (perhaps_present (one_grips comparison_grip c.in-Some.ensures) (then_got {j = 31} (λ x. any_leads)
    (one_got c.in-Some.ensures) (as_got (answers_less (omega arith) c.in-Ok.ensures))))

pub among-returns : goal.among-returns
among-returns t c = got_along (in_says _ _ _ _ c.in-Ok-new.ensures.ok) refl
    (after_got c.in-Some.ensures (as_got (answers_less (omega arith) c.in-Ok.ensures)))

pub up_to-returns : goal.up_to-returns
up_to-returns t c = got_along (between_says _ _ _ _ _ _ _ c.in-Ok-new.ensures.ok c.in-Ok-new-2.ensures.ok c.in-Ok-new-3.ensures.ok) refl
    (after_got c.in-Some.ensures (as_got (answers_less (omega arith) c.in-Ok.ensures)))

pub sign-returns : goal.sign-returns
sign-returns t c = let lt : 0 < c.args.depth = c.in_ok-one_level.ensures.ok in
    got_along (sign_says _ _ _ c.in_ok-operand.ensures.ok) refl (either_first (primary_no_sign c.in-Some.ensures)
    (then_got {j = 31} (λ m. any_leads) (one_got c.in-Some.ensures)
    (as_got (lower c.args.depth SignRank (λ (R : Row Tree). Answers R 28 (meanings c.in-Some.after.now)
    (Got (view c.in_ok-e.e) (meanings c.in_ok-e.rest.now))) lt c.in_ok-e.ensures))))

pub column_or_call-returns-in-None : goal.column_or_call-returns-in-None
column_or_call-returns-in-None t c = got_along (column_says _) refl
    (perhaps_absent (never_either (after_never c.in_default.ensures) (after_never c.in-None.ensures)))

pub arguments-returns : goal.arguments-returns
arguments-returns t c = got_along (listed_says _) refl (either_second (after_never c.in_default.ensures)
    (either_second (after_never c.in_default-symbol.ensures) (as_got c.in_ok-list.ensures)))

pub call-returns : goal.call-returns
call-returns t c = got_along (call_says _ _ c.in_ok-call.ensures.ok) refl (then_got (λ g. any_leads) c.in_ok-arguments.ensures
    (then_got (λ f. call_leads) c.in-Ok.ensures (then_got (λ r. done_leads (omega arith)) c.in-Ok-optional_over.ensures done_got)))

pub arguments-returns-in-Some : goal.arguments-returns-in-Some
arguments-returns-in-Some t c =
    let empty : view_arguments (given.Listed c.new.result) ≡ These NoTrees = listed_says c.new.result
    ∙ ap (λ (v : List Expression). These (trees (views v))) c.new.ensures.items in
    got_along empty refl (either_first (never_either (other_token c.in-Some.ensures (λ q. cc))
    (no_list c.args.depth c.in-Some.ensures (omega arith))) (after_got c.in-Some.ensures done_got))
