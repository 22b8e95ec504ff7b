use Rattle.std.proofs.Common.{sym, ◌∙◌}
use Rattle.wplan.proofs.ConstantFacts.{no_text_added, text_added}
use Rattle.wplan.proofs.constants.texts_in.Goals as goal

pub values-preserved : goal.values-preserved
values-preserved c = text_added c.values.texts c.insert.new.self c.args.values.now c.values.value-index c.value-item.result
    c.in_ok-from_str.field-0 c.values-test.true c.value-item.is (sym c.is_no_text.ensures ∙ c.if-is_no_text.false)
    (c.in_ok-from_str.ensures.ok ∙ c.text.ensures) c.in_ok-insert.ensures.updates c.values.invariant

pub values-preserved-then-is_no_text : goal.values-preserved-then-is_no_text
values-preserved-then-is_no_text c = no_text_added c.args.values.now c.values.value-index c.value-item.result c.values.texts
    c.values-test.true c.value-item.is (sym c.is_no_text.ensures ∙ c.if-is_no_text.true) c.values.invariant
