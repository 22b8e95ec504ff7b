use Rattle.std.proofs.Common.{refl, sym, ◌∙◌}
use Rattle.wdistinct.proofs.Collected.{call_kind}
use Rattle.wdistinct.proofs.distinct_calls.wanted_call.Goals as goal

pub returns-then-is_of : goal.returns-then-is_of
returns-then-is_of c = (call_kind c.args.kind c.args.call.now ∙ sym c.is_of.ensures ∙ c.if-is_of.true, refl)

pub returns-else-is_of : goal.returns-else-is_of
returns-else-is_of c = call_kind c.args.kind c.args.call.now ∙ sym c.is_of.ensures ∙ c.if-is_of.false
