use Rattle.std.proofs.Common.{◌∙◌, sym}
use Rattle.wnames.specs.Calls.{is_number}
use Rattle.wnames.proofs.Given.{passes_end, passes_here}
use Rattle.wnames.proofs.calls.is_number_at.Goals as goal

pub returns : goal.returns
returns c = sym (passes_end is_number c.args.list.now c.args.place c.if-place-list.false)

pub returns-then-place-list : goal.returns-then-place-list
returns-then-place-list c =
    c.is_number.ensures ∙ sym (passes_here is_number c.args.list.now c.args.place c.index-list-place.result
    c.if-place-list.true c.index-list-place.is)
