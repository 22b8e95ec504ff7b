use Rattle.std.proofs.Common.{◌<◌, map, arith}
use Rattle.wexpressions.specs.declared.fault.ParseFault.TheVariants.{Syntax}
use Rattle.wexpressions.proofs.Steps.{closed_by, closed_refused, handed_on, missing, room_answers, room_never}
use Rattle.wexpressions.proofs.columns.nested.Goals as goal

pub returns-in_err-one_level : goal.returns-in_err-one_level
returns-in_err-one_level g c = handed_on _ _ Syntax _ c.from_residual.ensures.1 (missing (room_never c.in_err-one_level.ensures.err))

pub returns-in_err-list : goal.returns-in_err-list
returns-in_err-list g c = let lt : 0 < c.args.depth = c.in_ok-one_level.ensures.ok in
    handed_on _ _ _ _ c.from_residual-in_err-list.ensures.1 (room_answers lt (closed_refused _ (omega arith) c.in_err-list.ensures))

pub returns : goal.returns
returns g c = let lt : 0 < c.args.depth = c.in_ok-one_level.ensures.ok in
    room_answers lt (closed_by (λ l. map g.E.Element.said l.items) (λ s. s.now) _ (omega arith) c.in_ok-list.ensures
    c.closed_off.ensures.here c.closed_off.ensures.missing)
