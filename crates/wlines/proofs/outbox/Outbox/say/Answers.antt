use Rattle.std.proofs.Common.{refl}
use Rattle.wlines.proofs.Saying.{says_behind, on_ok_then, on_err_then}
use Rattle.wlines.proofs.outbox.Outbox.say.Goals as goal

pub returns-then-not-has_room-clause-ok : goal.returns-then-not-has_room-clause-ok
returns-then-not-has_room-clause-ok g c =
    on_ok_then c.write_through.result _ _ (says_behind _ _ _ c.args.piece.now c.make_room.ensures.says) c.write_through.ensures.ok

pub returns-then-not-has_room-clause-front : goal.returns-then-not-has_room-clause-front
returns-then-not-has_room-clause-front g c =
    on_err_then c.write_through.result _ _ (λ f. (f.0, says_behind _ _ _ _ c.make_room.ensures.says f.1)) c.write_through.ensures.front
