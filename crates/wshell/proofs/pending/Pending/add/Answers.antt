use Rattle.std.proofs.Common.{◌∙◌, ◌∷◌, ◌++◌, [], ◌<◌, ◌≤◌, length, ap, subst}
use Rattle.wshell.specs.Pending.{Kept, room}
use Rattle.wshell.proofs.Keeping.{pending_more, pending_still}
use Rattle.wshell.proofs.pending.Pending.add.Goals as goal

pub returns-then-is_full : goal.returns-then-is_full
returns-then-is_full c = λ text is.
    pending_still c.args.self.now c.turn.new.self c.args.byte text c.turn.ensures
    (subst (λ (k : Kept). room ≤ length k.text) c.turn.ensures c.if-is_full.ensures) is

pub returns : goal.returns
returns c = λ text is.
    pending_more c.args.self.now c.keep.new.self c.args.byte text
    (c.keep.ensures ∙ ap (λ (k : Kept). record k { text = k.text ++ c.args.byte ∷ [] }) c.turn.ensures)
    (subst (λ (k : Kept). length k.text < room) c.turn.ensures c.if-is_full.ensures) is
