use Rattle.std.proofs.Common.{◌≡◌, ◌∙◌, ◌≤◌, Bool, true, false, not, length, refl, sym, ap, subst}
use Rattle.std.specs.FinMap.{find}
use Rattle.wvalues.specs.Names.{name_cmp}
use Rattle.wentries.specs.Blocks.{longest}
use Rattle.wentries.specs.Entries.{known_entries}
use Rattle.wentries.proofs.Cutting.{room_below, room_known}
use Rattle.wentries.proofs.blocks.Block.has_room.Goals as goal

not_true : (b : Bool) → not b ≡ true → b ≡ false
not_true true e = sym e
not_true false e = refl

pub returns-then-is_some-clause-room : goal.returns-then-is_some-clause-room
returns-then-is_some-clause-room c = λ e.
    room_known c.held_of.result c.args.self.now c.args.name.now
    (c.held_of.ensures.known ∙ ap (λ es. find name_cmp c.args.name.now (known_entries es)) (c.deref.ensures.value ∙ c.self.view_is))
    (sym c.is_some.ensures ∙ c.if-is_some.true) c.requires (subst (λ es. length es ≤ longest) c.self.view_is c.self.invariant.bounded)

pub returns-clause-room : goal.returns-clause-room
returns-clause-room c = λ e. room_below c.args.self.now c.args.name.now c.requires (c.is_full.ensures.room (not_true c.is_full.result e))
