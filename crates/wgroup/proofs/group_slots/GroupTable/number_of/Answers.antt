use Rattle.std.proofs.Common.{◌≡◌, false, ap, ◌∙◌}
use Rattle.std.specs.List.{list_any}
use Rattle.wgroup.specs.Table.{Holds, alike, key_hash, slot_of}
use Rattle.wgroup.proofs.TableFacts.{held_known, held_still, if_ok, missing, number_is, number_new}
use Rattle.wgroup.proofs.group_slots.GroupTable.number_of.Goals as goal

pub returns-in-Some-clause-held : goal.returns-in-Some-clause-held
returns-in-Some-clause-held c =
    held_known c.args.keyed.now c.args.row c.args.self.now c.requires.held c.group_seen.new.self c.in-Some.number
    c.group_seen.ensures.same c.in-Some.ensures.some

pub returns-in-Some-clause-number : goal.returns-in-Some-clause-number
returns-in-Some-clause-number c = number_is c.args.keyed.now c.args.row c.args.self.now c.requires.held c.in-Some.number
    c.in-Some.ensures.some

pub add-requires-clause-held : goal.add-requires-clause-held
add-requires-clause-held c = held_still c.args.keyed.now c.args.row c.args.self.now c.requires.held c.group_seen.new.self
    c.group_seen.ensures.same

pub add-requires-clause-new : goal.add-requires-clause-new
add-requires-clause-new c =
    let keyed = c.args.keyed.now in
    let row = c.args.row in
    let table = c.args.self.now in
    let first = c.slot_of-first.result in
    let is : first ≡ slot_of table.slots.items (key_hash keyed row) = c.slot_of-first.ensures.slot
    ∙ ap (λ slots. slot_of slots c.key_hash.result) c.deref.ensures.value ∙ ap (slot_of table.slots.items) c.key_hash.ensures in
    ap (λ t. list_any (alike keyed row) t.firsts.items) c.group_seen.ensures.same
    ∙ missing keyed table.firsts.items table.slots.items table.apart.items c.requires.held.met first row is c.in-None.ensures.none

pub returns-in-None-clause-number : goal.returns-in-None-clause-number
returns-in-None-clause-number c =
    let keyed = c.args.keyed.now in
    let row = c.args.row in
    let table = c.args.self.now in
    let after = c.group_seen.new.self in
    let still : Holds keyed row after = held_still keyed row table c.requires.held after c.group_seen.ensures.same in
    let first = c.slot_of-first.result in
    let is : first ≡ slot_of table.slots.items (key_hash keyed row) = c.slot_of-first.ensures.slot
    ∙ ap (λ slots. slot_of slots c.key_hash.result) c.deref.ensures.value ∙ ap (slot_of table.slots.items) c.key_hash.ensures in
    let none : list_any (alike keyed row) after.firsts.items ≡ false
    = ap (λ t. list_any (alike keyed row) t.firsts.items) c.group_seen.ensures.same
    ∙ missing keyed table.firsts.items table.slots.items table.apart.items c.requires.held.met first row is c.in-None.ensures.none in
    if_ok c.add.result _ _ (number_new keyed row after still none) c.add.ensures.number
