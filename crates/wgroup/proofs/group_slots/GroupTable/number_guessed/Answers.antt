use Rattle.std.proofs.Common.{refl, sym, ◌∙◌}
use Rattle.wgroup.proofs.TableFacts.{held_known, number_is}
use Rattle.wgroup.proofs.group_slots.GroupTable.number_guessed.Goals as goal

pub returns-then-is_of_group-clause-held : goal.returns-then-is_of_group-clause-held
returns-then-is_of_group-clause-held c =
    held_known c.args.keyed.now c.args.row c.args.self.now c.requires.held c.args.self.now c.args.guess refl
    (sym c.is_of_group.ensures ∙ c.if-is_of_group.true)

pub returns-then-is_of_group-clause-number : goal.returns-then-is_of_group-clause-number
returns-then-is_of_group-clause-number c = number_is c.args.keyed.now c.args.row c.args.self.now c.requires.held c.args.guess
    (sym c.is_of_group.ensures ∙ c.if-is_of_group.true)
