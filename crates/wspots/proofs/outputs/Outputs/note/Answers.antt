use Rattle.std.proofs.Common.{sym, ◌∙◌}
use Rattle.wspots.proofs.KnownItems.{first_noted, other_noted}
use Rattle.wspots.proofs.outputs.Outputs.note.Goals as goal

pub returns-in_default-clause-known : goal.returns-in_default-clause-known
returns-in_default-clause-known c = first_noted c.args.self.now.first c.insert.new.self c.args.self.now.other c.args.name c.args.output
    (sym c.in_default.ensures) c.in_ok-insert.ensures.updates

pub returns-in_ok-insert-2-clause-known : goal.returns-in_ok-insert-2-clause-known
returns-in_ok-insert-2-clause-known c = other_noted c.args.self.now.first c.args.self.now.other c.insert-then-differ.new.self c.args.name
    c.in-Some.first c.args.output (sym c.in-Some.ensures) (sym c.contains_key.ensures ∙ c.if-not-contains_key.true)
    (sym c.differ.ensures ∙ c.if-differ.true) c.in_ok-insert-2.ensures.updates
