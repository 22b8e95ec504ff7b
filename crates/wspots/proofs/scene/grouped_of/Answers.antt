use Rattle.std.proofs.Common.{sym, arith}
use Rattle.std.proofs.lemmas.List.{drop_all}
use Rattle.wspots.proofs.Entered.{all_named, named_here, named_nowhere, none_named}
use Rattle.wspots.proofs.scene.grouped_of.Goals as goal

pub marks-init : goal.marks-init
marks-init c = none_named c.args.written c.args.level c.new-names.result c.new-names.ensures.empty

pub marks-preserved-in_default : goal.marks-preserved-in_default
marks-preserved-in_default c = named_nowhere c.args.written c.args.level c.marks.mark-index _ c.marks-test.true c.marks.names
    (sym c.in_default.ensures) c.marks.invariant

pub marks-preserved : goal.marks-preserved
marks-preserved c = named_here c.args.written c.args.level c.marks.mark-index _ c.marks-test.true c.marks.names c.insert.new.self
    c.in-Some.name (sym c.in-Some.ensures) c.in_ok-insert.ensures.updates c.marks.invariant

pub returns : goal.returns
returns c = all_named c.args.written c.args.level c.marks.mark-index c.marks.names
    (drop_all c.marks.mark-index c.args.written.marks.now (omega (arith, c.marks-test.false))) c.marks.invariant
