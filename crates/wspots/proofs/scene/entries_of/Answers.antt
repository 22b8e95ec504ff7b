use Rattle.std.proofs.Common.{sym, ◌∙◌, arith}
use Rattle.std.proofs.lemmas.List.{drop_all}
use Rattle.wspots.proofs.Entered.{all_entered, entered_before, entered_here, entered_nowhere, none_entered}
use Rattle.wspots.proofs.scene.entries_of.Goals as goal

pub marks-init : goal.marks-init
marks-init c = none_entered c.args.tokens.now c.args.level c.args.marks.now c.new-entries.result c.new-entries.ensures.empty

pub marks-preserved-in_default : goal.marks-preserved-in_default
marks-preserved-in_default c = entered_nowhere c.args.tokens.now c.args.level c.args.marks.now c.marks.number _ c.marks-test.true
    c.marks.entries (sym c.in_default.ensures) c.marks.invariant

pub marks-preserved-then-contains_key : goal.marks-preserved-then-contains_key
marks-preserved-then-contains_key c = entered_before c.args.tokens.now c.args.level c.args.marks.now c.marks.number _ c.marks-test.true
    c.marks.entries c.in-Some.name (sym c.in-Some.ensures) (sym c.contains_key.ensures ∙ c.if-contains_key.true) c.marks.invariant

pub marks-preserved : goal.marks-preserved
marks-preserved c = entered_here c.args.tokens.now c.args.level c.args.marks.now c.marks.number _ c.marks-test.true
    c.marks.entries c.insert.new.self c.in-Some.name (sym c.in-Some.ensures) (sym c.contains_key.ensures ∙ c.if-contains_key.false)
    c.in_ok-insert.ensures.updates c.marks.invariant

pub returns : goal.returns
returns c = all_entered c.args.tokens.now c.args.level c.args.marks.now c.marks.number c.marks.entries
    (drop_all c.marks.number c.args.marks.now (omega (arith, c.marks-test.false))) c.marks.invariant
