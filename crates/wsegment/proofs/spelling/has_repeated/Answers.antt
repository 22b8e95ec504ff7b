use Rattle.std.proofs.Common.{◌≡◌, ◌∙◌, true, false, sym, take}
use Rattle.std.specs.BTreeSet.{contains}
use Rattle.wsegment.proofs.RepeatFacts.{by_text, has_name, names-go, repeats-found, repeats-none, was-not-there, was-there}
use Rattle.wsegment.proofs.spelling.has_repeated.Goals as goal

pub returns-then-not-branch : goal.returns-then-not-branch
returns-then-not-branch c =
    let columns = c.args.columns.now in
    let column = c.column-item.result in
    let i = c.loop-column.column-index in
    let there = was-there c.in_ok-insert.field-0 (contains by_text c.loop-column.names c.name.result)
    c.in_ok-insert.ensures.added c.if-not-branch.true in
    let found : has_name column.name (take i columns) ≡ true =
    rw (← c.name.ensures) (sym (c.loop-column.invariant.known c.name.result) ∙ there) in
    sym (repeats-found columns i column c.loop-column-test.true c.column-item.is found)

pub loop-column-preserved : goal.loop-column-preserved
loop-column-preserved c =
    let columns = c.args.columns.now in
    let column = c.column-item.result in
    let i = c.loop-column.column-index in
    let absent = was-not-there c.in_ok-insert.field-0 (contains by_text c.loop-column.names c.name.result)
    c.in_ok-insert.ensures.added c.if-not-branch.false in
    let none : has_name column.name (take i columns) ≡ false =
    rw (← c.name.ensures) (sym (c.loop-column.invariant.known c.name.result) ∙ absent) in
    record {
      known = names-go c.loop-column.names c.insert.new.self c.name.result columns i column c.loop-column-test.true
          c.column-item.is c.name.ensures c.in_ok-insert.ensures.updates c.loop-column.invariant.known;
      once = repeats-none columns i column c.loop-column-test.true c.column-item.is none c.loop-column.invariant.once;
    }
