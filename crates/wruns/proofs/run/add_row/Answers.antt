use Rattle.std.proofs.Common.{◌+◌, refl, subst, sym}
use Rattle.wruns.specs.Grouping.{AreGrouped}
use Rattle.wruns.proofs.GroupFacts.{grouped_next, grouped_same}
use Rattle.wruns.proofs.run.add_row.Goals as goal

pub returns-then-share_keys : goal.returns-then-share_keys
returns-then-share_keys c =
    grouped_same c.args.table.now.keys.now c.args.table.now.segment.now.rows c.args.rows.now c.args.ends.now.items
    c.args.first c.args.place c.requires.grouped (c.if-share_keys.ensures refl)

pub returns : goal.returns
returns c =
    subst (λ l. AreGrouped c.args.table.now.keys.now c.args.table.now.segment.now.rows c.args.rows.now l c.args.place
    (c.args.place + 1)) (sym c.in_ok-push.ensures.items)
    (grouped_next c.args.table.now.keys.now c.args.table.now.segment.now.rows c.args.rows.now c.args.ends.now.items
    c.args.first c.args.place c.requires.grouped c.requires.place)
