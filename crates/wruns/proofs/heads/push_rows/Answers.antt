use Rattle.std.proofs.Common.{◌++◌, sym, ap, ◌∙◌}
use Rattle.wruns.specs.Heads.{group_at, groups_seen}
use Rattle.wruns.proofs.HeadFacts.{single_refs}
use Rattle.wruns.proofs.heads.push_rows.Goals as goal

pub returns-in_ok-push : goal.returns-in_ok-push
returns-in_ok-push c =
    let h = c.args.head in
    c.in_ok-push.ensures.items ∙ ap (λ l. c.args.refs.now.items ++ l)
    (sym (single_refs h.first.segment h.first.row (group_at (groups_seen c.args.sources.now) h)
    (c.requires.single c.if-head.true) c.requires.first))
