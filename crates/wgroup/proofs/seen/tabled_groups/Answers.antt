use Rattle.wgroup.proofs.seen.tabled_groups.Goals as goal

pub number_rows-requires-clause-held : goal.number_rows-requires-clause-held
number_rows-requires-clause-held c = c.in_ok-table.ensures.holds c.args.keyed.now
