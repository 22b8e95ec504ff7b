use Rattle.std.proofs.Common.{map, ap, ◌∙◌}
use Rattle.wruns.specs.Dealing.{ref_at, segment_rows}
use Rattle.wruns.specs.Refs.{refs}
use Rattle.wruns.proofs.DealingFacts.{rows_of_numbers}
use Rattle.wruns.proofs.dealing.deal_runs.Goals as goal

pub runs_dealt-requires : goal.runs_dealt-requires
runs_dealt-requires c =
    let s = segment_rows c.args.segments.now in
    c.deref-2.ensures.value ∙ c.in_ok-rows.ensures ∙ ap (map (ref_at (refs s))) c.in_ok-numbers.ensures.order
    ∙ rows_of_numbers c.args.keys.now s

pub returns-clause-rows : goal.returns-clause-rows
returns-clause-rows c =
    let s = segment_rows c.args.segments.now in
    c.in_ok-rows.ensures ∙ ap (map (ref_at (refs s))) c.in_ok-numbers.ensures.order ∙ rows_of_numbers c.args.keys.now s
