use Rattle.std.proofs.Common.{refl}
use Rattle.wslide.specs.Aggregates.{tests}
use Rattle.waggregate.proofs.GroupFacts.{given_alike, rows_answered}
use Rattle.waggregate.proofs.grouped.count_groups.Goals as goal

pub returns-clause-gives : goal.returns-clause-gives
returns-clause-gives c = λ feed tested.
    given_alike c.fold_groups.result _ _
    (rows_answered c.args.groups.now c.args.order.now c.requires.few feed feed.values (tests c.args.filter) refl tested
    c.counts_are_exact.ensures.rows)
    c.fold_groups.ensures.gives
