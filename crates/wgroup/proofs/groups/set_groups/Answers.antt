use Rattle.std.proofs.Common.{subst, sym}
use Rattle.wgroup.specs.Finer.{IsMade}
use Rattle.std.proofs.Common.{take}
use Rattle.wgroup.proofs.MadeFacts.{found_at, linked}
use Rattle.wgroup.proofs.groups.set_groups.Goals as goal

pub groups_of_groups-requires : goal.groups_of_groups-requires
groups_of_groups-requires c =
    let sets = c.args.found.now in
    let place = c.in-Some.place in
    let g = c.index-found-place.result in
    let found = found_at c.args.columns.now c.args.set.now c.args.rows.now sets place g c.requires.seen
    c.in-Some.ensures.within c.in-Some.ensures.finer c.index-found-place.is in
    record {
      kept = found.0;
      linked = linked (take place sets) g
          (subst (IsMade (take place sets)) (sym c.index-found-place.is) (c.requires.made place g c.in-Some.ensures.within));
      part = found.1;
      few = c.requires.few;
    }

pub returns-in-Some-clause-made : goal.returns-in-Some-clause-made
returns-in-Some-clause-made c =
    let sets = c.args.found.now in
    let place = c.in-Some.place in
    let g = c.index-found-place.result in
    let found = found_at c.args.columns.now c.args.set.now c.args.rows.now sets place g c.requires.seen
    c.in-Some.ensures.within c.in-Some.ensures.finer c.index-found-place.is in
    c.groups_of_groups.ensures.made sets found.2 (subst (IsMade (take place sets)) (sym c.index-found-place.is)
    (c.requires.made place g c.in-Some.ensures.within))
