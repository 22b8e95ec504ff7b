use Rattle.std.proofs.Common.{◌≡◌, length, rules}
use Rattle.wset.proofs.Merging.{nothing, step_theirs_alone, step_ours_alone}
use Rattle.wset.proofs.merge.first_joined.Goals as goal

pub returns-in_default : goal.returns-in_default
returns-in_default c =
    step_theirs_alone _ _ c.requires.ours c.requires.theirs c.in-Some-split_first.other.now _ _
    (nothing _ c.in_default.ensures.cases) c.in-Some-split_first.ensures.cases.0 c.in_ok-entry.ensures

pub returns-then-is_empty : goal.returns-then-is_empty
returns-then-is_empty c =
    let none : length c.args.theirs.now ≡ 0 = search rules in
    step_ours_alone _ _ c.requires.ours c.requires.theirs c.in-Some.first.now _ _ c.in-Some.ensures.cases.0 (nothing _ none)
    c.in_ok-entry-2.ensures
