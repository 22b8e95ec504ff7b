use Rattle.std.proofs.Common.{◌≤◌, ◌∙◌, arith, rules, subst}
use Rattle.wentries.specs.Blocks.{flat}
use Rattle.wentries.specs.Entries.{AreOriginsBelow, known_entries}
use Rattle.wset.proofs.Later.{below_of_origins, floor_alone}
use Rattle.wset.proofs.starts.raise_counted.Goals as goal

pub returns-then-end_before_origin-clause-ok : goal.returns-then-end_before_origin-clause-ok
returns-then-end_before_origin-clause-ok c =
    let below = subst (λ bs. AreOriginsBelow c.args.floor.origin (known_entries (flat bs))) c.deref.ensures.value
    (c.end_before_origin.ensures.0 c.if-end_before_origin.true) in
    c.in_ok-put_counted.ensures.ok ∙ floor_alone c.args.floor (known_entries (flat c.args.blocks.now.items)) below

pub returns-then-end_before_origin-clause-read : goal.returns-then-end_before_origin-clause-read
returns-then-end_before_origin-clause-read c d all = c.put_counted.ensures.read d all tt

pub returns-then-end_before_origin-clause-behind : goal.returns-then-end_before_origin-clause-behind
returns-then-end_before_origin-clause-behind c below =
    c.put_counted.ensures.behind (below_of_origins c.args.floor (known_entries (flat c.args.blocks.now.items)) below)

pub overflow_sub-result : goal.overflow_sub-result
overflow_sub-result c =
    let fits : c.in_ok-fall.fall ≤ c.args.count = omega (arith, c.in_ok-fall.ensures.fall, c.requires.count) in
    search rules

pub returns-clause-count : goal.returns-clause-count
returns-clause-count c = omega (arith, c.in_ok-fall.ensures.fall, c.requires.count)
