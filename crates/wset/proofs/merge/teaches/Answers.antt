use Rattle.std.proofs.Common.{◌∙◌, ◌+◌, drop, sym, subst}
use Rattle.std.specs.List.{AllByRecursion}
use Rattle.wentries.specs.Blocks.{flat}
use Rattle.wset.specs.Merging.{IsKnownTo}
use Rattle.wentries.proofs.BlockFacts.{flat_next}
use Rattle.wset.proofs.Merging.{all_back, all_both, all_front}
use Rattle.wset.proofs.merge.teaches.Goals as goal

pub returns-then-some_add-clause-new : goal.returns-then-some_add-clause-new
returns-then-some_add-clause-new c = λ all.
    let P = IsKnownTo (flat c.args.ours.now) in
    let next = flat_next c.args.theirs.now c.theirs.block-index c.block-item.result c.theirs-test.true c.block-item.is in
    let here = all_front P c.block-item.result (flat (drop (c.theirs.block-index + 1) c.args.theirs.now))
    (subst (AllByRecursion P) next (c.theirs.invariant.new all)) in
    sym c.if-some_add.true ∙ c.some_add.ensures.new (subst (AllByRecursion P) (sym c.entries.ensures.same) here)

pub theirs-preserved : goal.theirs-preserved
theirs-preserved c =
    let P = IsKnownTo (flat c.args.ours.now) in
    let others = flat (drop (c.theirs.block-index + 1) c.args.theirs.now) in
    let next = flat_next c.args.theirs.now c.theirs.block-index c.block-item.result c.theirs-test.true c.block-item.is in
    let here = subst (AllByRecursion P) c.entries.ensures.same (c.some_add.ensures.known c.if-some_add.false) in
    record {
      known = λ rest. c.theirs.invariant.known (subst (AllByRecursion P) (sym next) (all_both P c.block-item.result others here rest));
      new = λ all. all_back P c.block-item.result others (subst (AllByRecursion P) next (c.theirs.invariant.new all));
    }
