use Rattle.std.proofs.Common.{◌≡◌, ◌<◌, ◌-◌, ◌∙◌, ◌++◌, suc, length, take, ap, subst, sym, arith, rules}
use Rattle.wentries.specs.Entries.{AreBelow, IsRising, known_entries}
use Rattle.wentries.specs.Blocks.{flat}
use Rattle.wentries.proofs.BlockFacts.{below_end, flat_last}
use Rattle.wentries.proofs.blocks.end_before.Goals as goal

pub returns : goal.returns
returns c =
    let bs = c.args.blocks.now in
    let k = length bs - 1 in
    let some : 0 < length bs = search rules in
    let end : suc k ≡ length bs = omega (arith, some) in
    let block = c.index-blocks-last.result in
    let whole = flat_last bs k block end ∙ ap (λ b. flat (take k bs) ++ b) (sym c.index-blocks-last.is) in (
      λ t. subst (λ es. AreBelow c.args.name.now (known_entries es)) (sym whole)
          (c.ends_before.ensures.before t (flat (take k bs)) (subst IsRising whole c.requires)),
      λ below. c.ends_before.ensures.all (below_end (flat (take k bs)) block c.args.name.now
          (subst (λ es. AreBelow c.args.name.now (known_entries es)) whole below)),
    )
