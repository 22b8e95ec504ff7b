use Rattle.std.proofs.Common.{◌≡◌, ◌∙◌, ap, arith, false, length, refl, rules, subst, sym, take}
use Rattle.std.proofs.lemmas.List.{length-take}
use Rattle.wentries.specs.Knowledge.{Floor}
use Rattle.wentries.specs.Blocks.{flat}
use Rattle.wentries.proofs.Sizes.{few_before}
use Rattle.wset.specs.Running.{AreStarts}
use Rattle.wset.proofs.LiveFacts.{few_starts, same_placed, same_starts}
use Rattle.wset.proofs.starts.raise_inside.Goals as goal

pub count_again-requires-clause-starts : goal.count_again-requires-clause-starts
count_again-requires-clause-starts c = few_starts _ (take 0 c.reserve.new.self.items)
    (omega (arith, length-take 0 c.reserve.new.self.items))

pub returns-in_err-reserve-clause-few : goal.returns-in_err-reserve-clause-few
returns-in_err-reserve-clause-few c = omega (
  arith,
  few_before (flat c.args.blocks.now.items) (flat c.args.blocks.now.items)
      c.args.floor Floor c.requires.rising refl,
  c.requires.few,
)

pub count_again-requires-2-clause-starts : goal.count_again-requires-2-clause-starts
count_again-requires-2-clause-starts c = few_starts _ (take 0 c.reserve.new.self.items)
    (omega (arith, length-take 0 c.reserve.new.self.items))

pub returns-then-not-fall-clause-placed : goal.returns-then-not-fall-clause-placed
returns-then-not-fall-clause-placed c =
    let same : c.in-Ok.fall.lives ≡ false = search rules in
    same_placed c.args.blocks.now.items c.raise_in.new.blocks.items c.reserve.new.self.items
    (c.in-Ok.ensures.lives same) (ap length c.reserve.ensures.items ∙ c.requires.placed)

pub returns-then-not-fall-clause-starts : goal.returns-then-not-fall-clause-starts
returns-then-not-fall-clause-starts c =
    let same : c.in-Ok.fall.lives ≡ false = search rules in
    same_starts c.args.blocks.now.items c.raise_in.new.blocks.items c.reserve.new.self.items
    (c.in-Ok.ensures.lives same)
    (subst (AreStarts c.args.blocks.now.items) (sym c.reserve.ensures.items) c.requires.starts)

pub returns-then-not-fall-clause-fall : goal.returns-then-not-fall-clause-fall
returns-then-not-fall-clause-fall c = c.in-Ok.ensures.entries c.requires.few

pub returns-clause-fall : goal.returns-clause-fall
returns-clause-fall c = c.in-Ok.ensures.entries c.requires.few
