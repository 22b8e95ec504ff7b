use Rattle.std.proofs.Common.{◌∙◌, ap, length, sym, subst, arith}
use Rattle.wset.specs.Running.{AreStarts, lives_before}
use Rattle.wset.proofs.LiveFacts.{starts_more}
use Rattle.wset.proofs.starts.count_on.Goals as goal

pub blocks-2-preserved : goal.blocks-2-preserved
blocks-2-preserved c = record {
  room = omega arith;
  in_range = omega arith;
  starts = subst (AreStarts c.args.blocks.now) (sym c.push_reserved.ensures.items)
      (starts_more c.args.blocks.now c.blocks-2.starts.items _ (c.next_start-start.ensures
      ∙ ap (λ l. lives_before c.args.blocks.now (length l)) c.deref.ensures.value) c.blocks-2.invariant.starts);
}
