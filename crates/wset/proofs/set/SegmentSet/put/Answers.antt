use Rattle.std.proofs.Common.{◌∙◌, ap, length, refl, sym, subst, arith}
use Rattle.std.specs.FinMap.{insert}
use Rattle.std.specs.List.{list_any}
use Rattle.wset.specs.Views.{is_below}
use Rattle.wentries.specs.Knowledge.{is_over}
use Rattle.wentries.specs.Blocks.{flat}
use Rattle.wentries.specs.Holding.{IsHeldBy, known_of}
use Rattle.wentries.proofs.EntryFacts.{length-known_entries}
use Rattle.wset.proofs.Maps.{entries-view, settled_put, view_put}
use Rattle.wentries.proofs.Sizes.{rising_put}
use Rattle.wset.proofs.LiveFacts.{orderly_flat}
use Rattle.wset.proofs.Sets.{changed}
use Rattle.wset.proofs.set.SegmentSet.put.Goals as goal

pub invariant_of-self-2 : goal.invariant_of-self-2
invariant_of-self-2 c = record {
  rising = rising_put (flat c.self.inside.blocks.items) (flat c.put_counted.new.blocks.items) c.args.name
      (known_of c.args.held) c.self.invariant.rising c.in_ok-put_counted.ensures.ok;
  settled = settled_put (flat c.self.inside.blocks.items) (flat c.put_counted.new.blocks.items) c.args.name
      (known_of c.args.held) c.self.invariant.settled
      (ap (list_any (is_over c.args.name)) (sym (entries-view (flat c.self.inside.blocks.items) c.self.invariant.rising))
      ∙ ap (λ s. is_below s.view c.args.name) c.self.view_is ∙ c.requires.high)
      c.requires.marks c.in_ok-put_counted.ensures.ok;
  counted = (rw c.deref.ensures.value at c.in_ok-count.ensures.count) (known_of c.args.held)
      ∙ ap length (sym c.in_ok-put_counted.ensures.ok) ∙ length-known_entries (flat c.put_counted.new.blocks.items);
  few = omega arith;
  placed = c.put_counted.ensures.placed;
  starts = c.put_counted.ensures.starts;
  ordered = tt;
  noted = tt;
  read = c.put_counted.ensures.read _ c.self.invariant.read (subst (λ s. IsHeldBy s.schema c.args.held) (sym c.self.view_is)
      c.requires.read);
}

pub put_counted-requires-clause-few : goal.put_counted-requires-clause-few
put_counted-requires-clause-few c = omega (arith, (rw c.deref.ensures.value at c.in_ok-count.ensures.count) (known_of c.args.held))

pub returns-clause-ok : goal.returns-clause-ok
returns-clause-ok c =
    changed c.self.inside.schema _ _ _ _ c.args.self.now (λ v. insert v c.args.name (known_of c.args.held)) c.self.view_is
    (view_put (flat c.self.inside.blocks.items) (flat c.put_counted.new.blocks.items) c.args.name (known_of c.args.held)
    c.self.invariant.rising c.in_ok-put_counted.ensures.ok)

pub invariant_of-self : goal.invariant_of-self
invariant_of-self c = orderly_flat c.self.inside _ refl refl c.in_err-put_counted.ensures.err c.put_counted.ensures.placed
    c.put_counted.ensures.starts refl refl c.self.invariant
