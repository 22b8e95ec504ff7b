use Rattle.std.proofs.Common.{◌≡◌, ◌∙◌, false, ap, refl, sym, arith}
use Rattle.std.proofs.lemmas.Bool.{or_parts}
use Rattle.std.specs.FinMap.{get, put}
use Rattle.std.specs.List.{list_any}
use Rattle.wvalues.specs.Names.{name_cmp}
use Rattle.wentries.specs.Knowledge.{Floor, is_over}
use Rattle.wset.specs.Views.{is_below, join}
use Rattle.wset.specs.Items.{FloorItem, view_of_item}
use Rattle.wset.specs.Words.{is_floor}
use Rattle.wentries.specs.Blocks.{flat}
use Rattle.wentries.specs.Entries.{above_floor, known_entries}
use Rattle.wset.proofs.Maps.{entries-view, rising_floor, settled_floor, view_floor}
use Rattle.wset.proofs.LiveFacts.{orderly_flat}
use Rattle.wset.proofs.Sets.{changed, same_view}
use Rattle.wset.proofs.Singles.{floor_reached}
use Rattle.wset.proofs.set.SegmentSet.retire_to.Goals as goal

pub returns-then-is_reached-clause-ok : goal.returns-then-is_reached-clause-ok
returns-then-is_reached-clause-ok c =
    same_view c.args.self.now _ (floor_reached c.args.self.now.view c.args.name c.is_reached.ensures.settled
    (sym c.is_reached.ensures.reached ∙ c.if-is_reached.true))

pub raise_counted-requires-clause-count : goal.raise_counted-requires-clause-count
raise_counted-requires-clause-count c = (rw c.deref.ensures.value at c.in_ok-most.ensures.count) Floor

pub invariant_of-self-2 : goal.invariant_of-self-2
invariant_of-self-2 c =
    let es = flat c.self.inside.blocks.items in
    let gs = flat c.raise_counted.new.blocks.items in
    let known : known_entries gs ≡ above_floor c.args.name (put name_cmp c.args.name Floor (known_entries es)) =
    c.in_ok-entries.ensures.ok in
    let not_reached = or_parts (is_below c.args.self.now.view c.args.name) (is_floor (get c.args.self.now.view c.args.name))
    (sym c.is_reached.ensures.reached ∙ c.if-is_reached.false) in
    let high : list_any (is_over c.args.name) (known_entries es) ≡ false =
    ap (list_any (is_over c.args.name)) (sym (entries-view es c.self.invariant.rising))
    ∙ ap (λ s. is_below s.view c.args.name) c.self.view_is ∙ not_reached.0 in
    record {
      rising = rising_floor es gs c.args.name c.self.invariant.rising known;
      settled = settled_floor es gs c.args.name c.self.invariant.rising c.self.invariant.settled high known;
      counted = c.in_ok-entries.ensures.count;
      few = omega arith;
      placed = c.raise_counted.ensures.placed;
      starts = c.raise_counted.ensures.starts;
      ordered = tt;
      noted = tt;
      read = c.raise_counted.ensures.read _ c.self.invariant.read;
    }

pub returns-clause-ok : goal.returns-clause-ok
returns-clause-ok c =
    let es = flat c.self.inside.blocks.items in
    let gs = flat c.raise_counted.new.blocks.items in
    let known : known_entries gs ≡ above_floor c.args.name (put name_cmp c.args.name Floor (known_entries es)) =
    c.in_ok-entries.ensures.ok in
    let not_reached = or_parts (is_below c.args.self.now.view c.args.name) (is_floor (get c.args.self.now.view c.args.name))
    (sym c.is_reached.ensures.reached ∙ c.if-is_reached.false) in
    let high : list_any (is_over c.args.name) (known_entries es) ≡ false =
    ap (list_any (is_over c.args.name)) (sym (entries-view es c.self.invariant.rising))
    ∙ ap (λ s. is_below s.view c.args.name) c.self.view_is ∙ not_reached.0 in
    changed c.self.inside.schema _ _ _ _ c.args.self.now (λ v. join v (view_of_item (FloorItem c.args.name))) c.self.view_is
    (view_floor es gs c.args.name c.self.invariant.rising c.self.invariant.settled high known)

pub invariant_of-self : goal.invariant_of-self
invariant_of-self c = orderly_flat c.self.inside _ refl refl c.in_err-entries.ensures.err
    c.raise_counted.ensures.placed c.raise_counted.ensures.starts refl refl c.self.invariant
