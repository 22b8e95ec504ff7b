use Rattle.std.proofs.Common.{◌≡◌, ◌∙◌, sym, ap, subst, length, arith}
use Rattle.std.proofs.lemmas.Bool.{true≢false}
use Rattle.wset.specs.Views.{join}
use Rattle.wentries.specs.Entries.{AllHeldBy, known_entries}
use Rattle.wentries.specs.Blocks.{flat}
use Rattle.wset.specs.Running.{AreStarts}
use Rattle.wset.proofs.Maps.{known_again, rising_join, settled_join, stored_view, view_again, view_join}
use Rattle.wset.proofs.Sets.{changed, same_view}
use Rattle.wset.proofs.set.SegmentSet.join.Goals as goal

pub invariant_of-self : goal.invariant_of-self
invariant_of-self c =
    let known = ap known_entries (c.in-Ok-in_blocks.ensures.same ∙ c.deref-5.ensures.value)
    ∙ (rw (c.deref-3.ensures.value, c.deref-4.ensures.value) at c.in-Ok.ensures.known) in
    let same : c.other.inside.schema ≡ c.self.inside.schema = sym (c.is_same.ensures.0 c.if-not-is_same.false) in
    record {
      rising = rising_join (flat c.self.inside.blocks.items) (flat c.other.inside.blocks.items)
          (flat c.in-Ok-in_blocks.blocks.items) c.self.invariant.rising c.other.invariant.rising known;
      settled = settled_join (flat c.self.inside.blocks.items) (flat c.other.inside.blocks.items)
          (flat c.in-Ok-in_blocks.blocks.items) c.self.invariant.rising c.other.invariant.rising known;
      counted = omega (arith, ap length (c.in-Ok-in_blocks.ensures.same ∙ c.deref-5.ensures.value), c.in-Ok.entries.ok.0);
      few = omega (arith, c.in-Ok.entries.ok.0);
      placed = c.in-Ok-starts_of.ensures.placed ∙ ap length c.deref-6.ensures.value;
      starts = subst (λ bs. AreStarts bs c.in-Ok-starts_of.starts.items) c.deref-6.ensures.value c.in-Ok-starts_of.ensures.starts;
      ordered = tt;
      noted = tt;
      read = subst (AllHeldBy c.self.inside.schema) (sym (c.in-Ok-in_blocks.ensures.same ∙ c.deref-5.ensures.value))
          (c.in-Ok.ensures.read c.self.inside.schema (rw c.deref-3.ensures.value c.self.invariant.read)
          (rw c.deref-4.ensures.value (subst (λ d. AllHeldBy d (flat c.other.inside.blocks.items)) same c.other.invariant.read)));
    }

pub returns-clause-ok : goal.returns-clause-ok
returns-clause-ok c =
    let known = ap known_entries (c.in-Ok-in_blocks.ensures.same ∙ c.deref-5.ensures.value)
    ∙ (rw (c.deref-3.ensures.value, c.deref-4.ensures.value) at c.in-Ok.ensures.known) in
    changed c.self.inside.schema _ _ _ _ c.args.self.now (λ v. join v c.args.other.now.view) c.self.view_is
    (view_join (flat c.self.inside.blocks.items) (flat c.other.inside.blocks.items) (flat c.in-Ok-in_blocks.blocks.items)
    c.self.invariant.rising c.other.invariant.rising known
    ∙ ap (λ s. join (stored_view (flat c.self.inside.blocks.items)) s.view) c.other.view_is)

pub returns-then-not-teaches-clause-ok : goal.returns-then-not-teaches-clause-ok
returns-then-not-teaches-clause-ok c =
    let teaches = rw (c.deref.ensures.value, c.deref-2.ensures.value) at c.teaches.ensures.known in
    let known = teaches c.if-not-teaches.true in
    let ours = ap (λ s. s.view) c.self.view_is in
    let theirs = ap (λ s. s.view) c.other.view_is in
    same_view c.args.self.now _ (sym ours
    ∙ view_again (flat c.self.inside.blocks.items) (flat c.other.inside.blocks.items) c.self.invariant.rising
    c.self.invariant.settled c.other.invariant.rising known
    ∙ ap (λ v. join v (stored_view (flat c.other.inside.blocks.items))) ours
    ∙ ap (join c.args.self.now.view) theirs)

pub returns-in_default-clause-known : goal.returns-in_default-clause-known
returns-in_default-clause-known c = λ alike same.
    let teaches = rw (c.deref.ensures.value, c.deref-2.ensures.value) at c.teaches.ensures.new in
    sym (teaches (known_again _ _ _ _ c.self.invariant.rising c.other.invariant.rising c.other.invariant.settled
    (ap (λ s. s.view) c.self.view_is) (ap (λ s. s.view) c.other.view_is) same)) ∙ c.if-not-teaches.false

pub returns-in_default-in_blocks-clause-known : goal.returns-in_default-in_blocks-clause-known
returns-in_default-in_blocks-clause-known c = λ alike same.
    let teaches = rw (c.deref.ensures.value, c.deref-2.ensures.value) at c.teaches.ensures.new in
    sym (teaches (known_again _ _ _ _ c.self.invariant.rising c.other.invariant.rising c.other.invariant.settled
    (ap (λ s. s.view) c.self.view_is) (ap (λ s. s.view) c.other.view_is) same)) ∙ c.if-not-teaches.false

pub returns-in_default-starts_of-clause-known : goal.returns-in_default-starts_of-clause-known
returns-in_default-starts_of-clause-known c = λ alike same.
    let teaches = rw (c.deref.ensures.value, c.deref-2.ensures.value) at c.teaches.ensures.new in
    sym (teaches (known_again _ _ _ _ c.self.invariant.rising c.other.invariant.rising c.other.invariant.settled
    (ap (λ s. s.view) c.self.view_is) (ap (λ s. s.view) c.other.view_is) same)) ∙ c.if-not-teaches.false

pub returns-clause-idle : goal.returns-clause-idle
returns-clause-idle c = λ alike same.
    let teaches = rw (c.deref.ensures.value, c.deref-2.ensures.value) at c.teaches.ensures.new in
    let told = teaches (known_again _ _ _ _ c.self.invariant.rising c.other.invariant.rising c.other.invariant.settled
    (ap (λ s. s.view) c.self.view_is) (ap (λ s. s.view) c.other.view_is) same) in
    absurd (true≢false (sym (sym told ∙ c.if-not-teaches.false)))
