use Rattle.std.proofs.Common.{sym, subst}
use Rattle.wset.specs.Merging.{Joins}
use Rattle.wset.proofs.Maps.{sorted_lists}
use Rattle.wset.proofs.Tails.{held_pushed, merged_all, merged_before, merged_none, merged_step}
use Rattle.wentries.specs.Entries.{AllHeldBy}
use Rattle.wset.proofs.merge.merged.Goals as goal

pub returns-clause-read : goal.returns-clause-read
returns-clause-read c d ours theirs = (c.merge.invariant.read d ours theirs).0

pub merge-preserved : goal.merge-preserved
merge-preserved c =
    let j : Joins c.merge.ours.now c.merge.theirs.now c.in-Some.step.entry c.in-Some.step.ours.now
    c.in-Some.step.theirs.now = rw c.in-Some.is at c.in_ok-step.ensures in
    let items = c.in_ok-push_settled.ensures in
    record {
      merges = merged_step c.merge.all.items _ c.in-Some.step.entry _ _ _ j.joined c.merge.invariant.merges items;
      ours = j.ours_rise;
      theirs = j.theirs_rise;
      read = λ d ours theirs.
          let all = c.merge.invariant.read d ours theirs in
          let step = j.read d all.1 all.2 in
          (held_pushed d c.merge.all.items _ c.in-Some.step.entry items all.0 step.0, step.1, step.2);
    }

pub merge-init : goal.merge-init
merge-init c = record {
  merges = merged_none c.new-all.result.items _ c.new-all.ensures.items (sorted_lists c.args.ours.now c.args.theirs.now
      c.requires.ours c.requires.theirs);
  ours = c.requires.ours;
  theirs = c.requires.theirs;
  read = λ d ours theirs. (subst (AllHeldBy d) (sym c.new-all.ensures.items) tt, ours, theirs);
}

pub push_settled-requires-clause-rising : goal.push_settled-requires-clause-rising
push_settled-requires-clause-rising c =
    let j : Joins c.merge.ours.now c.merge.theirs.now c.in-Some.step.entry c.in-Some.step.ours.now
    c.in-Some.step.theirs.now = rw c.in-Some.is at c.in_ok-step.ensures in
    (merged_before c.merge.all.items c.in-Some.step.entry _ _ _ j.joined c.merge.invariant.merges).0

pub push_settled-requires-clause-behind : goal.push_settled-requires-clause-behind
push_settled-requires-clause-behind c =
    let j : Joins c.merge.ours.now c.merge.theirs.now c.in-Some.step.entry c.in-Some.step.ours.now
    c.in-Some.step.theirs.now = rw c.in-Some.is at c.in_ok-step.ensures in
    (merged_before c.merge.all.items c.in-Some.step.entry _ _ _ j.joined c.merge.invariant.merges).1

pub returns-clause-known : goal.returns-clause-known
returns-clause-known c = merged_all c.merge.all.items _ _ (rw c.in_default.is at c.in_ok-step.ensures) c.merge.invariant.merges
