use Rattle.std.proofs.Common.{◌≡◌, ◌+◌, ◌<◌, length, arith, refl}
use Rattle.wvalues.specs.Order.{keys_cmp}
use Rattle.wvalues.specs.OrderLaws.{keys_total}
use Rattle.wframe.specs.KeyRows.{key_lists, sort_keys}
use Rattle.wframe.proofs.CutFacts.{front_more, long_more}
use Rattle.wframe.proofs.PartitionFacts.{next_before, none_before}
use Rattle.wframe.proofs.FrameFacts.{peers_to}
use Rattle.wframe.proofs.NumberedFacts.{no_groups, more_groups, last_begin, begins_through}
use Rattle.wframe.proofs.peers.push_peers.Goals as goal

pub loop-from-init : goal.loop-from-init
loop-from-init c =
    let ks = sort_keys c.args.rows.now in
    let keys = key_lists c.args.rows.now in
    record {
      within = omega arith;
      before = none_before (keys_total ks) keys c.requires.ordered;
      groups = no_groups (keys_cmp ks) keys c.args.first c.args.numbers.now.items c.args.ends.now.items c.requires.numbers;
      long = omega (arith, c.requires.numbers);
      few = omega (arith, c.requires.few);
      last = omega (arith, c.requires.last);
      numbers_stay = record { same = λ i h. refl; long = omega arith };
      ends_stay = record { same = λ i h. refl; long = omega arith };
    }

pub overflow_sub-to : goal.overflow_sub-to
overflow_sub-to c =
    let ks = sort_keys c.args.rows.now in
    let keys = key_lists c.args.rows.now in
    let h : c.loop-from.from < length keys = omega (arith, c.loop-from-test.true, c.count-count.ensures) in
    let some = peers_to (keys_total ks) keys (length keys) c.loop-from.from c.loop-from.from c.agreeing_end-to.result h
    (c.loop-from.invariant.before h) c.agreeing_end-to.ensures in
    omega (arith, some)

pub loop-from-smaller : goal.loop-from-smaller
loop-from-smaller c =
    let ks = sort_keys c.args.rows.now in
    let keys = key_lists c.args.rows.now in
    let h : c.loop-from.from < length keys = omega (arith, c.loop-from-test.true, c.count-count.ensures) in
    let some = peers_to (keys_total ks) keys (length keys) c.loop-from.from c.loop-from.from c.agreeing_end-to.result h
    (c.loop-from.invariant.before h) c.agreeing_end-to.ensures in
    omega (arith, some, c.agreeing_end-to.ensures.within)

pub loop-from-preserved : goal.loop-from-preserved
loop-from-preserved c =
    let ks = sort_keys c.args.rows.now in
    let keys = key_lists c.args.rows.now in
    let n = length keys in
    let first = c.args.first in
    let low = length c.args.ends.now.items in
    let from = c.loop-from.from in
    let to = c.agreeing_end-to.result in
    let end = c.agreeing_end-to.ensures in
    let inv = c.loop-from.invariant in
    let hf : from < n = omega arith in
    let at = inv.before hf in
    let some = peers_to (keys_total ks) keys n from from to hf at end in
    let ns = c.loop-from.numbers.items in
    let es = c.loop-from.ends.items in
    let ms = c.push_group.new.numbers.items in
    let fs = c.push_group.new.ends.items in
    let m : length ms ≡ first + to = omega (arith, c.in_ok-push_group.ensures.long, inv.long, some) in
    record {
      within = end.within;
      before = next_before (keys_total ks) keys c.requires.ordered from to hf end;
      groups = more_groups (keys_total ks) keys first low from to ns ms es fs inv.groups inv.long inv.last
          c.in_ok-push_group.ensures.stays m c.in_ok-push_group.ensures.each c.in_ok-push_group.ensures.ends some at end;
      long = m;
      few = omega (arith, long_more es fs (length es) (first + to) c.in_ok-push_group.ensures.ends refl, inv.few, some);
      last = last_begin es fs (first + to) c.in_ok-push_group.ensures.ends;
      numbers_stay = begins_through c.args.numbers.now.items ns ms inv.numbers_stay c.in_ok-push_group.ensures.stays;
      ends_stay = front_more c.args.ends.now.items es fs (first + to) c.in_ok-push_group.ensures.ends inv.ends_stay;
    }
