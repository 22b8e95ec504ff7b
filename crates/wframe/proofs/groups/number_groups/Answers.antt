use Rattle.std.proofs.Common.{◌≡◌, ◌+◌, ◌-◌, ap, ◌∙◌, arith}
use Rattle.wvalues.specs.Order.{keys_cmp}
use Rattle.wframe.specs.KeyRows.{key_lists, sort_keys}
use Rattle.wframe.specs.Peers.{group_number}
use Rattle.wframe.proofs.CutFacts.{numbers_more, long_more}
use Rattle.wframe.proofs.groups.number_groups.Goals as goal

pub loop-row-preserved : goal.loop-row-preserved
loop-row-preserved c =
    let at = group_number (keys_cmp (sort_keys c.args.peers.now.rows)) (key_lists c.args.peers.now.rows) in
    let row = c.loop-row.row in
    let was : row ≡ row + 1 - 1 = omega arith in
    record {
      last = λ h. c.next_number-number.ensures.number ∙ ap at was;
      small = λ h. omega (arith, c.next_number-number.ensures.small);
      long = long_more c.loop-row.numbers.items c.push.new.self.items row c.next_number-number.result
          c.in_ok-push.ensures.items c.loop-row.invariant.long;
      each = numbers_more at c.loop-row.numbers.items c.push.new.self.items row c.next_number-number.result
          c.in_ok-push.ensures.items c.loop-row.invariant.long c.loop-row.invariant.each c.next_number-number.ensures.number;
    }
