use Rattle.std.proofs.Common.{◌≡◌, ◌<◌, length, get_or, subst, sym, ap, ◌∙◌, arith}
use Rattle.std.proofs.lemmas.List.{length-set}
use Rattle.wrows.proofs.RowFacts.{same_at}
use Rattle.wgroup.specs.Sight.{IsFirst, same_row}
use Rattle.wgroup.proofs.OrderFacts.{all_led, next_done, next_leader}
use Rattle.wgroup.proofs.leaders.find_leaders.Goals as goal

pub loop-place-preserved : goal.loop-place-preserved
loop-place-preserved c =
    let w = c.args.width in
    let n = c.args.count in
    let cells = c.args.cells.now in
    let keys = c.args.keys.now in
    let order = c.in_ok-order.order.items in
    let sorts = c.in_ok-order.ensures.order in
    let below = c.in_ok-order.ensures.below in
    let long = c.in_ok-order.ensures.len in
    let was = c.loop-place.invariant in
    let place = c.loop-place.place in
    let row = c.index-row.result.now in
    let next = c.leader_of-next.result in
    let there : place < n = c.loop-place-test.true in
    let here : get_or order place 0 ≡ row = sym (c.index-row.ensures ∙ same_at order place row 0 (omega (arith, there, long))) in
    let room : row < length c.loop-place.leaders.items = omega arith in
    let first : IsFirst (same_row w cells) n row next = next_leader keys w n cells c.requires.keys c.requires.laid order
    sorts below long place c.loop-place.leader row next there here (was.within (omega (arith, there))) was.begun
    was.last c.leader_of-next.ensures.kept c.leader_of-next.ensures.begun in
    record {
      long = ap length c.put_leader.ensures ∙ length-set c.loop-place.leaders.items row next ∙ was.long;
      within = λ z. c.leader_of-next.ensures.within;
      begun = λ z. absurd (omega (arith, z));
      last = λ j q. subst (λ k. IsFirst (same_row w cells) n (get_or order k 0) next) (omega (arith, q))
          (subst (λ r. IsFirst (same_row w cells) n r next) (sym here) first);
      done = λ j h. subst (λ l. IsFirst (same_row w cells) n (get_or order j 0) (get_or l (get_or order j 0) 0)) (sym c.put_leader.ensures)
          (next_done keys w n cells c.requires.keys c.requires.laid order sorts below long place row next
          c.loop-place.leaders.items here room first was.done j h);
    }

pub returns-clause-firsts : goal.returns-clause-firsts
returns-clause-firsts c =
    all_led c.args.keys.now c.args.width c.args.count c.args.cells.now c.requires.keys c.requires.laid
    c.in_ok-order.order.items c.in_ok-order.ensures.order c.in_ok-order.ensures.below c.in_ok-order.ensures.len
    c.loop-place.leaders.items (λ j h. c.loop-place.invariant.done j (omega (arith, h, c.loop-place-test.false)))
