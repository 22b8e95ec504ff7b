use Rattle.std.proofs.Common.{◌≡◌, ◌<◌, ◌-◌, ◌∙◌, suc, ap, sym, length, arith, rules}
use Rattle.wentries.specs.Knowledge.{is_above}
use Rattle.wset.proofs.Tails.{tail_cut, tail_stays}
use Rattle.wset.proofs.merge.drop_tail.Goals as goal

pub returns-then-not-is_above : goal.returns-then-not-is_above
returns-then-not-is_above c =
    let some : 0 < length c.tail.all.items = search rules in
    let end : suc (c.len-end.result - 1) ≡ length c.tail.all.items = omega (arith, some, c.len-end.ensures, c.tail.all.ok.0) in
    sym (tail_stays c.tail.all.items c.args.floor.now (c.len-end.result - 1) c.index.result.now c.tail.invariant.rising end
    c.tail.invariant.behind
    (ap (λ e. is_above e.name c.args.floor.now) (sym c.index.ensures) ∙ sym c.is_above.ensures ∙ c.if-not-is_above.true))
    ∙ c.tail.invariant.same

pub tail-preserved : goal.tail-preserved
tail-preserved c =
    let some : 0 < length c.tail.all.items = search rules in
    let end : suc (c.len-end.result - 1) ≡ length c.tail.all.items = omega (arith, some, c.len-end.ensures, c.tail.all.ok.0) in
    let t = tail_cut c.tail.all.items c.truncate.new.self.items c.args.floor.now (c.len-end.result - 1) c.index.result.now
    c.tail.invariant.rising c.tail.invariant.behind end c.truncate.ensures.items
    (ap (λ e. is_above e.name c.args.floor.now) (sym c.index.ensures) ∙ sym c.is_above.ensures ∙ c.if-not-is_above.false) in
    record { rising = t.rising; behind = t.behind; same = t.same ∙ c.tail.invariant.same }
