use Rattle.std.proofs.Common.{◌≡◌, ◌+◌, ◌-◌, take, drop, sym, ap, ◌∙◌, arith}
use Rattle.wgroup.proofs.TableFacts.{looks_first}
use Rattle.wgroup.proofs.group_slots.GroupTable.group_seen.Goals as goal

pub returns-then-is_of_group-clause-looks : goal.returns-then-is_of_group-clause-looks
returns-then-is_of_group-clause-looks c =
    let table = c.args.self.now in
    let first = c.args.first in
    let eight : (first + 8) - first ≡ 8 = omega arith in
    looks_first c.args.keyed.now c.args.row table first _
    (take ((first + 8) - first) (drop first c.deref.result.now)) c.requires.first
    (ap (λ n. take n (drop first c.deref.result.now)) eight ∙ ap (λ l. take 8 (drop first l)) c.deref.ensures.value)
    (sym c.is_of_group.ensures ∙ c.if-is_of_group.true)
