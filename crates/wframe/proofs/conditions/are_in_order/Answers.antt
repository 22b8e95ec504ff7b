use Rattle.std.proofs.Common.{ℕ, ◌+◌, ◌<◌, length, arith, rules}
use Rattle.wvalues.specs.OrderLaws.{keys_total}
use Rattle.wframe.specs.KeyRows.{key_lists, sort_keys}
use Rattle.wframe.proofs.StepFacts.{in_order, in_order_within}
use Rattle.wframe.proofs.conditions.are_in_order.Goals as goal

pub returns : goal.returns
returns c =
    let vs = sort_keys c.args.partition_values.now in
    let ks = sort_keys c.args.keys.now in
    let values = key_lists c.args.partition_values.now in
    let keys = key_lists c.args.keys.now in
    let steps = λ (i : ℕ) (h : i + 1 < length values). c.loop-next.invariant i (omega arith) in (
      (λ t. (
        in_order (keys_total vs) (keys_total ks) values keys steps,
        in_order_within (keys_total vs) (keys_total ks)
            values keys c.requires steps,
      )),
      (λ h. search rules),
    )
