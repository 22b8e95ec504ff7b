use Rattle.wsentences.proofs.Adding.{lengths_added, then_ok}
use Rattle.wsentences.proofs.segment.push_lengths.Goals as goal

pub returns : goal.returns
returns c = then_ok c.push_number-3.result c.push_number-3.ensures (λ last. lengths_added _ _ _ _ _ _ _ _ _ _
    c.in_ok-push_str.ensures.bytes (rw c.from.ensures at c.in_ok-push_number.ensures) c.in_ok-push_str-2.ensures.bytes
    c.in_ok-push_number-2.ensures c.in_ok-push_str-3.ensures.bytes last)
