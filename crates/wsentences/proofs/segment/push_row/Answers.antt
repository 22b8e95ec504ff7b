use Rattle.wsentences.proofs.Adding.{row_added, then_ok}
use Rattle.wsentences.proofs.segment.push_row.Goals as goal

pub returns : goal.returns
returns c = then_ok c.push_value.result c.push_value.ensures (λ last. row_added _ _ _ _ _ _ _ _ _ _
    c.in_ok-push_str.ensures.bytes (rw c.from.ensures at c.in_ok-push_number.ensures) c.in_ok-push_str-2.ensures.bytes
    c.in_ok-push_bytes.ensures c.in_ok-push_str-3.ensures.bytes last)
