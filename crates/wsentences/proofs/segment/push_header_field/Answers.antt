use Rattle.wsentences.proofs.Adding.{field_added, then_ok}
use Rattle.wsentences.proofs.segment.push_header_field.Goals as goal

pub returns : goal.returns
returns c = then_ok c.push_value.result c.push_value.ensures (λ last. field_added _ _ _ _ _ _ _
    c.in_ok-push_str.ensures.bytes c.in_ok-push_number.ensures c.in_ok-push_str-2.ensures.bytes last)
