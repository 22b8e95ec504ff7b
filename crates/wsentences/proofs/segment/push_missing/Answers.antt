use Rattle.std.proofs.Common.{string_bytes}
use Rattle.wsentences.proofs.Adding.{missing_added, text_pushed, then_ok}
use Rattle.wsentences.proofs.segment.push_missing.Goals as goal

pub returns : goal.returns
returns c =
    let column = c.in-Some-missing_column.column.now in
    then_ok c.push_str-2.result
    (text_pushed c.push_str-2.result (string_bytes c.push_str.new.self) column.name _ (rw c.name.ensures at c.push_str-2.ensures.bytes))
    (λ last. missing_added _ column _ _ _ c.in-Some-missing_column.ensures c.in_ok-push_str.ensures.bytes last)
