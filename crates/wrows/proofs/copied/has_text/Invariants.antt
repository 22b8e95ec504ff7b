use Rattle.std.proofs.Common.{◌≡◌, take}
use Rattle.std.specs.List.{list_any}
use Rattle.wrows.specs.Extended.{extended_row}
use Rattle.wrows.specs.Columns.{value_at}
use Rattle.wrows.specs.Picked.{is_text}
use Rattle.wrows.proofs.copied.has_text.Given as goal

abbrev pub invariant-loop-number : goal.invariant-loop-number
invariant-loop-number l = l.found ≡ list_any (λ i. is_text (value_at (extended_row l.extended i)
    l.place)) (take l.number-index l.numbers)
