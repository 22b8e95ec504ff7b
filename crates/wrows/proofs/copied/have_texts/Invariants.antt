use Rattle.std.proofs.Common.{◌≡◌, take}
use Rattle.std.specs.List.{list_any}
use Rattle.wrows.specs.Extended.{extended_row}
use Rattle.wrows.specs.Columns.{value_at}
use Rattle.wrows.specs.Picked.{is_text}
use Rattle.wrows.proofs.copied.have_texts.Given as goal

abbrev pub invariant-loop-place : goal.invariant-loop-place
invariant-loop-place l = l.found ≡ list_any
    (λ place. list_any (λ i. is_text (value_at (extended_row l.extended i) place)) l.numbers)
    (take l.place-index l.places)
