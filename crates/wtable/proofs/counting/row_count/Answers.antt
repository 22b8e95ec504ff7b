use Rattle.std.proofs.Common.{◌≡◌, ◌+◌, ◌-◌, ◌^◌, length, min, ap, ◌∙◌, arith}
use Rattle.wtable.specs.Tables.{rows_of_set}
use Rattle.wtable.proofs.CountedFacts.{count_left}
use Rattle.wtable.proofs.HeldFacts.{rows_left}
use Rattle.wtable.proofs.SourceFacts.{set_rows}
use Rattle.wtable.proofs.counting.row_count.Goals as goal

pub segments-init : goal.segments-init
segments-init c =
    let set = c.args.set.now in
    let n = length (rows_of_set set) in
    let none : 0 + n ≡ n = omega arith in
    record {
      all = ap (λ l. min (0 + length (rows_left l)) (2 ^ 64 - 1)) c.into_iter-segment-iterator.ensures.into_iter_gives
          ∙ ap (λ rows. min (0 + length rows) (2 ^ 64 - 1)) (set_rows set c.lives-segment-items.result
          c.lives-segment-items.ensures) ∙ ap (λ m. min m (2 ^ 64 - 1)) none;
      small = omega arith;
    }

pub segments-preserved : goal.segments-preserved
segments-preserved c = record {
  all = count_left c.segments.count _ _ _ _ _ c.rows.result c.in-Some.ensures.steps c.segments.invariant.all
      c.rows.ensures.count c.saturating_add-count.ensures;
  small = omega (arith, c.saturating_add-count.ensures);
}

pub returns : goal.returns
returns c =
    let left : length (rows_left c.segments.segment-iterator) ≡ 0 = ap (λ l. length (rows_left l)) c.in-None.ensures.steps.0 in
    omega (arith, left, c.segments.invariant.all, c.segments.invariant.small)
