use Rattle.std.proofs.Common.{◌≡◌, ◌*◌, Ok, List, Vec, Global, length, sym, ap, ◌∙◌, arith}
use Rattle.std.specs.Borrow.{Bor}
use Rattle.std.specs.List.{flat_map}
use Rattle.std.proofs.lemmas.List.{length-map}
use Rattle.std.proofs.lemmas.Result.{err_from_is_err_and}
use Rattle.wvalues.specs.Meaning.{meaning}
use Rattle.wplan.specs.Plans.{optional_formula}
use Rattle.wvalues.specs.declared.value.Value.{Value}
use Rattle.wrows.specs.Columns.{Row}
use Rattle.wrows.specs.LaidRows.{laid}
use Rattle.wrows.specs.Laid.{row_seen, rows_in, rows_seen}
use Rattle.wrows.specs.Plain.{kept_of}
use Rattle.wrows.proofs.RowFacts.{laid_length, laid_rows, length-laid}
use Rattle.wgroup.proofs.TellFacts.{kept_is_held, kept_wide, same_fault}
use Rattle.wgroup.proofs.having.held_cells.Goals as goal

pub returns-in_err-kept-clause-rows : goal.returns-in_err-kept-clause-rows
returns-in_err-kept-clause-rows c =
    let p = err_from_is_err_and c.from_residual-in_err-kept.result c.from_residual-in_err-kept.ensures.1 in
    let condition = optional_formula c.args.condition.now in
    let cells = c.args.cells.now in
    let inner : Vec (Bor (List Value)) Global → List Row = λ kept. rows_seen kept.items in
    rw (p.1, p.2) (same_fault inner rows_in c.in_err-kept.field-0.0 _ _
    (ap (kept_of condition) c.in_ok-rows.ensures ∙ kept_is_held condition (rows_in cells)
    (omega (arith, length-laid cells.width cells.count cells.cells.items, c.requires)))
    c.in_err-kept.ensures)

pub invariant_of-result : goal.invariant_of-result
invariant_of-result c =
    let condition = optional_formula c.args.condition.now in
    let cells = c.args.cells.now in
    let rows = c.in_ok-rows.rows.items in
    let kept = c.in_ok-kept.kept.items in
    let long : length rows ≡ cells.count = sym (length-map rows row_seen) ∙ ap length c.in_ok-rows.ensures
    ∙ length-laid cells.width cells.count cells.cells.items in
    let of_rows : kept_of condition (rows_seen rows) ≡ Ok (rows_seen kept) = c.in_ok-kept.ensures in
    let wide = kept_wide cells.width cells.count cells.cells.items condition rows kept cells.laid c.in_ok-rows.ensures
    c.requires long of_rows in
    record {
      laid = sym (length-map c.in_ok-held.held.items meaning)
          ∙ ap length (c.in_ok-held.ensures ∙ ap (flat_map row_seen) c.deref.ensures.value)
          ∙ laid_length cells.width row_seen kept wide ∙ ap (λ m. m * cells.width) (sym (c.len.ensures ∙ c.in_ok-kept.kept.ok.0));
    }

pub returns-clause-rows : goal.returns-clause-rows
returns-clause-rows c =
    let condition = optional_formula c.args.condition.now in
    let cells = c.args.cells.now in
    let rows = c.in_ok-rows.rows.items in
    let kept = c.in_ok-kept.kept.items in
    let held = c.in_ok-held.held.items in
    let long : length rows ≡ cells.count = sym (length-map rows row_seen) ∙ ap length c.in_ok-rows.ensures
    ∙ length-laid cells.width cells.count cells.cells.items in
    let of_rows : kept_of condition (rows_seen rows) ≡ Ok (rows_seen kept) = c.in_ok-kept.ensures in
    let wide = kept_wide cells.width cells.count cells.cells.items condition rows kept cells.laid c.in_ok-rows.ensures
    c.requires long of_rows in
    let as_kept : laid cells.width c.len.result held ≡ rows_seen kept
    = ap (λ m. laid cells.width m held) (c.len.ensures ∙ c.in_ok-kept.kept.ok.0) ∙ laid_rows cells.width row_seen kept wide
    held (c.in_ok-held.ensures ∙ ap (flat_map row_seen) c.deref.ensures.value) in
    sym (kept_is_held condition (rows_in cells) (omega (
      arith,
      length-laid cells.width cells.count cells.cells.items,
      c.requires,
    ))) ∙ ap (kept_of condition) (sym c.in_ok-rows.ensures) ∙ of_rows ∙ ap Ok (sym as_kept)
