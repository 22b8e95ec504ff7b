use Rattle.std.proofs.Common.{◌∙◌, ◌+◌, ◌<◌, [], length, map, sym, ap, arith}
use Rattle.std.proofs.lemmas.List.{get_or-map, length-map}
use Rattle.wvalues.specs.Meaning.{meaning}
use Rattle.wcolumns.specs.Columns.{columns_seen}
use Rattle.wprinted.specs.Beside.{seen, whole}
use Rattle.wprinted.proofs.BesideFacts.{from_at, from_within}
use Rattle.wprinted.proofs.rows.RowsBesideRows.row.Goals as goal

pub overflow_add-number : goal.overflow_add-number
overflow_add-number c =
    let s = c.args.self.now in
    omega (
      arith,
      from_within (seen s.rows.now) (columns_seen s.columns.now) s.from s.count c.args.number c.requires,
      length-map s.rows.now (λ cells. map meaning cells.now),
    )

pub offset_bounds-self-number : goal.offset_bounds-self-number
offset_bounds-self-number c =
    let s = c.args.self.now in
    omega (
      arith,
      from_within (seen s.rows.now) (columns_seen s.columns.now) s.from s.count c.args.number c.requires,
      length-map s.rows.now (λ cells. map meaning cells.now),
    )

pub bounds-self-number : goal.bounds-self-number
bounds-self-number c =
    let s = c.args.self.now in
    omega (
      arith,
      from_within (seen s.rows.now) (columns_seen s.columns.now) s.from s.count c.args.number c.requires,
      length-map s.rows.now (λ cells. map meaning cells.now),
    )

pub returns : goal.returns
returns c =
    let s = c.args.self.now in
    let number = s.from + c.args.number in
    let row = c.index-self-number.result in
    let within : number < length s.rows.now =
    omega (
      arith,
      from_within (seen s.rows.now) (columns_seen s.columns.now) s.from s.count c.args.number c.requires,
      length-map s.rows.now (λ cells. map meaning cells.now),
    ) in
    ap (λ own. whole own (columns_seen s.columns.now) number)
    (sym (get_or-map (λ cells. map meaning cells.now) s.rows.now number row [] within))
    ∙ sym (from_at (seen s.rows.now) (columns_seen s.columns.now) s.from s.count c.args.number c.requires)
