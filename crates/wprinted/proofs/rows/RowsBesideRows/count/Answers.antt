use Rattle.std.proofs.Common.{◌∙◌, ◌-◌, map, min, sym, ap}
use Rattle.std.proofs.lemmas.List.{length-map}
use Rattle.wvalues.specs.Meaning.{meaning}
use Rattle.wcolumns.specs.Columns.{columns_seen}
use Rattle.wprinted.specs.Beside.{seen}
use Rattle.wprinted.proofs.BesideFacts.{from_long}
use Rattle.wprinted.proofs.rows.RowsBesideRows.count.Goals as goal

pub returns : goal.returns
returns c =
    let s = c.args.self.now in
    c.min.ensures ∙ ap (min s.count) (c.saturating_sub.ensures
    ∙ ap (λ n. n - s.from) (sym (length-map s.rows.now (λ cells. map meaning cells.now))))
    ∙ sym (from_long (seen s.rows.now) (columns_seen s.columns.now) s.from s.count)
