-- What is kept of a content: its cells, once they are made, and their runs.
use Rattle.std.specs.Prelude.{[]}
use Rattle.wruns.specs.KeptRuns.{KeptParts}
use Rattle.wentries.specs.declared.judged_content.Cells.{Cells}
use Rattle.wentries.specs.declared.judged_content.Cells.TheVariants as cells

-- the content and its runs, of which there are none where no cell is made
abbrev pub parts_of : Cells → KeptParts
parts_of (cells.Unmade judged) = record { content = judged.value; orders = [] }
parts_of (cells.Made runs) = runs
