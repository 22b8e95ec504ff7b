use Rattle.std.proofs.Common.{◌≡◌, map, take}
use Rattle.wvalues.specs.Meaning.{Null, meaning}
use Rattle.wcolumns.specs.Columns.{read_in}
use Rattle.wcalls.proofs.listing.other_values.Given as goal

abbrev pub invariant-loop-row : goal.invariant-loop-row
invariant-loop-row l = record {
  null : meaning l.null ≡ Null;
  filled : map meaning l.values.items ≡ take l.row (read_in l.others);
}
