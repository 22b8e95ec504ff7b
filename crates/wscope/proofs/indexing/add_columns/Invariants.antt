use Rattle.std.proofs.Common.{◌≡◌, ◌++◌, List, take}
use Rattle.wscope.specs.Sources.{ShownItem, all_titled, columns_from}
use Rattle.wscope.specs.Outputs.{IsIndex}
use Rattle.wscope.proofs.indexing.add_columns.Given as goal

abbrev pub invariant-columns : goal.invariant-columns
invariant-columns l = record {
  place : l.place ≡ l.column-index;
  index : (is : List ShownItem) → IsIndex l.initial.called (all_titled l.columns) is
      → IsIndex l.called (all_titled l.columns) (is ++ columns_from 0 (all_titled (take l.column-index l.columns)));
}
