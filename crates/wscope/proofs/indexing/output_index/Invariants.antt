use Rattle.std.proofs.Common.{◌≡◌, map, take}
use Rattle.std.specs.List.{list_any}
use Rattle.wquery.specs.QueryTree.{view_item}
use Rattle.wscope.specs.Sources.{all_titled, written_out}
use Rattle.wscope.specs.Outputs.{IsIndex}
use Rattle.wscope.specs.Called.{is_star}
use Rattle.wscope.proofs.indexing.output_index.Given as goal

abbrev pub invariant-items : goal.invariant-items
invariant-items l = record {
  star : l.has_star ≡ list_any is_star (map view_item (take l.item-index l.items));
  index : IsIndex l.called (all_titled l.columns) (written_out (all_titled l.columns) (map view_item (take l.item-index l.items)));
}
