use Rattle.std.proofs.Common.{◌≡◌, [], drop, map}
use Rattle.wquery.specs.QueryTree.{view_entry}
use Rattle.wscope.specs.Windows.{named_windows, expand_all}
use Rattle.wscope.specs.Indexes.{ArePlaces}
use Rattle.wscope.proofs.window_index.WindowIndex.new.Given as goal

abbrev pub invariant-entries : goal.invariant-entries
invariant-entries l = record {
  placed : ArePlaces l.places (named_windows l.made.items);
  expanded : expand_all (named_windows l.made.items) (map view_entry (drop l.entry-index l.entries))
      ≡ expand_all [] (map view_entry l.entries);
}
