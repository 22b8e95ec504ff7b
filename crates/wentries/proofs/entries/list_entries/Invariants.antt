use Rattle.std.proofs.Common.{◌≡◌, ◌++◌, map, drop}
use Rattle.wentries.specs.Entries.{listing_of}
use Rattle.wentries.proofs.entries.list_entries.Given as goal

abbrev pub invariant-entries : goal.invariant-entries
invariant-entries l = l.all.items ++ map listing_of (drop l.entry-index l.entries) ≡ l.fn.all.items ++ map listing_of l.entries
