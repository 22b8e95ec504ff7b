use Rattle.std.proofs.Common.{◌≡◌, drop}
use Rattle.std.specs.List.{filter_map}
use Rattle.wentries.specs.Knowledge.{first_of, floor_number}
use Rattle.wentries.specs.Entries.{known_entries}
use Rattle.wentries.proofs.entries.floor_of.Given as goal

abbrev pub invariant-entries : goal.invariant-entries
invariant-entries l = first_of (filter_map (floor_number l.origin) (known_entries (drop l.entry-index l.entries)))
    ≡ first_of (filter_map (floor_number l.origin) (known_entries l.entries))
