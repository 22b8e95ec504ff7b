use Rattle.std.proofs.Common.{map, string_bytes}
use Rattle.wfiles.proofs.Listing.{FindsRest}
use Rattle.wfiles.proofs.files.new_names.Given as goal

abbrev pub invariant-bytes : goal.invariant-bytes
invariant-bytes l = FindsRest l.names (map string_bytes l.found.items) l.name.items l.byte-index
