use Rattle.std.proofs.Common.{◌≡◌, ◌++◌, drop}
use Rattle.wentries.proofs.entries.share_entries.Given as goal

abbrev pub invariant-entries : goal.invariant-entries
invariant-entries l = l.all.items ++ drop l.entry-index l.entries ≡ l.fn.all.items ++ l.entries
