use Rattle.std.proofs.Common.{◌≡◌, ◌≤◌, ◌+◌, length, drop}
use Rattle.wentries.specs.Keeping.{kept_in}
use Rattle.wentries.proofs.entries.live_count.Given as goal

abbrev pub invariant-entries : goal.invariant-entries
invariant-entries l = record {
  few : l.count ≤ l.entry-index;
  counted : l.count + length (kept_in (drop l.entry-index l.entries)) ≡ length (kept_in l.entries);
}
