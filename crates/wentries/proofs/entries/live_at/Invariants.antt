use Rattle.std.proofs.Common.{◌≡◌, ◌<◌, length, drop, slice_get}
use Rattle.wentries.specs.Keeping.{kept_in}
use Rattle.wentries.proofs.entries.live_at.Given as goal

abbrev pub invariant-entries : goal.invariant-entries
invariant-entries l = record {
  below : l.left < length (kept_in (drop l.entry-index l.entries));
  same : slice_get (kept_in l.entries) l.number ≡ slice_get (kept_in (drop l.entry-index l.entries)) l.left;
}
