use Rattle.std.proofs.Common.{◌≡◌, ◌-◌, length}
use Rattle.std.specs.Io.KnownBytes.{Consumes}
use Rattle.wfolder.specs.Calls.{NothingFailed, most_reads}
use Rattle.wfiles.specs.Reading.{IsOver, read_more}
use Rattle.wfiles.proofs.files.read_rest.Given as goal

abbrev pub invariant-reads : goal.invariant-reads
invariant-reads g l = record {
  taken : Consumes (g.T.Read.remaining l.initial.reading.reader) (g.T.Read.remaining l.reading.reader) l.bytes.items;
  noted : l.reading.calls ≡ read_more l.bytes.items l.initial.reading.calls;
  within : IsOver l.most (length l.bytes.items) → ⊥;
  sound : NothingFailed l.system;
}

abbrev pub decreases-reads : goal.decreases-reads
decreases-reads g l = most_reads - l.system.reads
