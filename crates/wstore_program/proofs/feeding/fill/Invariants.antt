use Rattle.std.proofs.Common.{◌≡◌, ◌-◌, None}
use Rattle.std.specs.Io.KnownBytes.{Consumes}
use Rattle.wbatch.specs.Batches.{stream_of}
use Rattle.wfolder.specs.Calls.{NothingFailed, most_reads}
use Rattle.wfiles.specs.Reading.{read_more}
use Rattle.wstore_program.proofs.feeding.fill.Given as goal

abbrev pub invariant-reads : goal.invariant-reads
invariant-reads g l = record {
  taken : Consumes (g.T.Read.remaining l.initial.reading.reader) (g.T.Read.remaining l.reading.reader) (stream_of l.batch);
  noted : l.reading.calls ≡ read_more (stream_of l.batch) l.initial.reading.calls;
  schema : l.batch.schema ≡ l.initial.batch.schema;
  goes_on : l.batch.stopped ≡ None;
  sound : NothingFailed l.system;
}

abbrev pub decreases-reads : goal.decreases-reads
decreases-reads g l = most_reads - l.system.reads
