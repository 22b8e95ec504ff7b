use Rattle.std.proofs.Common.{rules, ◌≡◌, ◌∷◌, Some}
use Rattle.wbatch.specs.Batches.{stream_of}
use Rattle.wfolder.specs.Call.{Found}
use Rattle.wstore_program.specs.Feeding.{IsRefusedStream}
use Rattle.wstore_program.specs.Performing.{Unready}
use Rattle.wstore_program.proofs.Performed.{fed_whole, undone_at_once}
use Rattle.wstore_program.proofs.Streamed.{told_refused}
use Rattle.wstore_program.proofs.acting.feed_from.Goals as goal

pub returns-in-Err-clause-ended : goal.returns-in-Err-clause-ended
returns-in-Err-clause-ended g c = undone_at_once _ _ _ _ _ _ _ c.requires.stream.1

pub returns-in-Err-fill_from-clause-ended : goal.returns-in-Err-fill_from-clause-ended
returns-in-Err-fill_from-clause-ended g c = Unready (c.args.stream.now, c.requires.stream.1, c.in-Err-fill_from.ensures.begun)

pub returns-in-Ok-Some-clause-ended : goal.returns-in-Ok-Some-clause-ended
returns-in-Ok-Some-clause-ended g c =
    let same : c.new-batch.result.schema ≡ c.args.node.schema = search rules in
    let why : IsRefusedStream c.new-batch.result.schema c.args.stream.now c.args.calls.now.calls c.fill_from.new.calls.calls
    c.in-Ok-Some.reason =
    rw c.in-Ok-Some.field-0-is at c.in-Ok-Some.ensures.refused in
    told_refused _ _ _ _ c.args.node _ _ c.in-Ok-Some.reason c.refuse_stream.result _ _ c.requires.stream c.requires.feeds.2 same why
    c.refuse_stream.ensures.told c.refuse_stream.ensures.kind

pub returns-in-Ok-None-clause-ended : goal.returns-in-Ok-None-clause-ended
returns-in-Ok-None-clause-ended g c =
    let found : c.fill_from.new.calls.calls ≡ Found c.args.stream.now (Some (stream_of c.fill_from.new.batch))
    ∷ c.args.calls.now.calls = search rules in
    fed_whole _ _ _ _ _ _ _ _ _ c.deliver.result c.requires.stream.1 found c.deliver.ensures.finished
