use Rattle.std.proofs.Common.{◌≡◌, false, length, map}
use Rattle.std.specs.List.{AllByRecursion}
use Rattle.wbatch.specs.Deliveries.{IsReady, item_of}
use Rattle.wbatch.specs.Streams.{stream_text}
use Rattle.wbatch.proofs.batch.add_whole.Given as goal

abbrev pub invariant-messages : goal.invariant-messages
invariant-messages l = record {
  ready : AllByRecursion (IsReady l.schema) l.deliveries.items;
  same : stream_text (map item_of l.deliveries.items) l.inbox.held ≡ stream_text (map item_of l.initial.deliveries.items)
      l.initial.inbox.held;
  good : l.inbox.is_bad ≡ false;
}

abbrev pub decreases-messages : goal.decreases-messages
decreases-messages l = length l.inbox.held
