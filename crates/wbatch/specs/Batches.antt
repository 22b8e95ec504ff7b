-- What a batch stands for.
use Rattle.std.specs.Prelude.{◌≡◌, ℕ, List, [], ◌∷◌, Option, None, Some, Result, Ok, Err, false}
use Rattle.std.specs.List.{AllByRecursion}
use Rattle.wsegment.specs.Declaration.{Declaration}
use Rattle.wset.specs.Items.{Item}
use Rattle.wstream.specs.Inboxes.{Inbox}
use Rattle.wstream.specs.Messages.{IsOpen}
use Rattle.wbatch.specs.Deliveries.{IsReady}
use Rattle.wbatch.specs.Streams.{stream_text}
use Rattle.wbatch.specs.declared.delivery.Delivery.{Delivery}
use Rattle.wbatch.specs.declared.stop.Stop.{Stop}
use Rattle.wbatch.specs.declared.stop.Stop.TheVariants as stops

-- the declaration, the items in order, the bytes behind the messages of these, and why no more come, if none do
pub record Filled : Type 0 where
  pub schema : Declaration
  pub items : List Item
  pub held : List ℕ
  pub stopped : Option Stop

-- the stream that it was filled from
abbrev pub stream_of : Filled → List ℕ
stream_of batch = stream_text batch.items batch.held

-- how a stream may end here: not where it stopped before, for the reason of that, nor inside a message
abbrev pub ended : Option Stop → List ℕ → Result (Unit {0}) Stop
ended (Some reason) held = Err reason
ended None [] = Ok tt
ended None (byte ∷ held) = Err stops.Bad

-- each delivery can be delivered, and where it goes on what is held may become a message
pub record CanBeDelivered (d : Declaration) (deliveries : List Delivery) (inbox : Inbox) (stopped : Option Stop) : Type 0 where
  pub ready : AllByRecursion (IsReady d) deliveries
  pub unfinished : stopped ≡ None → IsOpen inbox.held
  pub good : stopped ≡ None → inbox.is_bad ≡ false
