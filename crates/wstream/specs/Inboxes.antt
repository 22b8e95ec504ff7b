-- What an inbox stands for, what its calls tell, and how its steps lie in its bytes.
use Rattle.std.specs.Prelude.{◌≡◌, ℕ, ◌-◌, ◌+◌, ◌<◌, ◌≤◌, Bool, true, false, List, ◌++◌, take}
use Rattle.std.specs.Prelude.{drop, length, Option, None, Some, Result, Ok, Err, ◌⊎◌}
use Rattle.wset.specs.Items.{Item, SegmentItem, RetirementItem, FloorItem}
use Rattle.wstream.specs.Messages.{IsMessage, IsOpen, IsBad, message_text}
use Rattle.wstream.specs.declared.found.Found.{Found}
use Rattle.wstream.specs.declared.found.Found.TheVariants as founds
use Rattle.wstream.specs.declared.inbox.Step.{Step}
use Rattle.wstream.specs.declared.inbox.Step.TheVariants as steps
use Rattle.wstream.specs.declared.message.Message.{Message}
use Rattle.wstream.specs.declared.message.Message.TheVariants as messages
use Rattle.wstream.specs.declared.message.BadStream.{BadStream}

-- the bytes that were not handed out, and whether the stream was found bad
pub record Pending : Type 0 where
  pub held : List ℕ
  pub is_bad : Bool

-- the item that a message delivers
abbrev pub item_of : Message → Item
item_of (messages.Take name bytes) = SegmentItem name.now bytes.now
item_of (messages.Retire name) = RetirementItem name.now
item_of (messages.RetireTo name) = FloorItem name.now

-- a message stands first, and takes so many bytes
pub record BeginsWith (bytes : List ℕ) (item : Item) (taken : ℕ) : Type 0 where
  pub is : IsMessage item
  pub within : taken ≤ length bytes
  pub bytes_are : bytes ≡ message_text item ++ drop taken bytes

-- the body that ends one byte before the end of what is taken
abbrev pub body_in : List ℕ → ℕ → ℕ → List ℕ
body_in bytes len taken = take len (drop (taken - (len + 1)) bytes)

-- what stands first
abbrev pub Finds : List ℕ → Found → Type 0
Finds bytes founds.Open = IsOpen bytes
Finds bytes founds.Bad = IsBad bytes
Finds bytes (founds.Take name len taken) = BeginsWith bytes (SegmentItem name (body_in bytes len taken)) taken × (len < taken)
Finds bytes (founds.Retire name taken) = BeginsWith bytes (RetirementItem name) taken
Finds bytes (founds.RetireTo name taken) = BeginsWith bytes (FloorItem name) taken

-- the message was taken off
pub record TakesOff (old : Pending) (item : Item) (new : Pending) : Type 0 where
  pub is : IsMessage item
  pub held_is : old.held ≡ message_text item ++ new.held
  pub good : new.is_bad ≡ old.is_bad

-- the bytes between two places
abbrev pub between : List ℕ → ℕ → ℕ → List ℕ
between bytes from to = take (to - from) (drop from bytes)

-- the body of a step lies in the bytes
abbrev pub HasBody : List ℕ → Step → Type 0
HasBody bytes steps.Bad = Unit {0}
HasBody bytes steps.Open = Unit {0}
HasBody bytes (steps.Take name from to) = (from ≤ to) × (to ≤ length bytes)
HasBody bytes (steps.Retire name) = Unit {0}
HasBody bytes (steps.RetireTo name) = Unit {0}

-- what a step hands out
abbrev pub LendsOut : List ℕ → Step → Result (Option Message) BadStream → Type 0
LendsOut bytes steps.Bad (Err fault) = Unit {0}
LendsOut bytes steps.Open (Ok None) = Unit {0}
LendsOut bytes (steps.Take name from to) (Ok (Some message)) = item_of message ≡ SegmentItem name (between bytes from to)
LendsOut bytes (steps.Retire name) (Ok (Some message)) = item_of message ≡ RetirementItem name
LendsOut bytes (steps.RetireTo name) (Ok (Some message)) = item_of message ≡ FloorItem name
LendsOut bytes _ _ = ⊥

abbrev pending : List ℕ → ℕ → Bool → Pending
pending bytes start is_bad = record { held = drop start bytes; is_bad = is_bad }

-- what a step tells
abbrev pub Steps : List ℕ → ℕ → Bool → ℕ → Bool → Step → Type 0
Steps bytes start is_bad new_start new_bad steps.Bad = ((is_bad ≡ true) ⊎ IsBad (drop start bytes)) × (new_start ≡ start) × (new_bad ≡ true)
Steps bytes start is_bad new_start new_bad steps.Open = IsOpen (drop start bytes) × (is_bad ≡ false) × (new_start ≡ start)
    × (new_bad ≡ is_bad)
Steps bytes start is_bad new_start new_bad (steps.Take name from to) =
    (is_bad ≡ false) × TakesOff (pending bytes start is_bad) (SegmentItem name (between bytes from to))
    (pending bytes new_start new_bad) × (from ≤ to) × (to ≤ length bytes)
Steps bytes start is_bad new_start new_bad (steps.Retire name) = (is_bad ≡ false)
    × TakesOff (pending bytes start is_bad) (RetirementItem name) (pending bytes new_start new_bad)
Steps bytes start is_bad new_start new_bad (steps.RetireTo name) = (is_bad ≡ false)
    × TakesOff (pending bytes start is_bad) (FloorItem name) (pending bytes new_start new_bad)

-- the item that a step handed out, none where nothing was whole, and nothing at all where the stream was bad
abbrev pub handed_of : List ℕ → Step → Option (Option Item)
handed_of bytes steps.Bad = None
handed_of bytes steps.Open = Some None
handed_of bytes (steps.Take name from to) = Some (Some (SegmentItem name (between bytes from to)))
handed_of bytes (steps.Retire name) = Some (Some (RetirementItem name))
handed_of bytes (steps.RetireTo name) = Some (Some (FloorItem name))

-- the bytes that were not handed out, whether the stream was found bad, and what was handed out last
pub record Inbox : Type 0 where
  pub held : List ℕ
  pub is_bad : Bool
  pub handed : Option (Option Item)

-- what was handed out is lent so
abbrev pub IsHanded : Option (Option Item) → Result (Option Message) BadStream → Type 0
IsHanded None (Err fault) = Unit {0}
IsHanded (Some None) (Ok None) = Unit {0}
IsHanded (Some (Some item)) (Ok (Some message)) = item_of message ≡ item
IsHanded _ _ = ⊥

-- the next message was taken off, or there is none, or none can come
abbrev pub MovesTo : Inbox → Inbox → Option (Option Item) → Type 0
MovesTo old new None = ((old.is_bad ≡ true) ⊎ IsBad old.held) × (new.held ≡ old.held) × (new.is_bad ≡ true)
MovesTo old new (Some None) = (old.is_bad ≡ false) × IsOpen old.held × (new.held ≡ old.held) × (new.is_bad ≡ false)
MovesTo old new (Some (Some item)) = (old.is_bad ≡ false) × IsMessage item × (old.held ≡ message_text item ++ new.held)
    × (new.is_bad ≡ false)

abbrev pub MovesOn : Inbox → Inbox → Type 0
MovesOn old new = MovesTo old new new.handed
