-- The law of streams.
use Rattle.std.specs.Prelude.{◌≡◌, ◌↔◌, ◌++◌, ℕ, List, ◌∷◌}
use Rattle.wset.specs.Items.{Item}
use Rattle.wstream.specs.Messages.{IsMessage, Splits, message_text}

-- the messages and the rest of a message's text and a stream behind it are that message, and then those of the stream
abbrev pub FirstMessage : Type 0
FirstMessage = (i : Item) (s : List ℕ) (items : List Item) (rest : List ℕ) → IsMessage i →
    Splits (message_text i ++ s) items rest ↔ ((others : List Item) × (items ≡ i ∷ others) × Splits s others rest)
