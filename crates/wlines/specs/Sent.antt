-- What a writer holds and what waits behind it, and what a source holds.
use Rattle.std.specs.Prelude.{◌≡◌, ℕ, Bool, List, [], ◌++◌, Option, refl}
use Rattle.std.specs.Io.KnownBytes.{Appends}
use Rattle.std.specs.Coded.{Coded, code_by, coded×, coded_bool, coded_ℕ, coded_list}
use Rattle.wvalues.specs.Counts.{Counts}

-- the bytes that were read and not yet handed out, and how many bytes of the last read were handed out
pub record Block : Type 0 where
  pub held : List ℕ
  pub taken : ℕ

abbrev pub handed : List ℕ → ℕ → Block
handed held taken = record { held = held; taken = taken }

abbrev pub coded_block : Coded Block
coded_block = code_by (List ℕ × ℕ) (coded× (coded_list coded_ℕ) coded_ℕ) (λ b. (b.held, b.taken)) (λ p. record {
  held = p.0;
  taken = p.1;
}) (λ _. refl)

-- nothing is held of a read of which no byte was handed out: so the last read was asked for because its first byte was needed
abbrev pub IsUsed : Block → Type 0
IsUsed block = block.taken ≡ 0 → block.held ≡ []

-- the replies that wait to be written, and whether the line that was read last is answered
pub record Waiting : Type 0 where
  pub bytes : List ℕ
  pub is_answered : Bool

abbrev pub waiting : List ℕ → Bool → Waiting
waiting bytes is_answered = record { bytes = bytes; is_answered = is_answered }

abbrev pub coded_waiting : Coded Waiting
coded_waiting = code_by (List ℕ × Bool) (coded× (coded_list coded_ℕ) coded_bool) (λ w. (w.bytes, w.is_answered))
    (λ p. record { bytes = p.0; is_answered = p.1 }) (λ _. refl)

-- the bytes that a writer holds, where these are known, and those that wait to be written behind them
pub record Sent : Type 0 where
  pub contents : Option (List ℕ)
  pub waiting : List ℕ

abbrev pub sent : {W : Type 0} → (W → Option (List ℕ)) → Waiting → Counts W → Sent
sent contents outbox output = record { contents = contents output.inner; waiting = outbox.bytes }

-- a text was said: a front of what waited and of the text went over to the writer, and the rest of it waits
pub record Says (old new : Sent) (text : List ℕ) : Type 0 where
  pub written : List ℕ
  pub appends : Appends old.contents new.contents written
  pub whole : written ++ new.waiting ≡ old.waiting ++ text
