-- Codes by which rows are told apart.
use Rattle.std.specs.Prelude.{◌≡◌, ℕ, ◌<◌, ◌==◌, List, length, slice_index_or}
use Rattle.std.specs.declared.cmp.Ordering.{Ordering}
use Rattle.wvalues.specs.Meaning.{Meaning}
use Rattle.wframe.specs.Peers.{are_peers}

-- a code for each row, which two rows share just where they agree on all keys
pub record TellApart (cmp : List Meaning → List Meaning → Ordering) (keys : List (List Meaning)) (codes : List ℕ) : Type 0 where
  pub len : length codes ≡ length keys
  pub alike : (i j : ℕ) → i < length keys → j < length keys → (slice_index_or codes i 0 == slice_index_or codes j 0)
      ≡ are_peers cmp keys i j
