-- A stream that is read, and refused.
use Rattle.std.specs.Prelude.{◌≡◌, ℕ, List, ◌∷◌, Option, Some}
use Rattle.std.specs.Io.KnownBytes.{Consumes, IsAtEnd}
use Rattle.wsegment.specs.Declaration.{Declaration}
use Rattle.wbatch.specs.Streams.{IsUndelivered, Stops}
use Rattle.wbatch.specs.declared.stop.Stop.{Stop}
use Rattle.wfolder.specs.Call.{Call, Began, Found}
use Rattle.wfiles.specs.Reading.{read_more, read_to_end}

-- the stream under a path is not delivered for this reason: by the first bytes of it, which are all that was read, whatever follows
-- them; or by all of it
pub data IsRefusedStream (d : Declaration) (path : List ℕ) (old new : List Call) (reason : Stop) : Type 0 where
  ByFront : (front : List ℕ) → Stops d front reason → new ≡ Began path front ∷ old → IsRefusedStream d path old new reason
  ByAll : (stream : List ℕ) → IsUndelivered d stream reason → new ≡ Found path (Some stream) ∷ old → IsRefusedStream d path old new reason

-- what a reader gave is not delivered for this reason: some of what it had left, or all of it
pub data RefusesRead (d : Declaration) (left new_left : Option (List ℕ)) (old new : List Call) (reason : Stop) : Type 0 where
  InFront : (front : List ℕ) → Consumes left new_left front → Stops d front reason → new ≡ read_more front old
      → RefusesRead d left new_left old new reason
  AtEnd : (stream : List ℕ) → Consumes left new_left stream → IsAtEnd new_left → IsUndelivered d stream reason
      → new ≡ read_to_end (read_more stream old) → RefusesRead d left new_left old new reason
