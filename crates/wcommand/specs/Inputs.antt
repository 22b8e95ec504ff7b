-- The files that a choice works on.
use Rattle.std.specs.Prelude.{Bool, true, false, Option, Some, None}
use Rattle.std.specs.Borrow.{Bor}
use Rattle.clap.specs.Words.{Text}
use Rattle.wcommand.specs.declared.choice.Choice.{Choice}
use Rattle.wcommand.specs.declared.choice.Choice.TheVariants as choices
use Rattle.wcommand.specs.declared.choice.Paths.{Paths}

-- the table and the store, but for a session
abbrev pub paths_of : Choice → Option Paths
paths_of choices.Session = None
paths_of (choices.Take paths origin number csv) = Some paths
paths_of (choices.Retire paths origin number) = Some paths
paths_of (choices.Floor paths origin number) = Some paths
paths_of (choices.Join paths other) = Some paths
paths_of (choices.Feed paths stream) = Some paths
paths_of (choices.List paths) = Some paths
paths_of (choices.Ask paths queries) = Some paths
paths_of (choices.Shell paths) = Some paths

-- done in one act on the bytes of its files: any but a session and a shell, which go on for as long as their input does
abbrev pub is_act : Choice → Bool
is_act choices.Session = false
is_act (choices.Shell paths) = false
is_act _ = true

-- the rows that are taken, the store that is joined, or the stream that is fed
abbrev pub input_of : Choice → Option (Bor Text)
input_of (choices.Take paths origin number csv) = Some csv
input_of (choices.Join paths other) = Some other
input_of (choices.Feed paths stream) = Some stream
input_of _ = None
