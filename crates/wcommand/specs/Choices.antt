-- What words choose: a subcommand with the values of its options and positionals, or help, or a refusal.
use Rattle.std.specs.Prelude.{◌≡◌, ◌≢◌, ◌⊎◌, ⊤, Option, Some, None, List, [], Result, Ok, Err, codes, map, string_bytes}
use Rattle.clap.specs.Words.{IsAmong, Row, Text, all_of, fault_of, first_of, subcommand_of}
use Rattle.clap.specs.declared.error.ErrorKind.{ErrorKind}
use Rattle.clap.specs.declared.error.ErrorKind.TheVariants as kinds
use Rattle.wcommand.specs.CommandSet.{command_set}
use Rattle.wcommand.specs.ShownTexts.{IsShownText}
use Rattle.wcommand.specs.declared.choice.Choice.{Choice}
use Rattle.wcommand.specs.declared.choice.Choice.TheVariants as choices
use Rattle.wcommand.specs.declared.choice.Paths.{Paths}
use Rattle.wcommand.specs.declared.fault.WordsFault.{WordsFault}
use Rattle.wcommand.specs.declared.fault.WordsFault.TheVariants as faults

-- the option or positional of this name has this value
abbrev pub HasValue : List Row → Text → Text → Type 0
HasValue rows name value = first_of name rows ≡ Some value

-- the positional of this name has these values, in this order
abbrev pub HasValues : List Row → Text → List Text → Type 0
HasValues rows name values = all_of name rows ≡ Some values

-- the table is the value of `--table`, the store that of `--store`
abbrev pub HasPaths : List Row → Paths → Type 0
HasPaths rows paths = HasValue rows (codes "table") paths.table.now × HasValue rows (codes "store") paths.store.now

-- the choice is the subcommand of this name, and each of its values is that of the option or positional of its name
abbrev pub IsChoiceIn : Text → List Row → Choice → Type 0
IsChoiceIn name rows choices.Session = name ≡ codes "session"
IsChoiceIn name rows (choices.Take paths origin number csv) = (name ≡ codes "take") × HasPaths rows paths
    × HasValue rows (codes "ORIGIN") origin.now × HasValue rows (codes "NUMBER") number.now × HasValue rows (codes "CSV") csv.now
IsChoiceIn name rows (choices.Retire paths origin number) = (name ≡ codes "retire") × HasPaths rows paths
    × HasValue rows (codes "ORIGIN") origin.now × HasValue rows (codes "NUMBER") number.now
IsChoiceIn name rows (choices.Floor paths origin number) = (name ≡ codes "floor") × HasPaths rows paths
    × HasValue rows (codes "ORIGIN") origin.now × HasValue rows (codes "NUMBER") number.now
IsChoiceIn name rows (choices.Join paths other) = (name ≡ codes "join") × HasPaths rows paths × HasValue rows (codes "OTHER") other.now
IsChoiceIn name rows (choices.Feed paths stream) = (name ≡ codes "feed") × HasPaths rows paths × HasValue rows (codes "STREAM") stream.now
IsChoiceIn name rows (choices.List paths) = (name ≡ codes "list") × HasPaths rows paths
IsChoiceIn name rows (choices.Ask paths queries) = (name ≡ codes "ask") × HasPaths rows paths
    × HasValues rows (codes "QUERY") (map (λ query. query.now) queries.items)
IsChoiceIn name rows (choices.Shell paths) = (name ≡ codes "shell") × HasPaths rows paths

-- where no subcommand stands the choice is the session
abbrev pub IsChoice : Option (Text × List Row) → Choice → Type 0
IsChoice None choices.Session = ⊤
IsChoice None _ = ⊥
IsChoice (Some entered) choice = IsChoiceIn entered.0 entered.1 choice

-- help or the version was asked for
abbrev pub IsShown : ErrorKind → Type 0
IsShown kind = (kind ≡ kinds.DisplayHelp) ⊎ (kind ≡ kinds.DisplayVersion)

-- an error of this kind may be told so: help as help, any other kind but want of memory as a refusal, in a text without
-- characters that a terminal would obey
abbrev pub IsFaultFor : ErrorKind → WordsFault → Type 0
IsFaultFor kind faults.NoMemory = ⊤
IsFaultFor kind (faults.Help text) = IsShown kind
IsFaultFor kind (faults.Refused text) = (kind ≢ kinds.OutOfMemory) × ¬ (IsShown kind) × IsShownText (string_bytes text)

-- what words choose: where nothing is wrong with them, the subcommand that they enter; else something is told that is
-- wrong with them, or that they ask for
abbrev pub Chooses : List Text → Result Choice WordsFault → Type 0
Chooses words (Ok choice) = (fault_of command_set words ≡ []) × IsChoice (subcommand_of command_set words) choice
Chooses words (Err fault) = (fault ≡ faults.NoMemory)
    ⊎ ((kind : ErrorKind) × IsAmong kind (fault_of command_set words) × IsFaultFor kind fault)
