-- The laws of subcommands.
use Rattle.std.specs.Prelude.{◌≡◌, ◌⊎◌, ⊤, ℕ, List, ◌++◌, Option, Some, None, Ok, ◌<◌, ◌↔◌, length, option_map}
use Rattle.wsegment.specs.Declaration.{Declaration}
use Rattle.wsegment.specs.Spelling.{ReadsDeclaration}
use Rattle.wset.specs.Views.{View}
use Rattle.wreplies.specs.Texts.{bytes_of}
use Rattle.wcommand.specs.declared.choice.Paths.{Paths}
use Rattle.wcommand.specs.declared.choice.Choice.{Choice}
use Rattle.wcommand.specs.declared.choice.Choice.TheVariants as choices
use Rattle.wact.specs.declared.acted.Acted.{Acted}
use Rattle.wact.specs.Acts.{Acts, Knows}
use Rattle.wact.specs.Opening.{Opens}
use Rattle.wact.specs.declared.opening.Opened.{Opened}

-- a segment is taken
abbrev pub IsTake : Choice → Type 0
IsTake (choices.Take paths origin number csv) = ⊤
IsTake _ = ⊥

-- of CSV with more bytes than a segment may have the first, more than so many, tell all: it is refused alike, whatever follows them
abbrev pub LongIsRefusedAlike : Type 0
LongIsRefusedAlike = (choice : Choice) (table : List ℕ) (store : Option (List ℕ)) (front rest : List ℕ) (acted : Acted) → IsTake choice
    → 67108864 < length front → Acts choice table store front acted ↔ Acts choice table store (front ++ rest) acted

-- of a table with more bytes than a declaration may have the first ones, where they are more than so many, tell all: it is refused
-- alike, whatever follows them, by each subcommand and where a store is opened
abbrev pub LongTableIsRefusedAlike : Type 0
LongTableIsRefusedAlike = (front rest : List ℕ) (store : Option (List ℕ)) → 65536 < length front
    → ((choice : Choice) (other : List ℕ) (acted : Acted) → Acts choice front store other acted
    ↔ Acts choice (front ++ rest) store other acted)
    × ((opened : Opened) → Opens front store opened ↔ Opens (front ++ rest) store opened)

-- the same subcommand, whose table and store stand under these paths
abbrev pub placed : Paths → Choice → Choice
placed paths choices.Session = choices.Session
placed paths (choices.Take own origin number csv) = choices.Take paths origin number csv
placed paths (choices.Retire own origin number) = choices.Retire paths origin number
placed paths (choices.Floor own origin number) = choices.Floor paths origin number
placed paths (choices.Join own other) = choices.Join paths other
placed paths (choices.Feed own stream) = choices.Feed paths stream
placed paths (choices.List own) = choices.List paths
placed paths (choices.Ask own queries) = choices.Ask paths queries
placed paths (choices.Shell own) = choices.Shell paths

-- what a store has once a subcommand is done
abbrev pub kept_or_new : Option (List ℕ) → Option (List ℕ) → Option (List ℕ)
kept_or_new old None = old
kept_or_new old (Some new) = Some new

abbrev pub store_after : Option (List ℕ) → Acted → Option (List ℕ)
store_after old acted = kept_or_new old (option_map (λ store. store.items) acted.store)

-- two stores were told the same, with the same status, and have the same bytes from then on, or neither has others than before
pub record ActAlike (s t : Option (List ℕ)) (a b : Acted) : Type 0 where
  pub text : bytes_of a.output ≡ bytes_of b.output
  pub status : a.status ≡ b.status
  pub stores : (store_after s a ≡ store_after t b) ⊎ ((store_after s a ≡ s) × (store_after t b ≡ t))

-- under one declaration two stores of one view act alike, wherever they stand and whatever bytes they have: a subcommand that is given
-- the same prints the same
abbrev pub StoresActAlike : Type 0
StoresActAlike = (choice : Choice) (p q : Paths) (d : Declaration) (v : View) (table other : List ℕ) (s t : Option (List ℕ))
    (a b : Acted) → ReadsDeclaration table (Ok d) → Knows d s v → Knows d t v → Acts (placed p choice) table s other a
    → Acts (placed q choice) table t other b → ActAlike s t a b
