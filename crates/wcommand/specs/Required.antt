-- What a subcommand has to have: where nothing is wrong with the words, each option and positional has its value.
use Rattle.std.specs.Prelude.{◌≡◌, ⊤, Bool, true, Option, Some, None, is_some, IsSomeAnd, List, map, find}
use Rattle.std.specs.List.{list_all}
use Rattle.std.specs.Option.{option_map}
use Rattle.std.specs.Str.{bytes_eq}
use Rattle.clap.specs.Words.{Row, Text, first_of}
use Rattle.wcommand.specs.CommandSet.{subcommands}

-- the options and positionals that the subcommand of this name has to have
abbrev pub required_names : Text → Option (List Text)
required_names name = option_map (λ s. map (λ a. a.id) s.rules) (find (λ s. bytes_eq s.name name) subcommands)

-- each of these names has a value
abbrev pub have_values : List Row → List Text → Bool
have_values rows names = list_all (λ name. is_some (first_of name rows)) names

-- the subcommand has all that it has to have
abbrev pub IsWhole : Option (Text × List Row) → Type 0
IsWhole None = ⊤
IsWhole (Some entered) = IsSomeAnd (required_names entered.0) (λ names. have_values entered.1 names ≡ true)
