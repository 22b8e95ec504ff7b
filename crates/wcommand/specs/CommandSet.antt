-- The command set of the program, as `clap`'s written meaning of a parse sees it ("Simple commands" of that crate's
-- definitions). What building adds (`--help`, `--version`, `help`, a positional's place) is `clap`'s own.
use Rattle.std.specs.Prelude.{true, false, List, [], ◌∷◌, Some, codes}
use Rattle.clap.specs.Words.{App, Rule, Shape, Text, new_rule}
use Rattle.clap.specs.declared.builder.value_parser.ValueParser.TheVariants.{NonEmptyString}
use Rattle.clap.specs.Lexer.{usize_max}
use Rattle.clap.specs.Simple.{new_shape}

-- `--name FILE`, which has to be given, once, and is not empty
abbrev pub option_rule : Text → Rule
option_rule name = record (new_rule name) { long = Some name; value_names = 1; parser = Some NonEmptyString; required = true }

-- a positional, which has to be given
abbrev pub positional_rule : Text → Rule
positional_rule name = record (new_rule name) { required = true }

-- a positional, which has to be given once, and may be given any number of times
abbrev pub repeated_rule : Text → Rule
repeated_rule name = record (positional_rule name) { range = Some (record { start_inclusive = 1; end_inclusive = usize_max }) }

-- a subcommand on a table and a store, with positionals
abbrev pub shape_on_files : Text → List Rule → Shape
shape_on_files name positionals = record (new_shape name) {
  rules = option_rule (codes "table") ∷ option_rule (codes "store") ∷ positionals;
}

-- `session` has neither options nor positionals
abbrev pub session_shape : Shape
session_shape = new_shape (codes "session")

-- `take --table FILE --store FILE ORIGIN NUMBER CSV`
abbrev pub take_shape : Shape
take_shape = shape_on_files (codes "take") (positional_rule (codes "ORIGIN") ∷ positional_rule (codes "NUMBER")
    ∷ positional_rule (codes "CSV") ∷ [])

-- `retire --table FILE --store FILE ORIGIN NUMBER`
abbrev pub retire_shape : Shape
retire_shape = shape_on_files (codes "retire") (positional_rule (codes "ORIGIN") ∷ positional_rule (codes "NUMBER") ∷ [])

-- `floor --table FILE --store FILE ORIGIN NUMBER`
abbrev pub floor_shape : Shape
floor_shape = shape_on_files (codes "floor") (positional_rule (codes "ORIGIN") ∷ positional_rule (codes "NUMBER") ∷ [])

-- `join --table FILE --store FILE OTHER`
abbrev pub join_shape : Shape
join_shape = shape_on_files (codes "join") (positional_rule (codes "OTHER") ∷ [])

-- `feed --table FILE --store FILE STREAM`
abbrev pub feed_shape : Shape
feed_shape = shape_on_files (codes "feed") (positional_rule (codes "STREAM") ∷ [])

-- `list --table FILE --store FILE`
abbrev pub list_shape : Shape
list_shape = shape_on_files (codes "list") []

-- `ask --table FILE --store FILE QUERY..`
abbrev pub ask_shape : Shape
ask_shape = shape_on_files (codes "ask") (repeated_rule (codes "QUERY") ∷ [])

-- `shell --table FILE --store FILE`
abbrev pub shell_shape : Shape
shell_shape = shape_on_files (codes "shell") []

-- the program without its subcommands and its version: its words are those behind its name
abbrev pub unversioned_app : App
unversioned_app = record {
  top = record (new_shape (codes "wstore")) { no_binary_name = true };
  subs = [];
}

-- the program without its subcommands: it and they have a version
abbrev pub program_app : App
program_app = record unversioned_app { top = record unversioned_app.top { has_version = true; propagate_version = true } }

-- the subcommands, in the order of the help
abbrev pub subcommands : List Shape
subcommands = session_shape ∷ take_shape ∷ retire_shape ∷ floor_shape ∷ join_shape ∷ feed_shape ∷ list_shape ∷ ask_shape ∷ shell_shape ∷ []

-- the program with its subcommands
abbrev pub command_set : App
command_set = record { top = record program_app.top { is_leaf = false }; subs = subcommands }
