-- The query that a text spells, or why it spells none.
use Rattle.std.specs.Prelude.{◌≡◌, ◌⊎◌, ℕ, ◌<◌, ◌≤◌, List, length, map}
use Rattle.std.specs.Str.{IsUtf8}
use Rattle.wlexer.specs.Token.{PlacedToken}
use Rattle.wlexer.specs.Lexing.{Lexes, HasFaultAt}
use Rattle.wlexer.specs.declared.fault.LexFault.{LexFault}
use Rattle.wlexer.specs.declared.fault.LexFault.TheVariants as lexing
use Rattle.wquery.specs.QueryTree.{QueryTree}
use Rattle.wtokens.specs.Notation.{Tokens}
use Rattle.wparser.specs.Queries.{Spells}
use Rattle.wexpressions.specs.declared.fault.ParseFault.{ParseFault}
use Rattle.wexpressions.specs.declared.fault.ParseFault.TheVariants as parsing
use Rattle.wplanner.specs.declared.fault.AskFault.{AskFault}
use Rattle.wplanner.specs.declared.fault.AskFault.TheVariants as faults

-- the text is not UTF-8
abbrev pub IsForeign : List ℕ → Type 0
IsForeign text = ¬ (IsUtf8 text)

-- neither its length nor its encoding refuses the text
abbrev pub IsText : List ℕ → Type 0
IsText text = (length text ≤ 65536) × ¬ (IsForeign text)

abbrev pub said : List PlacedToken → Tokens
said tokens = map (λ (t : PlacedToken). t.meaning) tokens

-- the text's tokens spell the query
abbrev pub Reads : List ℕ → QueryTree → Type 0
Reads text query = IsText text × (tokens : List PlacedToken) × Lexes text tokens × Spells query (said tokens)

-- why the text spells no query
abbrev pub IsUnread : List ℕ → AskFault → Type 0
IsUnread text faults.TooLong = 65536 < length text
IsUnread text faults.NotUtf8 = (length text ≤ 65536) × IsForeign text
IsUnread text (faults.At place) = IsText text × HasFaultAt text place
IsUnread text faults.Syntax = IsText text × (tokens : List PlacedToken) × Lexes text tokens
    × ((query : QueryTree) → ¬ (Spells query (said tokens)))
IsUnread text _ = ⊥

-- that, or want of memory
abbrev pub IsRefused : List ℕ → AskFault → Type 0
IsRefused text fault = (fault ≡ faults.NoMemory) ⊎ IsUnread text fault

-- why a text has no tokens, and why tokens are no query
abbrev pub lexical : LexFault → AskFault
lexical lexing.TooLong = faults.TooLong
lexical lexing.NotUtf8 = faults.NotUtf8
lexical (lexing.At place) = faults.At place
lexical lexing.NoMemory = faults.NoMemory

abbrev pub syntactical : ParseFault → AskFault
syntactical parsing.Syntax = faults.Syntax
syntactical parsing.NoMemory = faults.NoMemory
