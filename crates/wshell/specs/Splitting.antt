-- The queries of an input.
use Rattle.std.specs.Prelude.{◌≡◌, ◌≢◌, ◌==◌, ◌||◌, ℕ, Bool, true, false, List, [], ◌∷◌, ◌++◌, fold, if◌then◌else◌}
use Rattle.std.specs.List.{flat_map, AllByRecursion}
use Rattle.wlexer.specs.Bytes.{apostrophe, dash, double_quote, ends_line}
use Rattle.wshell.specs.declared.mode.Mode.{Mode}
use Rattle.wshell.specs.declared.mode.Mode.TheVariants as modes

-- `;`
abbrev pub semicolon : ℕ
semicolon = 59

-- outside, behind a byte that is no `-`: a quote opens a name or a text
abbrev pub outside : ℕ → Mode
outside b = if b == apostrophe || b == double_quote then modes.Quotes b else modes.Outside

-- one byte more: a quote of the same kind closes, and a quote written twice closes and opens again; `--` begins a comment,
-- which LF or CR ends
abbrev pub step : Mode → ℕ → Mode
step modes.Outside b = if b == dash then modes.Dash else outside b
step modes.Dash b = if b == dash then modes.Comment else outside b
step (modes.Quotes quote) b = if b == quote then modes.Outside else modes.Quotes quote
step modes.Comment b = if ends_line b then modes.Outside else modes.Comment

-- how a text stands at its end
abbrev pub mode_of : List ℕ → Mode
mode_of text = fold step modes.Outside text

-- neither within quotes nor within a comment
abbrev pub may_end : Mode → Bool
may_end modes.Outside = true
may_end modes.Dash = true
may_end _ = false

-- behind a text that stands so the byte ends the query
abbrev pub EndsAt : Mode → ℕ → Type 0
EndsAt mode b = (b ≡ semicolon) × (may_end mode ≡ true)

-- no query ends in it
abbrev pub EndsNowhere : List ℕ → Type 0
EndsNowhere text = (front more : List ℕ) → may_end (mode_of front) ≡ true → text ≢ front ++ (semicolon ∷ more)

-- the semicolon that ends a query stands right behind it
abbrev pub IsEnded : List ℕ → Type 0
IsEnded query = (may_end (mode_of query) ≡ true) × EndsNowhere query

-- a query with the semicolon that ends it
abbrev pub ended : List ℕ → List ℕ
ended query = query ++ semicolon ∷ []

-- the queries of an input, each up to its semicolon, and what stands behind the last of these
pub record Splits (input : List ℕ) (queries : List (List ℕ)) (rest : List ℕ) : Type 0 where
  pub whole : input ≡ flat_map ended queries ++ rest
  pub each : AllByRecursion IsEnded queries
  pub unended : EndsNowhere rest
