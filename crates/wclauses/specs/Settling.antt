-- On the way through the tokens: the pairs so far, of which some are still open, and those that they come to.
use Rattle.std.specs.Prelude.{◌≡◌, ℕ, zero, suc, ◌<◌, List, [], ◌∷◌, ◌++◌, length, set, Option, Some, None}
use Rattle.wclauses.specs.declared.pairs.Opened.{Opened}
use Rattle.wclauses.specs.declared.pairs.Pair.{Pair}
use Rattle.wclauses.specs.declared.pairs.Sign.{Sign}
use Rattle.wclauses.specs.Pairs.{closing, pairs_from}
use Rattle.wclauses.specs.Tokens.{next}

-- a comma is passed in the innermost of the pairs that are open
abbrev pub parted : List Opened → List Opened
parted [] = []
parted (inner ∷ outer) = record inner { commas = next inner.commas } ∷ outer

-- the pairs, where one of them is closed
abbrev pub filled : ℕ → Option Pair → List Pair → List Pair
filled opener None pairs = pairs
filled opener (Some pair) pairs = set pairs opener pair

-- the innermost of the pairs that are open is closed
abbrev pub closed : List Opened → ℕ → List Pair → List Pair
closed [] number pairs = pairs
closed (inner ∷ outer) number pairs = set pairs inner.open (record { close = number; commas = inner.commas })

abbrev pub outside : List Opened → List Opened
outside [] = []
outside (inner ∷ outer) = outer

-- the pairs, where those that are open, the innermost first, are closed by what is left
abbrev pub fills : List Opened → ℕ → ℕ → List Sign → List Pair → List Pair
fills [] within number rest pairs = pairs
fills (inner ∷ outer) within number rest pairs =
    fills outer (suc within) number rest (filled inner.open (closing rest within inner.commas number) pairs)

-- the pairs that the tokens come to in the end
abbrev pub settled : List Pair → List Opened → ℕ → List Sign → List Pair
settled pairs opened number rest = fills opened zero number rest (pairs ++ pairs_from number rest)

-- each of these is open before the token of this number
abbrev pub AreBefore : ℕ → List Opened → Type 0
AreBefore number [] = Unit {0}
AreBefore number (inner ∷ outer) = (inner.open < number) × AreBefore number outer

-- so far there is a pair for each token before the one of this number
abbrev pub Stands : ℕ → List Pair → List Opened → Type 0
Stands number pairs opened = (length pairs ≡ number) × AreBefore number opened
