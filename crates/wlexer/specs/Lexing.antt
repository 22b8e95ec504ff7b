-- The tokens of a text, and the place of its first fault.
use Rattle.std.specs.Prelude.{◌≡◌, ◌==◌, ℕ, ◌+◌, ◌<◌, List, [], ◌∷◌, length, true, false, ◌&&◌}
use Rattle.wlexer.specs.declared.bytes.Stretch.TheVariants as stretches
use Rattle.wlexer.specs.Bytes.{dash, is_blank}
use Rattle.wlexer.specs.Spelling.{behind, IsStuck, Spelled}
use Rattle.wlexer.specs.Token.{PlacedToken}

-- the most bytes of a text
abbrev pub longest_text : ℕ
longest_text = 65536

-- neither a blank nor a comment begins here
abbrev pub IsBare : List ℕ → Type 0
IsBare [] = Unit {0}
IsBare (a ∷ []) = is_blank a ≡ false
IsBare (a ∷ b ∷ rest) = (is_blank a ≡ false) × ((a == dash && b == dash) ≡ false)

-- `Separates text rest`: blanks and comments, and then a rest that begins with neither (ISO/IEC 9075-2, <separator>)
pub data Separates : List ℕ → List ℕ → Type 0 where
  nothing : {rest : List ℕ} → IsBare rest → Separates rest rest
  blank : {b : ℕ} {text rest : List ℕ} → is_blank b ≡ true → Separates text rest → Separates (b ∷ text) rest
  comment : {text rest : List ℕ} → Separates (behind stretches.Comment text) rest → Separates (dash ∷ dash ∷ text) rest

-- `LexesFirst size text tokens rest`: at the front of what is left of a text of this size stand these tokens, each with
-- its place, and then a rest that begins with neither a blank nor a comment
pub data LexesFirst : ℕ → List ℕ → List PlacedToken → List ℕ → Type 0 where
  no_token : {size : ℕ} {text rest : List ℕ} →
      Separates text rest →
      LexesFirst size text [] rest
  next_token : {size : ℕ} {text here after rest : List ℕ} {token : PlacedToken} {tokens : List PlacedToken} →
      Separates text here →
      Spelled here token.meaning after →
      token.from + length here ≡ size →
      token.to + length after ≡ size →
      LexesFirst size after tokens rest →
      LexesFirst size text (token ∷ tokens) rest

-- the tokens of a whole text
abbrev pub Lexes : List ℕ → List PlacedToken → Type 0
Lexes text tokens = LexesFirst (length text) text tokens []

-- behind the tokens before this place something stands that begins no token
pub record HasFaultAt (text : List ℕ) (place : ℕ) : Type 0 where
  pub tokens : List PlacedToken
  pub rest : List ℕ
  pub before : LexesFirst (length text) text tokens rest
  pub here : place + length rest ≡ length text
  pub left : 0 < length rest
  pub stuck : IsStuck rest
