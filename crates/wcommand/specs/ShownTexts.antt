-- How a text is shown whose words a terminal might obey.
use Rattle.std.specs.Prelude.{◌≡◌, ◌==◌, ◌&&◌, ℕ, List, not, map, cond, chars, encode_utf8_all}
use Rattle.std.specs.Char.{is_control}

-- U+FFFD stands for a control character, but for a line feed
abbrev pub shown : ℕ → ℕ
shown c = cond (is_control c && not (c == 10)) 0xFFFD c

-- the bytes are those of a text as it is shown
pub record IsShownText (bytes : List ℕ) : Type 0 where
  pub text : List ℕ
  pub is : bytes ≡ encode_utf8_all (map shown (chars text))
