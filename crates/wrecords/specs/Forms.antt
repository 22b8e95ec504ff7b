-- Header lines of exchange files and of delivery streams, and what stands behind them.
use Rattle.std.specs.Prelude.{◌≡◌, ℕ, Bool, true, ◌||◌, ◌&&◌, nat_le, ◌^◌, ◌<◌, List, ◌∷◌, ◌++◌, length}
use Rattle.std.specs.Char.{is_ascii_digit}
use Rattle.std.specs.List.{list_all}
use Rattle.std.specs.Fmt.{decimal}
use Rattle.wvalues.specs.Names.{NameParts, IsName}
use Rattle.wrecords.specs.declared.form.Form.{Form}
use Rattle.wrecords.specs.declared.form.Form.TheVariants as forms

-- the two words of a name
abbrev pub name_words : NameParts → List ℕ
name_words n = n.origin ++ (32 ∷ decimal n.number)

-- the two words of a name, and then a length
abbrev pub content_words : NameParts → ℕ → List ℕ
content_words n len = n.origin ++ (32 ∷ (decimal n.number ++ (32 ∷ decimal len)))

-- the header line, without its line feed
abbrev pub line_of : Form → List ℕ
line_of (forms.Table len) = 84 ∷ 32 ∷ decimal len
line_of (forms.Content name len) = 83 ∷ 32 ∷ content_words name len
line_of (forms.Dispute name) = 68 ∷ 32 ∷ name_words name
line_of (forms.Retirement name) = 82 ∷ 32 ∷ name_words name
line_of (forms.Floor name) = 85 ∷ 32 ∷ name_words name
line_of (forms.End count) = 69 ∷ 32 ∷ decimal count
line_of (forms.Digest digits) = 72 ∷ 32 ∷ digits

-- a number has 32 bits
pub record IsNumber (n : ℕ) : Type 0 where
  pub fits : n < 2 ^ 32

-- a lower-case hexadecimal digit
abbrev pub is_digest_digit : ℕ → Bool
is_digest_digit b = is_ascii_digit b || (nat_le 97 b && nat_le b 102)

-- 64 such digits
pub record IsDigest (digits : List ℕ) : Type 0 where
  pub length_is : length digits ≡ 64
  pub spelled : list_all is_digest_digit digits ≡ true

-- the names and numbers of a line are such
abbrev pub IsForm : Form → Type 0
IsForm (forms.Table len) = IsNumber len
IsForm (forms.Content name len) = IsName name × IsNumber len
IsForm (forms.Dispute name) = IsName name
IsForm (forms.Retirement name) = IsName name
IsForm (forms.Floor name) = IsName name
IsForm (forms.End count) = IsNumber count
IsForm (forms.Digest digits) = IsDigest digits
