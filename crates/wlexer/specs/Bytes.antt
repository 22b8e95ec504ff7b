-- What bytes are to tokens and to what stands between them.
use Rattle.std.specs.Prelude.{ℕ, Bool, ◌==◌, ◌||◌, not, if◌then◌else◌}
use Rattle.std.specs.Char.{is_ascii_alphabetic, is_ascii_alphanumeric, is_ascii_digit}
use Rattle.wlexer.specs.declared.bytes.Stretch.{Stretch}
use Rattle.wlexer.specs.declared.bytes.Stretch.TheVariants as stretches
use Rattle.wlexer.specs.declared.bytes.TokenKind.{TokenKind}
use Rattle.wlexer.specs.declared.bytes.TokenKind.TheVariants as kinds

-- the bytes of ASCII are below this
abbrev pub ascii_limit : ℕ
ascii_limit = 128

-- `"`
abbrev pub double_quote : ℕ
double_quote = 34

-- `'`
abbrev pub apostrophe : ℕ
apostrophe = 39

-- `-`
abbrev pub dash : ℕ
dash = 45

-- `_`
abbrev pub underscore : ℕ
underscore = 95

-- `.`
abbrev pub point : ℕ
point = 46

abbrev pub line_feed : ℕ
line_feed = 10

abbrev pub carriage_return : ℕ
carriage_return = 13

-- a word begins with a letter or `_`
abbrev pub begins_word : ℕ → Bool
begins_word b = is_ascii_alphabetic b || b == underscore

-- it goes on with letters, digits and `_`
abbrev pub continues_word : ℕ → Bool
continues_word b = is_ascii_alphanumeric b || b == underscore

-- what may not follow a number: a letter, `_` or `.`
abbrev pub spoils_number : ℕ → Bool
spoils_number b = begins_word b || b == point

-- space, tab, LF, CR, form feed
abbrev pub is_blank : ℕ → Bool
is_blank b = b == 32 || b == 9 || b == line_feed || b == carriage_return || b == 12

-- LF or CR, before which a comment ends
abbrev pub ends_line : ℕ → Bool
ends_line b = b == line_feed || b == carriage_return

-- whether a stretch of bytes goes on over this one
abbrev pub continues : Stretch → ℕ → Bool
continues stretches.Word b = continues_word b
continues stretches.Digits b = is_ascii_digit b
continues stretches.Comment b = not (ends_line b)

-- the kind of token that can begin with this byte
abbrev pub kind_of : ℕ → TokenKind
kind_of b =
    if begins_word b then kinds.Word
    else (if is_ascii_digit b then kinds.Number
    else (if b == double_quote then kinds.QuotedName
    else (if b == apostrophe then kinds.Text
    else kinds.Symbol)))
