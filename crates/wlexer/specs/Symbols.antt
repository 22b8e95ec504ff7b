-- Symbols (ISO/IEC 9075-2, <delimiter token>).
use Rattle.std.specs.Prelude.{ℕ, List, [], ◌∷◌, Option, Some, None, ◌≡◌, codes, if◌then◌else◌}
use Rattle.std.specs.Str.{bytes_eq}
use Rattle.wlexer.specs.declared.token.Symbol.{Symbol}
use Rattle.wlexer.specs.declared.token.Symbol.TheVariants as symbols

-- the symbol of two bytes: `<=`, `<>`, `>=`, and `!=` for `<>`
abbrev pub symbol_of_two : ℕ → ℕ → Option Symbol
symbol_of_two a b =
    if bytes_eq (a ∷ b ∷ []) (codes "<=") then Some symbols.LessOrEqual
    else (if bytes_eq (a ∷ b ∷ []) (codes "<>") then Some symbols.NotEqual
    else (if bytes_eq (a ∷ b ∷ []) (codes ">=") then Some symbols.GreaterOrEqual
    else (if bytes_eq (a ∷ b ∷ []) (codes "!=") then Some symbols.NotEqual
    else None)))

-- the symbol of one byte: `( ) , . ; + - * = < >`
abbrev pub symbol_of_one : ℕ → Option Symbol
symbol_of_one a =
    if bytes_eq (a ∷ []) (codes "(") then Some symbols.OpenParenthesis
    else (if bytes_eq (a ∷ []) (codes ")") then Some symbols.CloseParenthesis
    else (if bytes_eq (a ∷ []) (codes ",") then Some symbols.Comma
    else (if bytes_eq (a ∷ []) (codes ".") then Some symbols.Dot
    else (if bytes_eq (a ∷ []) (codes ";") then Some symbols.Semicolon
    else (if bytes_eq (a ∷ []) (codes "+") then Some symbols.Plus
    else (if bytes_eq (a ∷ []) (codes "-") then Some symbols.Minus
    else (if bytes_eq (a ∷ []) (codes "*") then Some symbols.Asterisk
    else (if bytes_eq (a ∷ []) (codes "=") then Some symbols.Equal
    else (if bytes_eq (a ∷ []) (codes "<") then Some symbols.Less
    else (if bytes_eq (a ∷ []) (codes ">") then Some symbols.Greater
    else None))))))))))

-- a byte and the next one are no symbol of two bytes
abbrev pub IsNoPair : ℕ → List ℕ → Type 0
IsNoPair a [] = Unit {0}
IsNoPair a (b ∷ rest) = symbol_of_two a b ≡ None
