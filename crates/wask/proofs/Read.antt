-- What a node establishes as it reads a text.
use Rattle.std.proofs.Common.{◌≡◌, ◌≢◌, ◌↔◌, inl, inr, map, [], ◌∷◌, ℕ, ◌<◌, ◌≤◌, List}
use Rattle.std.proofs.Common.{length, Result, Ok, Err, refl, sym, ap, subst, ◌∙◌, arith}
use Rattle.wlexer.specs.Token.{placed, meaning_of}
use Rattle.wlexer.specs.declared.token.Token.{Token}
use Rattle.wlexer.specs.declared.fault.LexFault.{LexFault}
use Rattle.wlexer.specs.declared.fault.LexFault.TheVariants as lexing
use Rattle.wlexer.specs.Lexing.{Lexes}
use Rattle.wquery.specs.QueryTree.{QueryTree}
use Rattle.wparser.specs.Queries.{Spells}
use Rattle.wtokens.specs.Notation.{meanings}
use Rattle.wexpressions.specs.declared.fault.ParseFault.{ParseFault}
use Rattle.wexpressions.specs.declared.fault.ParseFault.TheVariants as parsing
use Rattle.wask.specs.Texts.{IsForeign, IsRefused, IsText, Reads, lexical, said, syntactical}
use Rattle.wplanner.specs.declared.fault.AskFault.TheVariants as faults

-- bytes that are neither too long nor no UTF-8 are a text
text_by : {A : Type 0} (r : Result A LexFault) (text : List ℕ) → (r ≡ Err lexing.TooLong) ↔ (65536 < length text)
    → (r ≡ Err lexing.NotUtf8) ↔ ((length text ≤ 65536) × IsForeign text) → r ≢ Err lexing.TooLong → r ≢ Err lexing.NotUtf8
    → IsText text
text_by r text long foreign not_long not_foreign = (short, λ f. not_foreign (foreign.1 (short, f)))
  where
    short : length text ≤ 65536
    short = let no : ¬ (65536 < length text) = λ h. not_long (long.1 h) in omega (arith, no)

-- a text that was lexed is one
pub lexed_text : {A : Type 0} (x : A) (text : List ℕ) → (Ok x ≡ Err lexing.TooLong) ↔ (65536 < length text)
    → (Ok x ≡ Err lexing.NotUtf8) ↔ ((length text ≤ 65536) × IsForeign text) → IsText text
lexed_text x text long foreign = text_by (Ok x) text long foreign (λ e. cc) (λ e. cc)

-- and so are bytes for which memory was wanting
pub text_lacking : {A : Type 0} (fault : LexFault) (r : Result A LexFault) (text : List ℕ) → r ≡ Err fault
    → (r ≡ Err lexing.TooLong) ↔ (65536 < length text)
    → (r ≡ Err lexing.NotUtf8) ↔ ((length text ≤ 65536) × IsForeign text) → lexical fault ≡ faults.NoMemory → IsText text
text_lacking fault r text is long foreign lacks = text_by r text long foreign (λ e. other (sym e)) (λ e. no (sym e))
  where
    not_memory : (x : LexFault) → lexical x ≡ faults.NoMemory → x ≡ lexing.NoMemory
    not_memory lexing.NoMemory h = refl
    not_memory lexing.TooLong h = absurd (cc)
    not_memory lexing.NotUtf8 h = absurd (cc)
    not_memory (lexing.At place) h = absurd (cc)

    lacking : r ≡ Err lexing.NoMemory
    lacking = is ∙ ap Err (not_memory fault lacks)

    other : Err lexing.TooLong ≢ r
    other e = let both : Err lexing.TooLong ≡ Err lexing.NoMemory = e ∙ lacking in cc

    no : Err lexing.NotUtf8 ≢ r
    no e = let both : Err lexing.NotUtf8 ≡ Err lexing.NoMemory = e ∙ lacking in cc

said_placed : (tokens : List Token) → said (map placed tokens) ≡ meanings tokens
said_placed [] = refl
said_placed (t ∷ ts) = ap (λ l. meaning_of t ∷ l) (said_placed ts)

pub read_by : (text : List ℕ) (q : QueryTree) (tokens : List Token) → IsText text → Lexes text (map placed tokens)
    → Spells q (meanings tokens) → Reads text q
read_by text q tokens is_text lexes s = (is_text, map placed tokens, lexes, subst (λ t. Spells q t) (sym (said_placed tokens)) s)

pub unparsed : (text : List ℕ) (tokens : List Token) (f : ParseFault) → IsText text → Lexes text (map placed tokens)
    → (f ≡ parsing.Syntax → (q : QueryTree) → ¬ (Spells q (meanings tokens))) → IsRefused text (syntactical f)
unparsed text tokens parsing.Syntax is_text lexes none =
    inr (is_text, map placed tokens, lexes, λ q s. none refl q (subst (λ t. Spells q t) (said_placed tokens) s))
unparsed text tokens parsing.NoMemory is_text lexes none = inl refl
