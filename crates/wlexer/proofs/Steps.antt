-- What each step of the reading says of the tokens.
use Rattle.std.proofs.Common.{◌≡◌, ℕ, zero, suc, ◌+◌, ◌-◌, ◌*◌, ◌<◌, ◌≤◌, ◌^◌, List, [], ◌∷◌, ◌++◌, length, drop, length-drop, get_or}
use Rattle.std.proofs.Common.{map, fold, Bool, true, false, Some, None, refl, sym, ap, subst, ◌∙◌, arith, ⊎_elim, length-append, cond}
use Rattle.std.proofs.lemmas.Bool.Decides.{nat_tests}
use Rattle.std.proofs.lemmas.List.{append-nil}
use Rattle.std.specs.Char.{to_ascii_lowercase}
use Rattle.std.specs.List.{prefix_len}
use Rattle.wlexer.specs.declared.bytes.Stretch.{Stretch}
use Rattle.wlexer.specs.declared.bytes.Stretch.TheVariants as stretches
use Rattle.wlexer.specs.declared.bytes.TokenKind.TheVariants as kinds
use Rattle.wlexer.specs.declared.fault.LexFault.{LexFault}
use Rattle.wlexer.specs.declared.fault.LexFault.TheVariants as faults
use Rattle.wlexer.specs.declared.keyword.Keyword.{Keyword}
use Rattle.wlexer.specs.declared.token.Symbol.{Symbol}
use Rattle.wlexer.specs.declared.token.Token.{Token}
use Rattle.wlexer.specs.Bytes.{dash, apostrophe, double_quote, begins_word, continues, continues_word, is_blank, kind_of, spoils_number}
use Rattle.wlexer.specs.Keywords.{keyword_of}
use Rattle.wlexer.specs.Lexing.{Separates, nothing, blank, comment, LexesFirst, no_token, next_token}
use Rattle.wlexer.specs.Reading.{FaultsHere, IsLexicalFault}
use Rattle.wlexer.specs.Spelling.{IsStuck, front, behind, StopsBefore, Quoted, number_of, with_quotes_doubled, Spelled, keyword_word}
use Rattle.wlexer.specs.Spelling.{name_word, quoted_name, quoted_text, digits, symbol_pair, single_symbol}
use Rattle.wlexer.specs.Symbols.{symbol_of_one, symbol_of_two, IsNoPair}
use Rattle.wlexer.specs.Token.{TokenMeaning, KeywordToken, NameToken, NumberToken, TextToken, SymbolToken, PlacedToken, placed, meaning_of}
use Rattle.wlexer.proofs.OneLexing.{none_some}
use Rattle.wlexer.proofs.Parts.{word_parts, quoted_name_parts, digits_parts, symbol_parts}
use Rattle.wlexer.proofs.Quotes.{quoted_same}

spelled_along : {text text' rest : List ℕ} {token : TokenMeaning} → text ≡ text' → Spelled text' token rest → Spelled text token rest
spelled_along {rest = rest} {token = token} e x = subst (λ (z : List ℕ). Spelled z token rest) (sym e) x

-- a keyword
pub keyword_found : {text word rest : List ℕ} {k : Keyword} (b : ℕ) (ts : List ℕ) → text ≡ b ∷ ts → kind_of b ≡ kinds.Word
    → word ≡ front stretches.Word text → rest ≡ behind stretches.Word text → keyword_of word ≡ Some k → Spelled text (KeywordToken k) rest
keyword_found {k = k} b ts e h w r s = spelled_along e (subst (λ (z : List ℕ). Spelled (b ∷ ts) (KeywordToken k) z)
    (sym (r ∙ ap (behind stretches.Word) e)) (keyword_word h (ap keyword_of (sym (w ∙ ap (front stretches.Word) e)) ∙ s)))

name_at : (b : ℕ) (ts word rest : List ℕ) (token : TokenMeaning) → kind_of b ≡ kinds.Word
    → word ≡ front stretches.Word (b ∷ ts) → rest ≡ behind stretches.Word (b ∷ ts) → keyword_of word ≡ None
    → length word ≤ 63 → token ≡ NameToken (map to_ascii_lowercase word) → Spelled (b ∷ ts) token rest
name_at b ts word rest token h w r s l n =
    subst (λ (z : List ℕ). Spelled (b ∷ ts) token z) (sym r)
    (subst (λ (z : TokenMeaning). Spelled (b ∷ ts) z (behind stretches.Word (b ∷ ts)))
    (sym (n ∙ ap (λ (z : List ℕ). NameToken (map to_ascii_lowercase z)) w))
    (name_word h (ap keyword_of (sym w) ∙ s) (subst (λ (z : List ℕ). length z ≤ 63) w l)))

-- a name
pub name_found : {text word rest : List ℕ} {token : TokenMeaning} (b : ℕ) (ts : List ℕ) → text ≡ b ∷ ts
    → kind_of b ≡ kinds.Word → word ≡ front stretches.Word text → rest ≡ behind stretches.Word text → keyword_of word ≡ None
    → length word ≤ 63 → token ≡ NameToken (map to_ascii_lowercase word) → Spelled text token rest
name_found {word = word} {rest = rest} {token = token} b ts e h w r s l n =
    spelled_along e (name_at b ts word rest token h (w ∙ ap (front stretches.Word) e) (r ∙ ap (behind stretches.Word) e) s l n)

-- a name in quotes, and why there is none
pub quoted_name_found : {text body rest : List ℕ} {token : TokenMeaning} → Quoted double_quote text body rest
    → 1 ≤ length body → length body ≤ 63 → token ≡ NameToken body → Spelled (double_quote ∷ text) token rest
quoted_name_found {text = text} {rest = rest} q some short e =
    subst (λ (z : TokenMeaning). Spelled (double_quote ∷ text) z rest) (sym e) (quoted_name refl q some short)

pub empty_name : {text body rest : List ℕ} → Quoted double_quote text body rest → length body ≡ 0 → IsStuck (double_quote ∷ text)
empty_name q none token after x = let p = quoted_name_parts refl x in let e = ap length (quoted_same q p.quoted).0 in
    let l = p.some in omega arith

pub long_name : {text body rest : List ℕ} → Quoted double_quote text body rest → 63 < length body → IsStuck (double_quote ∷ text)
long_name q long token after x = let p = quoted_name_parts refl x in let e = ap length (quoted_same q p.quoted).0 in let l =
    p.short in omega arith

-- a text in quotes
pub quoted_text_found : {text body rest literal : List ℕ} → Quoted apostrophe text body rest → literal ≡ body
    → Spelled (apostrophe ∷ text) (TextToken literal) rest
quoted_text_found {text = text} {rest = rest} q e = subst (λ (z : List ℕ). Spelled (apostrophe ∷ text) (TextToken z) rest)
    (sym e) (quoted_text refl q)

-- a number only grows with more digits
pub number_grows : (v : ℕ) (bs : List ℕ) → v ≤ fold (λ number digit. number * 10 + (digit - 48)) v bs
number_grows v [] = omega arith
number_grows v (b ∷ bs) = omega (arith, number_grows (v * 10 + (b - 48)) bs)

number_step : (v : ℕ) (ds : List ℕ) (i : ℕ) → i < length ds
    → fold (λ number digit. number * 10 + (digit - 48)) v (drop i ds) ≡ fold (λ number digit. number * 10 + (digit - 48))
    (v * 10 + (get_or ds i 0 - 48)) (drop (suc i) ds)
number_step v [] i lt = absurd (omega arith)
number_step v (b ∷ ds) zero lt = refl
number_step v (b ∷ ds) (suc i) lt = number_step v ds i (omega arith)

pub number_large : (limit v : ℕ) (ds : List ℕ) (i d total : ℕ) → i < length ds → d ≡ get_or ds i 0 - 48 → limit ≤ v * 10 + d
    → fold (λ number digit. number * 10 + (digit - 48)) v (drop i ds) ≡ total → limit ≤ total
number_large limit v ds i d total lt e le p =
    let g = number_grows (v * 10 + (get_or ds i 0 - 48)) (drop (suc i) ds) in
    let s = number_step v ds i lt in
    omega arith

number_at : (b : ℕ) (ts ds rest : List ℕ) (n : ℕ) → kind_of b ≡ kinds.Number → ds ≡ front stretches.Digits (b ∷ ts)
    → rest ≡ behind stretches.Digits (b ∷ ts) → n ≡ number_of ds → n < 2 ^ 95 → StopsBefore spoils_number rest
    → Spelled (b ∷ ts) (NumberToken n) rest
number_at b ts ds rest n h d r e small stops =
    let same = e ∙ ap number_of d in
    subst (λ (z : List ℕ). Spelled (b ∷ ts) (NumberToken n) z) (sym r)
    (subst (λ (z : ℕ). Spelled (b ∷ ts) (NumberToken z) (behind stretches.Digits (b ∷ ts))) (sym same)
    (digits h (subst (λ (z : ℕ). z < 2 ^ 95) same small) (subst (StopsBefore spoils_number) r stops)))

-- a number, and why there is none
pub number_found : {text ds rest : List ℕ} {n : ℕ} (b : ℕ) (ts : List ℕ) → text ≡ b ∷ ts → kind_of b ≡ kinds.Number
    → ds ≡ front stretches.Digits text → rest ≡ behind stretches.Digits text → n ≡ number_of ds → n < 2 ^ 95
    → StopsBefore spoils_number rest → Spelled text (NumberToken n) rest
number_found {ds = ds} {rest = rest} {n = n} b ts e h d r same small stops =
    spelled_along e (number_at b ts ds rest n h (d ∙ ap (front stretches.Digits) e) (r ∙ ap (behind stretches.Digits) e) same small stops)

pub number_spoiled : {text rest : List ℕ} (b : ℕ) (ts : List ℕ) → text ≡ b ∷ ts → kind_of b ≡ kinds.Number
    → rest ≡ behind stretches.Digits text → (StopsBefore spoils_number rest → ⊥) → IsStuck text
number_spoiled b ts e h r spoiled token after x =
    spoiled (subst (StopsBefore spoils_number) (sym (r ∙ ap (behind stretches.Digits) e)) (digits_parts h (spelled_along (sym e) x)).stops)

-- a symbol, and why there is none
pub pair_found : {a : ℕ} {text rest : List ℕ} {s : Symbol} (b : ℕ) → kind_of a ≡ kinds.Symbol → text ≡ b ∷ rest
    → symbol_of_two a b ≡ Some s → Spelled (a ∷ text) (SymbolToken s) rest
pair_found {a = a} b h e s = spelled_along (ap (λ (z : List ℕ). a ∷ z) e) (symbol_pair h s)

pub no_symbol : {a : ℕ} {text : List ℕ} → kind_of a ≡ kinds.Symbol → IsNoPair a text → symbol_of_one a ≡ None → IsStuck (a ∷ text)
no_symbol {a = a} h alone none token after x =
    ⊎_elim
    (λ p. none_some (sym (subst (IsNoPair a) p.ends alone) ∙ p.spells))
    (λ p. none_some (sym none ∙ p.spells))
    (symbol_parts h x)

separates_along : {text text' rest : List ℕ} → text ≡ text' → Separates text' rest → Separates text rest
separates_along {rest = rest} e x = subst (λ (z : List ℕ). Separates z rest) (sym e) x

-- a blank, a comment
pub blank_first : {b : ℕ} {text after rest : List ℕ} → text ≡ b ∷ after → is_blank b ≡ true → Separates after rest → Separates text rest
blank_first e h x = separates_along e (blank h x)

two_dashes : {a b : ℕ} (text after body : List ℕ) → text ≡ a ∷ after → after ≡ b ∷ body → a ≡ dash → b ≡ dash → text ≡ dash ∷ dash ∷ body
two_dashes text after body e f p q = cc

pub comment_first : {a b : ℕ} {text after body left rest : List ℕ} → text ≡ a ∷ after → after ≡ b ∷ body → a ≡ dash
    → b ≡ dash → left ≡ behind stretches.Comment body → Separates left rest → Separates text rest
comment_first {text = text} {rest = rest} e f p q l x =
    separates_along (two_dashes text _ _ e f p q) (comment (subst (λ (z : List ℕ). Separates z rest) l x))

-- a rest is no longer than the text
pub behind_shorter : (stretch : Stretch) (text : List ℕ) → length (behind stretch text) ≤ length text
behind_shorter stretch text = omega (arith, length-drop (prefix_len (continues stretch) text) text)

pub separates_shorter : {text rest : List ℕ} → Separates text rest → length rest ≤ length text
separates_shorter (nothing h) = omega arith
separates_shorter (blank h x) = omega (arith, separates_shorter x)
separates_shorter (comment {text = text} x) = omega (arith, separates_shorter x, behind_shorter stretches.Comment text)

word_first : (p q r s : Bool) → cond p kinds.Word
    (cond q kinds.Number (cond r kinds.QuotedName (cond s kinds.Text kinds.Symbol))) ≡ kinds.Word → p ≡ true
word_first true q r s e = refl
word_first false true r s e = cc
word_first false false true s e = cc
word_first false false false true e = cc
word_first false false false false e = cc

number_first : (p q r s : Bool) → cond p kinds.Word
    (cond q kinds.Number (cond r kinds.QuotedName (cond s kinds.Text kinds.Symbol))) ≡ kinds.Number → q ≡ true
number_first true q r s e = cc
number_first false true r s e = refl
number_first false false true s e = cc
number_first false false false true e = cc
number_first false false false false e = cc

word_continues : (b : ℕ) → begins_word b ≡ true → continues_word b ≡ true
word_continues b h = grind (arith, nat_tests)

-- behind a first byte that belongs to the stretch
stretch_shorter : (stretch : Stretch) (b : ℕ) (text : List ℕ) → continues stretch b ≡ true
    → length (behind stretch (b ∷ text)) < length (b ∷ text)
stretch_shorter stretch b text h =
    let one : prefix_len (continues stretch) (b ∷ text) ≡ 1 + prefix_len (continues stretch) text =
    ap (λ (t : Bool). cond t (1 + prefix_len (continues stretch) text) 0) h in
    omega (arith, length-drop (prefix_len (continues stretch) (b ∷ text)) (b ∷ text))

quoted_shorter : {quote : ℕ} {text body rest : List ℕ} → Quoted quote text body rest → length rest ≤ length text
quoted_shorter {quote = quote} {body = body} {rest = rest} q =
    omega (arith, ap length q.spelled, length-append (with_quotes_doubled quote body) (quote ∷ rest))

pub spelled_shorter : {text rest : List ℕ} {token : TokenMeaning} → Spelled text token rest → length rest < length text
spelled_shorter (keyword_word {b = b} {text = text} h e) = stretch_shorter stretches.Word b text (word_continues b (word_first _ _ _ _ h))
spelled_shorter (name_word {b = b} {text = text} h e l) = stretch_shorter stretches.Word b text (word_continues b (word_first _ _ _ _ h))
spelled_shorter (quoted_name h q l m) = omega (arith, quoted_shorter q)
spelled_shorter (quoted_text h q) = omega (arith, quoted_shorter q)
spelled_shorter (digits {b = b} {text = text} h l e) = stretch_shorter stretches.Digits b text (number_first (begins_word b) _ _ _ h)
spelled_shorter (symbol_pair h e) = omega arith
spelled_shorter (single_symbol h e l) = omega arith

placed_push : (xs : List Token) (t : Token) (ts : List PlacedToken) → map placed (xs ++ (t ∷ [])) ++ ts ≡ map placed xs ++ (placed t ∷ ts)
placed_push [] t ts = refl
placed_push (x ∷ xs) t ts = ap (λ (z : List PlacedToken). placed x ∷ z) (placed_push xs t ts)

no_length : (xs : List ℕ) → length xs ≡ 0 → xs ≡ []
no_length [] e = refl
no_length (x ∷ xs) e = absurd (omega arith)

-- what is read so far goes before what is left
abbrev pub GoesBefore : List ℕ → List ℕ → List Token → Type 0
GoesBefore text left tokens = (more : List PlacedToken) (rest : List ℕ) → LexesFirst (length text) left more rest
    → LexesFirst (length text) text (map placed tokens ++ more) rest

-- the tokens before a place
pub tokens_before : (text left here : List ℕ) (tokens : List Token) → GoesBefore text left tokens → Separates left here
    → LexesFirst (length text) text (map placed tokens) here
tokens_before text left here tokens so_far x = subst (λ (z : List PlacedToken). LexesFirst (length text) text z here)
    (append-nil (map placed tokens)) (so_far [] here (no_token x))

-- all tokens
pub all_tokens : (text left here : List ℕ) (tokens : List Token) → GoesBefore text left tokens → Separates left here
    → length here ≡ 0 → LexesFirst (length text) text (map placed tokens) []
all_tokens text left here tokens so_far x e = subst (λ (z : List ℕ). LexesFirst (length text) text (map placed tokens) z)
    (no_length here e) (tokens_before text left here tokens so_far x)

-- a fault that is met behind these tokens
pub lexical_fault : {tokens : List PlacedToken} (place : ℕ) (text here : List ℕ) (e : LexFault)
    → LexesFirst (length text) text tokens here → place + length here ≡ length text → 0 < length here
    → FaultsHere place here e → IsLexicalFault text e
lexical_fault {tokens} place text here (faults.At from) before at left h = record {
  tokens = tokens;
  rest = here;
  before =
      before;
  here = ap (λ (z : ℕ). z + length here) h.0 ∙ at;
  left = left;
  stuck = h.1;
}
lexical_fault place text here faults.NoMemory before at left h = tt
lexical_fault place text here faults.TooLong before at left h = absurd h
lexical_fault place text here faults.NotUtf8 before at left h = absurd h

-- one more token
pub token_more : (text left here after : List ℕ) (tokens pushed : List Token) (t : Token) → GoesBefore text left tokens
    → Separates left here → Spelled here (meaning_of t) after → t.from + length here ≡ length text
    → t.to + length after ≡ length text → pushed ≡ tokens ++ (t ∷ []) → GoesBefore text after pushed
token_more text left here after tokens pushed t so_far x s from to e more rest k =
    subst (λ (z : List PlacedToken). LexesFirst (length text) text z rest) (sym (placed_push tokens t more)
    ∙ ap (λ (z : List Token). map placed z ++ more) (sym e)) (so_far (placed t ∷ more) rest (next_token x s from to k))

-- a word that is too long for a name
pub long_word : {text word : List ℕ} (b : ℕ) (ts : List ℕ) → text ≡ b ∷ ts → kind_of b ≡ kinds.Word
    → word ≡ front stretches.Word text → keyword_of word ≡ None → 63 < length word → IsStuck text
long_word b ts e h w none long token after x =
    let same = w ∙ ap (front stretches.Word) e in
    ⊎_elim
    (λ k. none_some (sym none ∙ ap keyword_of same ∙ k.spells))
    (λ k. let short = k.short in let sized = ap length same in omega arith)
    (word_parts h (spelled_along (sym e) x)).1

-- digits whose number is too large
pub number_too_large : {text ds : List ℕ} (b : ℕ) (ts : List ℕ) → text ≡ b ∷ ts → kind_of b ≡ kinds.Number
    → ds ≡ front stretches.Digits text → 2 ^ 95 ≤ number_of ds → IsStuck text
number_too_large b ts e h d large token after x =
    let same = ap number_of (d ∙ ap (front stretches.Digits) e) in
    let small = (digits_parts h (spelled_along (sym e) x)).small in
    omega arith
