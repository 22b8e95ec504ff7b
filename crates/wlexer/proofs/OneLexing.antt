-- A text has one list of tokens, or one first fault.
use Rattle.std.proofs.Common.{◌≡◌, ℕ, List, [], ◌∷◌, length, false, Option, Some, None, refl, sym, ap, subst, ◌∙◌, ⊎_elim, arith}
use Rattle.wlexer.specs.Bytes.{is_blank}
use Rattle.wlexer.specs.Lexing.{IsBare, Separates, nothing, blank, comment, LexesFirst, no_token, next_token, Lexes, HasFaultAt}
use Rattle.wlexer.specs.Spelling.{IsStuck, Spelled, keyword_word, name_word, quoted_name, quoted_text, digits, symbol_pair, single_symbol}
use Rattle.wlexer.specs.Symbols.{symbol_of_two, IsNoPair}
use Rattle.wlexer.specs.Token.{TokenMeaning, KeywordToken, NameToken, TextToken, SymbolToken, PlacedToken}
use Rattle.wlexer.proofs.Parts.{word_parts, quoted_name_parts, quoted_text_parts, digits_parts, symbol_parts}
use Rattle.wlexer.proofs.Quotes.{false_true, quoted_same}

pub none_some : {A : Type 0} {x : A} → ◌≡◌ {A = Option A} None (Some x) → ⊥
none_some e = cc

some_same : {A : Type 0} {x y : A} → ◌≡◌ {A = Option A} (Some x) (Some y) → x ≡ y
some_same e = cc

same_list : {t t' : PlacedToken} {ts ts' : List PlacedToken} → t ≡ t' → ts ≡ ts' → t ∷ ts ≡ t' ∷ ts'
same_list p q = cc

-- the token at the front, and what follows it, are fixed by the text
pub spelled_same : {text r s : List ℕ} {x y : TokenMeaning} → Spelled text x r → Spelled text y s → (x ≡ y) × (r ≡ s)
spelled_same (keyword_word h e) other =
    let p = word_parts h other in
    (⊎_elim (λ k. ap KeywordToken (some_same (sym e ∙ k.spells)) ∙ sym k.is) (λ k. absurd (none_some (sym k.spells ∙ e))) p.1, sym p.0)
spelled_same (name_word h e l) other =
    let p = word_parts h other in
    (⊎_elim (λ k. absurd (none_some (sym e ∙ k.spells))) (λ k. sym k.is) p.1, sym p.0)
spelled_same (quoted_name h q l m) other =
    let p = quoted_name_parts h other in
    let same = quoted_same q p.quoted in
    (ap NameToken same.0 ∙ sym p.is, same.1)
spelled_same (quoted_text h q) other =
    let p = quoted_text_parts h other in
    let same = quoted_same q p.quoted in
    (ap TextToken same.0 ∙ sym p.is, same.1)
spelled_same (digits h l e) other = let p = digits_parts h other in (sym p.is, sym p.ends)
spelled_same (symbol_pair {a = a} {b = b} {rest = rest} h e) other =
    ⊎_elim
    (λ p. (ap SymbolToken (some_same (sym e ∙ ap (symbol_of_two a) (first_same p.ends) ∙ p.spells)) ∙ sym p.is, rest_same p.ends))
    (λ p. absurd (none_some (sym p.alone ∙ e)))
    (symbol_parts h other)
  where
    first_same : {c d : ℕ} {xs ys : List ℕ} → c ∷ xs ≡ d ∷ ys → c ≡ d
    first_same e = cc

    rest_same : {c d : ℕ} {xs ys : List ℕ} → c ∷ xs ≡ d ∷ ys → xs ≡ ys
    rest_same e = cc
spelled_same (single_symbol {a = a} h e l) other =
    ⊎_elim
    (λ p. absurd (none_some (sym (subst (IsNoPair a) p.ends l) ∙ p.spells)))
    (λ p. (ap SymbolToken (some_same (sym e ∙ p.spells)) ∙ sym p.is, p.ends))
    (symbol_parts h other)

bare_first : (b : ℕ) (text : List ℕ) → IsBare (b ∷ text) → is_blank b ≡ false
bare_first b [] h = h
bare_first b (c ∷ text) h = h.0

-- what follows the blanks and comments is fixed by the text
pub separates_same : {text r s : List ℕ} → Separates text r → Separates text s → r ≡ s
separates_same (nothing h) (nothing k) = refl
separates_same (nothing h) (blank {b = b} {text = text} k y) = absurd (false_true (sym (bare_first b text h) ∙ k))
separates_same (nothing h) (comment y) = absurd (false_true (sym h.1))
separates_same (blank {b = b} {text = text} h x) (nothing k) = absurd (false_true (sym (bare_first b text k) ∙ h))
separates_same (blank h x) (blank k y) = separates_same x y
separates_same (blank h x) (comment y) = absurd (false_true h)
separates_same (comment x) (nothing k) = absurd (false_true (sym k.1))
separates_same (comment x) (blank k y) = absurd (false_true k)
separates_same (comment x) (comment y) = separates_same x y

placed_same : (p q : PlacedToken) → p.from ≡ q.from → p.to ≡ q.to → p.meaning ≡ q.meaning → p ≡ q
placed_same p q a b c = λ i. record { from = a i; to = b i; meaning = c i }

pub nothing_stuck : IsStuck []
nothing_stuck token after x = elim x [ ]

lexes_same : {size : ℕ} {text r s : List ℕ} {xs ys : List PlacedToken} → LexesFirst size text xs r
    → LexesFirst size text ys s → IsStuck r → IsStuck s → (xs ≡ ys) × (r ≡ s)
lexes_same (no_token a) (no_token b) h k = (refl, separates_same a b)
lexes_same (no_token a) (next_token {after = after} {token = t} b x f g ys) h k =
    absurd (h t.meaning after (subst (λ (z : List ℕ). Spelled z t.meaning after) (sym (separates_same a b)) x))
lexes_same (next_token {after = after} {token = t} b x f g ys) (no_token a) h k =
    absurd (k t.meaning after (subst (λ (z : List ℕ). Spelled z t.meaning after) (separates_same b a) x))
lexes_same {size = size} {s = s} (next_token {here = here} {after = after} {token = t} {tokens = ts} a x f g xs)
    (next_token {here = here'} {after = after'} {token = t'} {tokens = ts'} b y f' g' ys) h k =
    let e = separates_same a b in
    let p = spelled_same x (subst (λ (z : List ℕ). Spelled z t'.meaning after') (sym e) y) in
    let more = lexes_same xs (subst (λ (z : List ℕ). LexesFirst size z ts' s) (sym p.1) ys) h k in
    let here_length = ap length e in
    let after_length = ap length p.1 in
    let from : t.from ≡ t'.from = omega arith in
    let to : t.to ≡ t'.to = omega arith in
    (same_list (placed_same t t' from to p.0) more.0, more.1)

pub one_list : (text : List ℕ) (these those : List PlacedToken) → Lexes text these → Lexes text those → these ≡ those
one_list text these those a b = (lexes_same a b nothing_stuck nothing_stuck).0

pub tokens_or_fault : (text : List ℕ) (tokens : List PlacedToken) (place : ℕ) → Lexes text tokens → HasFaultAt text place → ⊥
tokens_or_fault text tokens place a f =
    let e = ap length (lexes_same a f.before nothing_stuck f.stuck).1 in
    let left = f.left in
    omega arith

pub one_place : (text : List ℕ) (one other : ℕ) → HasFaultAt text one → HasFaultAt text other → one ≡ other
one_place text one other f g =
    let e = ap length (lexes_same f.before g.before f.stuck g.stuck).1 in
    let p = f.here in
    let q = g.here in
    omega arith
