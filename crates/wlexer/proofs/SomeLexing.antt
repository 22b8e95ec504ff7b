-- Each text has tokens, or a first fault.
use Rattle.std.proofs.Common.{◌≡◌, ℕ, zero, suc, ◌-◌, ◌<◌, ◌≤◌, ◌^◌, List, [], ◌∷◌, ◌++◌, length, get_or, Bool, true, false}
use Rattle.std.proofs.Common.{Option, Some, None, refl, sym, ap, subst, ◌∙◌, ◌⊎◌, inl, inr, ⊎_elim, nat_eq, ◌&&◌, arith}
use Rattle.std.proofs.lemmas.Bool.{eqb-true, cases_lt}
use Rattle.wlexer.specs.declared.bytes.Stretch.TheVariants as stretches
use Rattle.wlexer.specs.declared.bytes.TokenKind.{TokenKind}
use Rattle.wlexer.specs.declared.bytes.TokenKind.TheVariants as kinds
use Rattle.wlexer.specs.Bytes.{dash, apostrophe, double_quote, is_blank, kind_of, spoils_number}
use Rattle.wlexer.specs.Keywords.{keyword_of}
use Rattle.wlexer.specs.Lexing.{Separates, nothing, blank, LexesFirst, no_token, next_token, Lexes, HasFaultAt}
use Rattle.wlexer.specs.Reading.{IsOpen}
use Rattle.wlexer.specs.Spelling.{IsStuck, front, behind, StopsBefore, Quoted, number_of, with_quotes_doubled, Spelled, keyword_word}
use Rattle.wlexer.specs.Spelling.{name_word, quoted_name, quoted_text, digits, symbol_pair, single_symbol}
use Rattle.wlexer.specs.Symbols.{symbol_of_one, symbol_of_two, IsNoPair}
use Rattle.wlexer.specs.Token.{TokenMeaning, PlacedToken}
use Rattle.wlexer.proofs.OneLexing.{none_some}
use Rattle.wlexer.proofs.Parts.{word_parts, quoted_name_parts, quoted_text_parts, digits_parts}
use Rattle.wlexer.proofs.Quotes.{by_cases, false_true, itself, HasNo, more_spelled, closes, goes_on, stays_open, quoted_same}
use Rattle.wlexer.proofs.Steps.{behind_shorter, comment_first, separates_shorter, spelled_shorter, no_symbol}

both_true : (x y : Bool) → (x && y) ≡ true → (x ≡ true) × (y ≡ true)
both_true true true e = (refl, refl)
both_true true false e = absurd (false_true e)
both_true false y e = absurd (false_true e)

-- behind blanks and comments there is a rest, if an empty one
separated : (n : ℕ) (text : List ℕ) → length text ≤ n → (rest : List ℕ) × Separates text rest
separated n [] le = ([], nothing tt)
separated zero (a ∷ text) le = absurd (omega arith)
separated (suc n) (a ∷ []) le =
    ⊎_elim
    (λ h. let more = separated n [] (omega arith) in (more.0, blank h more.1))
    (λ h. (a ∷ [], nothing h))
    (by_cases (is_blank a))
separated (suc n) (a ∷ b ∷ text) le =
    ⊎_elim
    (λ h. let more = separated n (b ∷ text) (omega arith) in (more.0, blank h more.1))
    (λ h. ⊎_elim
    (λ k.
    let dashes = both_true (nat_eq a dash) (nat_eq b dash) k in
    let more = separated n (behind stretches.Comment text) (omega (arith, behind_shorter stretches.Comment text)) in
    (more.0, comment_first refl refl (eqb-true a dash dashes.0) (eqb-true b dash dashes.1) refl more.1))
    (λ k. (a ∷ b ∷ text, nothing (h, k)))
    (by_cases (nat_eq a dash && nat_eq b dash)))
    (by_cases (is_blank a))

-- what is quoted behind an opening quote, and what follows
record IsQuoted (quote : ℕ) (text : List ℕ) : Type 0 where
  pub body : List ℕ
  pub rest : List ℕ
  pub quoted : Quoted quote text body rest

other_byte : (quote a : ℕ) → nat_eq a quote ≡ false → HasNo quote (a ∷ [])
other_byte quote a h i lt e = false_true (sym h ∙ ap (λ (z : ℕ). nat_eq z quote) (first i lt e) ∙ itself quote)
  where
    first : (i : ℕ) → i < length (a ∷ []) → get_or (a ∷ []) i 0 ≡ quote → a ≡ quote
    first zero lt e = e
    first (suc i) lt e = absurd (omega arith)

no_byte : (quote : ℕ) → HasNo quote []
no_byte quote i lt e = absurd (omega arith)

quoted_or_open : (quote n : ℕ) (text body left : List ℕ) → length left ≤ n → text ≡ with_quotes_doubled quote body ++ left
    → IsQuoted quote text ⊎ IsOpen quote text
quoted_or_open quote n text body [] le so_far = inr (stays_open quote text body [] so_far (no_byte quote))
quoted_or_open quote zero text body (a ∷ left) le so_far = absurd (omega arith)
quoted_or_open quote (suc n) text body (a ∷ []) le so_far =
    ⊎_elim
    (λ h. inl (record {
      body = body ++ [];
      rest = [];
      quoted = closes quote text body (a ∷ []) [] [] (body ++ []) so_far
          (ap (λ (z : ℕ). z ∷ []) (eqb-true a quote h)) (no_byte quote) tt refl;
    }))
    (λ h. inr (stays_open quote text body (a ∷ []) so_far (other_byte quote a h)))
    (by_cases (nat_eq a quote))
quoted_or_open quote (suc n) text body (a ∷ b ∷ left) le so_far =
    ⊎_elim
    (λ h. ⊎_elim
    (λ k. quoted_or_open quote n text ((body ++ []) ++ (quote ∷ [])) left (omega arith)
    (goes_on quote text body (a ∷ b ∷ left) [] (b ∷ left) left _ so_far (ap (λ (z : ℕ). z ∷ b ∷ left) (eqb-true a quote h))
    (no_byte quote) (ap (λ (z : ℕ). z ∷ left) (eqb-true b quote k)) refl))
    (λ k. inl (record {
      body = body ++ [];
      rest = b ∷ left;
      quoted =
          closes quote text body (a ∷ b ∷ left) [] (b ∷ left) (body ++ []) so_far
          (ap (λ (z : ℕ). z ∷ b ∷ left) (eqb-true a quote h)) (no_byte quote) k refl;
    }))
    (by_cases (nat_eq b quote)))
    (λ h. quoted_or_open quote n text (body ++ (a ∷ [])) (b ∷ left) (omega arith)
    (more_spelled quote text body (a ∷ b ∷ left) (a ∷ []) (b ∷ left) so_far refl (other_byte quote a h)))
    (by_cases (nat_eq a quote))

-- a token that stands at the front
record HasToken (text : List ℕ) : Type 0 where
  pub token : TokenMeaning
  pub rest : List ℕ
  pub spelled : Spelled text token rest

some_or_none : {A : Type 0} (o : Option A) → ((x : A) × (o ≡ Some x)) ⊎ (o ≡ None)
some_or_none None = inr refl
some_or_none (Some x) = inl (x, refl)

stops_or_not : (test : ℕ → Bool) (text : List ℕ) → StopsBefore test text ⊎ (StopsBefore test text → ⊥)
stops_or_not test [] = inl tt
stops_or_not test (b ∷ text) = ⊎_elim (λ h. inr (λ k. false_true (sym k ∙ h))) inl (by_cases (test b))

word_or_stuck : (b : ℕ) (text : List ℕ) → kind_of b ≡ kinds.Word → HasToken (b ∷ text) ⊎ IsStuck (b ∷ text)
word_or_stuck b text h =
    ⊎_elim
    (λ k. inl (record { token = _; rest = _; spelled = keyword_word h k.1 }))
    (λ k. ⊎_elim
    (λ long. inr (λ token rest x. ⊎_elim (λ p. none_some (sym k ∙ p.spells)) (λ p. let short = p.short in omega arith) (word_parts h x).1))
    (λ short. inl (record { token = _; rest = _; spelled = name_word h k short }))
    (cases_lt 63 (length (front stretches.Word (b ∷ text)))))
    (some_or_none (keyword_of (front stretches.Word (b ∷ text))))

number_or_stuck : (b : ℕ) (text : List ℕ) → kind_of b ≡ kinds.Number → HasToken (b ∷ text) ⊎ IsStuck (b ∷ text)
number_or_stuck b text h =
    ⊎_elim
    (λ small. ⊎_elim
    (λ stops. inl (record { token = _; rest = _; spelled = digits h small stops }))
    (λ spoiled. inr (λ token rest x. spoiled (digits_parts h x).stops))
    (stops_or_not spoils_number (behind stretches.Digits (b ∷ text))))
    (λ large. inr (λ token rest x. let small = (digits_parts h x).small in omega arith))
    (cases_lt (number_of (front stretches.Digits (b ∷ text))) (2 ^ 95))

name_or_stuck : (b : ℕ) (text : List ℕ) → kind_of b ≡ kinds.QuotedName → HasToken (b ∷ text) ⊎ IsStuck (b ∷ text)
name_or_stuck b text h =
    ⊎_elim
    (λ q. ⊎_elim
    (λ long. inr (λ token rest x. let p = quoted_name_parts h x in let e = ap length (quoted_same q.quoted p.quoted).0 in
    let l = p.short in omega arith))
    (λ short. ⊎_elim
    (λ some. inl (record { token = _; rest = _; spelled = quoted_name h q.quoted some short }))
    (λ none. inr (λ token rest x. let p = quoted_name_parts h x in let e = ap length (quoted_same q.quoted p.quoted).0 in
    let l = p.some in omega arith))
    (cases_lt 0 (length q.body)))
    (cases_lt 63 (length q.body)))
    (λ open_quote. inr (λ token rest x. let p = quoted_name_parts h x in open_quote p.name rest p.quoted))
    (quoted_or_open double_quote (length text) text [] text (omega arith) refl)

text_or_stuck : (b : ℕ) (text : List ℕ) → kind_of b ≡ kinds.Text → HasToken (b ∷ text) ⊎ IsStuck (b ∷ text)
text_or_stuck b text h =
    ⊎_elim
    (λ q. inl (record { token = _; rest = _; spelled = quoted_text h q.quoted }))
    (λ open_quote. inr (λ token rest x. let p = quoted_text_parts h x in open_quote p.body rest p.quoted))
    (quoted_or_open apostrophe (length text) text [] text (omega arith) refl)

one_or_stuck : (a : ℕ) (text : List ℕ) → kind_of a ≡ kinds.Symbol → IsNoPair a text → HasToken (a ∷ text) ⊎ IsStuck (a ∷ text)
one_or_stuck a text h alone =
    ⊎_elim
    (λ k. inl (record { token = _; rest = _; spelled = single_symbol h k.1 alone }))
    (λ k. inr (no_symbol h alone k))
    (some_or_none (symbol_of_one a))

symbol_or_stuck : (a : ℕ) (text : List ℕ) → kind_of a ≡ kinds.Symbol → HasToken (a ∷ text) ⊎ IsStuck (a ∷ text)
symbol_or_stuck a [] h = one_or_stuck a [] h tt
symbol_or_stuck a (b ∷ text) h =
    ⊎_elim
    (λ k. inl (record { token = _; rest = _; spelled = symbol_pair h k.1 }))
    (λ k. one_or_stuck a (b ∷ text) h k)
    (some_or_none (symbol_of_two a b))

kind_or_stuck : (kind : TokenKind) (b : ℕ) (text : List ℕ) → kind_of b ≡ kind → HasToken (b ∷ text) ⊎ IsStuck (b ∷ text)
kind_or_stuck kinds.Word b text h = word_or_stuck b text h
kind_or_stuck kinds.Number b text h = number_or_stuck b text h
kind_or_stuck kinds.QuotedName b text h = name_or_stuck b text h
kind_or_stuck kinds.Text b text h = text_or_stuck b text h
kind_or_stuck kinds.Symbol b text h = symbol_or_stuck b text h

-- the tokens up to the end, or up to a place where none begins
record GoesAsFar (size : ℕ) (text : List ℕ) : Type 0 where
  pub tokens : List PlacedToken
  pub rest : List ℕ
  pub lexed : LexesFirst size text tokens rest
  pub within : length rest ≤ length text
  pub ends : (rest ≡ []) ⊎ ((0 < length rest) × IsStuck rest)

one_token : (size : ℕ) (text here : List ℕ) → Separates text here → length text ≤ size → HasToken here
    → ((after : List ℕ) → length after < length text → GoesAsFar size after) → GoesAsFar size text
one_token size text here x le t go =
    let shorter = separates_shorter x in
    let less = spelled_shorter t.spelled in
    let more = go t.rest (omega arith) in
    let within = more.within in
    record {
      tokens = record { from = size - length here; to = size - length t.rest; meaning = t.token } ∷ more.tokens;
      rest = more.rest;
      lexed = next_token x t.spelled (omega arith) (omega arith) more.lexed;
      within = omega arith;
      ends = more.ends;
    }

far_from : (size : ℕ) (text here : List ℕ) → length text ≤ size → Separates text here
    → ((after : List ℕ) → length after < length text → GoesAsFar size after) → GoesAsFar size text
far_from size text [] fits x go = record { tokens = []; rest = []; lexed = no_token x; within = omega arith; ends = inl refl }
far_from size text (b ∷ here) fits x go =
    ⊎_elim
    (λ t. one_token size text (b ∷ here) x fits t go)
    (λ stuck. record { tokens = []; rest = b ∷ here; lexed = no_token x; within = separates_shorter x; ends = inr (omega arith, stuck) })
    (kind_or_stuck (kind_of b) b here refl)

far : (size n : ℕ) (text : List ℕ) → length text ≤ n → length text ≤ size → GoesAsFar size text
far size zero text le fits = let x = separated zero text le in far_from size text x.0 fits x.1 (λ after lt. absurd (omega arith))
far size (suc n) text le fits = let x = separated (suc n) text le in
    far_from size text x.0 fits x.1 (λ after lt. far size n after (omega arith) (omega arith))

end_or_fault : (text : List ℕ) → GoesAsFar (length text) text → ((tokens : List PlacedToken) × Lexes text tokens)
    ⊎ ((place : ℕ) × HasFaultAt text place)
end_or_fault text f =
    ⊎_elim
    (λ e. inl (f.tokens, subst (λ (z : List ℕ). LexesFirst (length text) text f.tokens z) e f.lexed))
    (λ e. let within = f.within in inr (
      length text - length f.rest,
      record {
        tokens = f.tokens;
        rest = f.rest;
        before =
            f.lexed;
        here = omega arith;
        left = e.0;
        stuck = e.1;
      },
    ))
    f.ends

pub some_lexing : (text : List ℕ) → ((tokens : List PlacedToken) × Lexes text tokens) ⊎ ((place : ℕ) × HasFaultAt text place)
some_lexing text = end_or_fault text (far (length text) (length text) text (omega arith) (omega arith))
