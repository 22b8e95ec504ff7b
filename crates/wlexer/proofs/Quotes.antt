-- What stands in quotes can be read in one way only.
use Rattle.std.proofs.Common.{◌≡◌, ℕ, suc, ◌<◌, List, [], ◌∷◌, ◌++◌, length, get_or, Bool, true, false, refl, sym}
use Rattle.std.proofs.Common.{ap, subst, ◌∙◌, ◌⊎◌, inl, inr, ⊎_elim, nat_eq, if◌then◌else◌, append_assoc, arith}
use Rattle.std.proofs.lemmas.Bool.{eqb-true}
use Rattle.std.proofs.lemmas.Bool.Decides.{eqb_tells}
use Rattle.wlexer.specs.Spelling.{StopsBefore, with_quotes_doubled, Quoted}

-- small facts on tests and lists
pub false_true : ◌≡◌ {A = Bool} false true → ⊥
false_true e = cc

pub itself : (a : ℕ) → nat_eq a a ≡ true
itself a = ⊎_elim (λ h. h.0) (λ h. absurd (h.1 refl)) (eqb_tells a a)

pub same_head : {a b : ℕ} {xs ys : List ℕ} → a ∷ xs ≡ b ∷ ys → a ≡ b
same_head e = cc

heads_tails : {a b : ℕ} {xs ys : List ℕ} → a ≡ b → xs ≡ ys → a ∷ xs ≡ b ∷ ys
heads_tails p q = cc

pub same_tail : {a b : ℕ} {xs ys : List ℕ} → a ∷ xs ≡ b ∷ ys → xs ≡ ys
same_tail e = cc

pub by_cases : (b : Bool) → (b ≡ true) ⊎ (b ≡ false)
by_cases true = inl refl
by_cases false = inr refl

-- one step of the doubling
pub doubles_quote : (quote b : ℕ) (body : List ℕ) → nat_eq b quote ≡ true → with_quotes_doubled quote (b ∷ body)
    ≡ quote ∷ quote ∷ with_quotes_doubled quote body
doubles_quote quote b body h = ap (λ (t : Bool). if t then quote ∷ quote ∷ with_quotes_doubled quote body else b
    ∷ with_quotes_doubled quote body) h

pub keeps_other : (quote b : ℕ) (body : List ℕ) → nat_eq b quote ≡ false → with_quotes_doubled quote (b ∷ body)
    ≡ b ∷ with_quotes_doubled quote body
keeps_other quote b body h = ap (λ (t : Bool). if t then quote ∷ quote ∷ with_quotes_doubled quote body else b
    ∷ with_quotes_doubled quote body) h

other_than : (quote b : ℕ) → nat_eq b quote ≡ false → quote ≡ b → ⊥
other_than quote b h e = false_true (sym h ∙ ap (λ (x : ℕ). nat_eq x quote) (sym e) ∙ itself quote)

-- a quote and what follows it begin with no other byte, and with two quotes only if another one follows
closes_at_once : (quote c : ℕ) (y r s : List ℕ) → quote ∷ r ≡ with_quotes_doubled quote (c ∷ y) ++ s
    → StopsBefore (λ b. nat_eq b quote) r → ⊥
closes_at_once quote c y r s e h =
    ⊎_elim
    (λ t. let f = same_tail (e ∙ ap (λ (z : List ℕ). z ++ s) (doubles_quote quote c y t)) in
    false_true (sym (subst (StopsBefore (λ b. nat_eq b quote)) f h) ∙ itself quote))
    (λ t. other_than quote c t (same_head (e ∙ ap (λ (z : List ℕ). z ++ s) (keeps_other quote c y t))))
    (by_cases (nat_eq c quote))

-- two doublings that begin alike go on alike
peel : (quote c d : ℕ) (x y r s : List ℕ) → with_quotes_doubled quote (c ∷ x) ++ r ≡ with_quotes_doubled quote (d ∷ y) ++ s
    → (c ≡ d) × (with_quotes_doubled quote x ++ r ≡ with_quotes_doubled quote y ++ s)
peel quote c d x y r s e =
    ⊎_elim
    (λ p. ⊎_elim
    (λ q. let f = sym (left_is p) ∙ e ∙ right_is q in (eqb-true c quote p ∙ sym (eqb-true d quote q), same_tail (same_tail f)))
    (λ q. absurd (other_than quote d q (same_head (sym (left_is p) ∙ e ∙ right_other q))))
    (by_cases (nat_eq d quote)))
    (λ p. ⊎_elim
    (λ q. absurd (other_than quote c p (same_head (sym (right_is q) ∙ sym e ∙ left_other p))))
    (λ q. let f = sym (left_other p) ∙ e ∙ right_other q in (same_head f, same_tail f))
    (by_cases (nat_eq d quote)))
    (by_cases (nat_eq c quote))
  where
    left_is : nat_eq c quote ≡ true → with_quotes_doubled quote (c ∷ x) ++ r ≡ quote ∷ quote ∷ with_quotes_doubled quote x ++ r
    left_is p = ap (λ (z : List ℕ). z ++ r) (doubles_quote quote c x p)

    left_other : nat_eq c quote ≡ false → with_quotes_doubled quote (c ∷ x) ++ r ≡ c ∷ with_quotes_doubled quote x ++ r
    left_other p = ap (λ (z : List ℕ). z ++ r) (keeps_other quote c x p)

    right_is : nat_eq d quote ≡ true → with_quotes_doubled quote (d ∷ y) ++ s ≡ quote ∷ quote ∷ with_quotes_doubled quote y ++ s
    right_is q = ap (λ (z : List ℕ). z ++ s) (doubles_quote quote d y q)

    right_other : nat_eq d quote ≡ false → with_quotes_doubled quote (d ∷ y) ++ s ≡ d ∷ with_quotes_doubled quote y ++ s
    right_other q = ap (λ (z : List ℕ). z ++ s) (keeps_other quote d y q)

one_reading : (quote : ℕ) (x y r s : List ℕ) → with_quotes_doubled quote x ++ (quote ∷ r) ≡ with_quotes_doubled quote y
    ++ (quote ∷ s) → StopsBefore (λ b. nat_eq b quote) r → StopsBefore (λ b. nat_eq b quote) s → (x ≡ y) × (r ≡ s)
one_reading quote [] [] r s e h k = (refl, same_tail e)
one_reading quote [] (d ∷ y) r s e h k = absurd (closes_at_once quote d y r (quote ∷ s) e h)
one_reading quote (c ∷ x) [] r s e h k = absurd (closes_at_once quote c x s (quote ∷ r) (sym e) k)
one_reading quote (c ∷ x) (d ∷ y) r s e h k =
    let p = peel quote c d x y (quote ∷ r) (quote ∷ s) e in
    let more = one_reading quote x y r s p.1 h k in
    (heads_tails p.0 more.0, more.1)

-- what is quoted, and where it ends, is fixed by the text
pub quoted_same : {quote : ℕ} {text x y r s : List ℕ} → Quoted quote text x r → Quoted quote text y s → (x ≡ y) × (r ≡ s)
quoted_same {quote = quote} {x = x} {y = y} {r = r} {s = s} a b = one_reading quote x y r s (sym a.spelled ∙ b.spelled) a.closed b.closed

doubled-append : (quote : ℕ) (xs ys : List ℕ) → with_quotes_doubled quote (xs ++ ys) ≡ with_quotes_doubled quote xs
    ++ with_quotes_doubled quote ys
doubled-append quote [] ys = refl
doubled-append quote (x ∷ xs) ys =
    ⊎_elim
    (λ t. doubles_quote quote x (xs ++ ys) t ∙ ap (λ (z : List ℕ). quote ∷ quote ∷ z) (doubled-append quote xs ys)
    ∙ ap (λ (z : List ℕ). z ++ with_quotes_doubled quote ys) (sym (doubles_quote quote x xs t)))
    (λ t. keeps_other quote x (xs ++ ys) t ∙ ap (λ (z : List ℕ). x ∷ z) (doubled-append quote xs ys)
    ∙ ap (λ (z : List ℕ). z ++ with_quotes_doubled quote ys) (sym (keeps_other quote x xs t)))
    (by_cases (nat_eq x quote))

-- no byte is the quote
abbrev pub HasNo : ℕ → List ℕ → Type 0
HasNo quote xs = (i : ℕ) → i < length xs → get_or xs i 0 ≡ quote → ⊥

differs : (quote b : ℕ) → (b ≡ quote → ⊥) → nat_eq b quote ≡ false
differs quote b apart = ⊎_elim (λ h. absurd (apart h.1)) (λ h. h.0) (eqb_tells b quote)

doubled-plain : (quote : ℕ) (xs : List ℕ) → HasNo quote xs → with_quotes_doubled quote xs ≡ xs
doubled-plain quote [] none = refl
doubled-plain quote (x ∷ xs) none =
    keeps_other quote x xs (differs quote x (none 0 (omega arith))) ∙ ap (λ (z : List ℕ). x ∷ z)
    (doubled-plain quote xs (λ i lt e. none (suc i) (omega arith) e))

-- a piece without quotes is spelled as it is
pub more_spelled : (quote : ℕ) (text body left piece rest : List ℕ) → text ≡ with_quotes_doubled quote body ++ left
    → left ≡ piece ++ rest → HasNo quote piece → text ≡ with_quotes_doubled quote (body ++ piece) ++ rest
more_spelled quote text body left piece rest so_far p none =
    so_far ∙ ap (λ (z : List ℕ). with_quotes_doubled quote body ++ z) p
    ∙ sym (append_assoc (with_quotes_doubled quote body) piece rest)
    ∙ ap (λ (z : List ℕ). (with_quotes_doubled quote body ++ z) ++ rest) (sym (doubled-plain quote piece none))
    ∙ ap (λ (z : List ℕ). z ++ rest) (sym (doubled-append quote body piece))

-- the quote that closes
pub closes : (quote : ℕ) (text body left piece after whole : List ℕ) → text ≡ with_quotes_doubled quote body ++ left
    → left ≡ piece ++ (quote ∷ after) → HasNo quote piece → StopsBefore (λ b. nat_eq b quote) after → whole ≡ body ++ piece
    → Quoted quote text whole after
closes quote text body left piece after whole so_far p none stops e =
    record {
      spelled = more_spelled quote text body left piece (quote ∷ after) so_far p none
          ∙ ap (λ (z : List ℕ). with_quotes_doubled quote z ++ (quote ∷ after)) (sym e);
      closed = stops;
    }

-- a quote that is written twice
pub goes_on : (quote : ℕ) (text body left piece after further whole : List ℕ)
    → text ≡ with_quotes_doubled quote body ++ left → left ≡ piece ++ (quote ∷ after) → HasNo quote piece
    → after ≡ quote ∷ further → whole ≡ (body ++ piece) ++ (quote ∷ []) → text ≡ with_quotes_doubled quote whole ++ further
goes_on quote text body left piece after further whole so_far p none q e =
    more_spelled quote text body left piece (quote ∷ after) so_far p none
    ∙ ap (λ (z : List ℕ). with_quotes_doubled quote (body ++ piece) ++ (quote ∷ z)) q
    ∙ sym (append_assoc (with_quotes_doubled quote (body ++ piece)) (quote ∷ quote ∷ []) further)
    ∙ ap (λ (z : List ℕ). (with_quotes_doubled quote (body ++ piece) ++ z) ++ further) (sym (doubles_quote quote quote [] (itself quote)))
    ∙ ap (λ (z : List ℕ). z ++ further) (sym (doubled-append quote (body ++ piece) (quote ∷ [])))
    ∙ ap (λ (z : List ℕ). with_quotes_doubled quote z ++ further) (sym e)

holds_quote : (quote : ℕ) (xs rest : List ℕ) → HasNo quote (xs ++ (quote ∷ rest)) → ⊥
holds_quote quote [] rest none = none 0 (omega arith) refl
holds_quote quote (x ∷ xs) rest none = holds_quote quote xs rest (λ i lt e. none (suc i) (omega arith) e)

without_end : (quote : ℕ) (body left name rest : List ℕ) → with_quotes_doubled quote body ++ left
    ≡ with_quotes_doubled quote name ++ (quote ∷ rest) → StopsBefore (λ b. nat_eq b quote) rest → HasNo quote left → ⊥
without_end quote [] left name rest e stops none = holds_quote quote (with_quotes_doubled quote name) rest (subst (HasNo quote) e none)
without_end quote (c ∷ body) left [] rest e stops none = closes_at_once quote c body rest left (sym e) stops
without_end quote (c ∷ body) left (d ∷ name) rest e stops none =
    without_end quote body left name rest (peel quote c d body name left (quote ∷ rest) e).1 stops none

-- no quote is left that could close
pub stays_open : (quote : ℕ) (text body left : List ℕ) → text ≡ with_quotes_doubled quote body ++ left → HasNo quote left
    → (name rest : List ℕ) → Quoted quote text name rest → ⊥
stays_open quote text body left so_far none name rest q = without_end quote body left name rest (sym so_far ∙ q.spelled) q.closed none

-- a text that begins with no quote
pub stops_without : (quote : ℕ) (xs : List ℕ) → ((rest : List ℕ) → xs ≡ quote ∷ rest → ⊥) → StopsBefore (λ b. nat_eq b quote) xs
stops_without quote [] none = tt
stops_without quote (x ∷ xs) none = differs quote x (λ e. none xs (ap (λ (z : ℕ). z ∷ xs) e))
