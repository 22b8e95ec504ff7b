-- The outcomes of single rows.
use Rattle.std.proofs.Common.{◌≡◌, Bool, true, false, ℕ, ◌<◌, ◌≤◌, List, [], ◌∷◌, ◌++◌, length}
use Rattle.std.proofs.Common.{map, Option, Some, None, refl, sym, ap, subst, ◌∙◌, arith}
use Rattle.std.proofs.lemmas.List.{length-map, map-append}
use Rattle.wlexer.specs.Token.{TokenMeaning, KeywordToken, NameToken, NumberToken, TextToken, SymbolToken, meaning_of}
use Rattle.wlexer.specs.declared.token.Token.{Token}
use Rattle.wlexer.specs.declared.keyword.Keyword.TheVariants as keywords
use Rattle.wlexer.specs.declared.token.Symbol.{Symbol}
use Rattle.wquery.specs.declared.expression.ChainKind.{ChainKind}
use Rattle.wquery.specs.declared.expression.ChainKind.TheVariants.{Disjunction, Conjunction, Sum, Product}
use Rattle.wquery.specs.declared.frame.FrameMode.{FrameMode}
use Rattle.wquery.specs.Tree.{Tree, KeyTree, Invoked, Given, Filter, NullWord, Numeral, Quoted, no_window, window_of, key_of}
use Rattle.wtokens.specs.Words.{OpenSign, CloseSign, name_of, number_of, text_of, mode_of, direction_of}
use Rattle.wtokens.specs.Notation.{Tokens, Row, One, After, Then, Done, Perhaps, Listed, As, Never, meanings}
use Rattle.wexpressions.specs.Grips.{grip, Stops, kind_class}
use Rattle.wexpressions.specs.Grammar.{Closed, optional_not, optional_frame, frame, partition, order, nulls_placed}
use Rattle.wexpressions.specs.Grammar.{window, window_inside, optional_over, column_or_call, grouping_call, primary}
use Rattle.wexpressions.specs.Grammar.{range_test, range_tested, compared, null_tested, inner}
use Rattle.wexpressions.specs.Finding.{Outcome, Got, Refused, Answers, IsNoTest, IsWithout}
use Rattle.wexpressions.proofs.Steps.{Leads, answers_less, got_along, grips, missing, perhaps_present, other_token, not_said}
use Rattle.wexpressions.proofs.Steps.{one_parts, never_either, never_then, never_listed, any_leads, one_then_leads, one_leads}
use Rattle.wexpressions.proofs.Steps.{then_leads, perhaps_leads, after_leads, either_leads, done_leads, as_leads, then_got}
use Rattle.wexpressions.proofs.Steps.{after_got, after_never, as_got, one_got, never_perhaps_then, perhaps_absent, either_first}
use Rattle.wexpressions.proofs.Steps.{either_second, done_got, either_same, room_agrees, closed_got}
use Rattle.wexpressions.proofs.Rows.{comparison_grip}
use Rattle.wexpressions.proofs.Fits.{Falls, inner_begins, begins_not, symbol_start}

-- tokens by what they say
name_token : (token : TokenMeaning) {x : List ℕ} → name_of token ≡ Some x → token ≡ NameToken x
name_token (NameToken n) e = cc
name_token _ e = cc

text_token : (token : TokenMeaning) {x : List ℕ} → text_of token ≡ Some x → token ≡ TextToken x
text_token (TextToken n) e = cc
text_token _ e = cc

number_token : (token : TokenMeaning) {x : ℕ} → number_of token ≡ Some x → token ≡ NumberToken x
number_token (NumberToken n) e = cc
number_token _ e = cc

token_along : {token token' : TokenMeaning} {ts us : Tokens} → ts ≡ token ∷ us → token ≡ token' → ts ≡ token' ∷ us
token_along {us = us} e f = e ∙ ap (λ (t : TokenMeaning). t ∷ us) f

pub name_here : {x : List ℕ} {ts us : Tokens} → One name_of x ts us → ts ≡ NameToken x ∷ us
name_here p = let e = one_parts p in token_along e.1 (name_token e.0 e.2)

pub text_here : {x : List ℕ} {ts us : Tokens} → One text_of x ts us → ts ≡ TextToken x ∷ us
text_here p = let e = one_parts p in token_along e.1 (text_token e.0 e.2)

pub number_here : {x : ℕ} {ts us : Tokens} → One number_of x ts us → ts ≡ NumberToken x ∷ us
number_here p = let e = one_parts p in token_along e.1 (number_token e.0 e.2)

pub direction_grip : (token : TokenMeaning) (x : Bool) → direction_of token ≡ Some x → grip token ≡ 16
direction_grip (KeywordToken keywords.Asc) x e = refl
direction_grip (KeywordToken keywords.Desc) x e = refl
direction_grip _ x e = cc

pub mode_grip : (token : TokenMeaning) (x : FrameMode) → mode_of token ≡ Some x → grip token ≡ 4
mode_grip (KeywordToken keywords.Rows) x e = refl
mode_grip (KeywordToken keywords.Range) x e = refl
mode_grip (KeywordToken keywords.Groups) x e = refl
mode_grip _ x e = cc

pub name_grip : (token : TokenMeaning) (x : List ℕ) → name_of token ≡ Some x → grip token ≡ 14
name_grip (NameToken n) x e = refl
name_grip _ x e = cc

-- tokens that go on
pub one_grips : {X : Type 0} {says : TokenMeaning → Option X} {k : ℕ} {x : X} {ts us : Tokens}
    → ((token : TokenMeaning) (y : X) → says token ≡ Some y → grip token ≡ k) → One says x ts us → Stops k ts → ⊥
one_grips {x = x} g p = let e = one_parts p in let q = g e.0 x e.2 in grips e.1 (omega arith)

-- what a row leaves to what stands before it
pub null_tested_leads : {e : Tree} → Leads (null_tested e) 22 23
null_tested_leads = perhaps_leads (omega arith) (after_leads (omega arith))

pub compared_leads : {R : Row Tree} {l : Tree} → Leads (compared R l) 23 24
compared_leads = perhaps_leads (omega arith) (one_then_leads (λ token x e. let q = comparison_grip token x e in omega arith))

pub test_leads : {A U : Row Tree} {e : Tree} {negated : Bool} → Leads (range_test A U e negated) 24 25
test_leads = either_leads (after_leads (omega arith)) (after_leads (omega arith))

pub perhaps_not_leads : {k : ℕ} → k ≤ 26 → Leads optional_not k 26
perhaps_not_leads le = perhaps_leads le (after_leads (omega arith))

pub tested_leads : {A U : Row Tree} {e : Tree} → Leads (range_tested A U e) 24 26
tested_leads = perhaps_leads (omega arith) (then_leads (λ n. test_leads) (perhaps_not_leads (omega arith)))

pub no_test : {A U : Row Tree} {e : Tree} {ts : Tokens} → IsNoTest ts → Never (Then optional_not (range_test A U e)) ts
no_test g = never_perhaps_then (after_never (λ us. (g us).0)) (λ b. never_either (after_never (λ us. (g us).1))
    (after_never (λ us. (g us).2)))

pub reaching_leads : {n : ℕ} {C : Row Tree} → Leads (optional_over n C) 28 29
reaching_leads = perhaps_leads (omega arith) (after_leads (omega arith))

pub nulls_leads : Leads nulls_placed 15 16
nulls_leads = perhaps_leads (omega arith) (as_leads (after_leads (omega arith)))

pub descending_leads : Leads (Perhaps false (One direction_of)) 16 20
descending_leads = perhaps_leads (omega arith) (one_leads (λ token x e. let q = direction_grip token x e in omega arith))

pub frame_leads : Leads optional_frame 3 5
frame_leads = perhaps_leads (omega arith) (as_leads (one_then_leads (λ token x e. let q = mode_grip token x e in omega arith)))

pub order_leads : {C : Row Tree} → Leads (order C) 5 6
order_leads = perhaps_leads (omega arith) (after_leads (omega arith))

pub partition_leads : {C : Row Tree} → Leads (partition C) 6 14
partition_leads = perhaps_leads (omega arith) (after_leads (omega arith))

-- primaries, by their first token
pub primary_number : {n : ℕ} {C : Row Tree} {x : ℕ} {ts us : Tokens} → One number_of x ts us
    → Answers (primary n C) 28 ts (Got (Numeral x) us)
primary_number p =
    let e = number_here p in
    either_first (never_either (never_then (not_said e refl)) (never_either (other_token e (λ q. cc))
    (never_either (never_then (not_said e refl)) (never_either (other_token e (λ q. cc)) (other_token e (λ q. cc))))))
    (as_got (one_got p))

pub primary_text : {n : ℕ} {C : Row Tree} {x : List ℕ} {ts us : Tokens} → One text_of x ts us
    → Answers (primary n C) 28 ts (Got (Quoted x) us)
primary_text p =
    let e = text_here p in
    either_second (never_then (not_said e refl))
    (either_first (never_either (other_token e (λ q. cc)) (never_either (never_then (not_said e refl))
    (never_either (other_token e (λ q. cc)) (other_token e (λ q. cc)))))
    (as_got (one_got p)))

pub primary_null : {n : ℕ} {C : Row Tree} {ts us : Tokens} → ts ≡ KeywordToken keywords.Null ∷ us
    → Answers (primary n C) 28 ts (Got NullWord us)
primary_null e =
    either_second (never_then (not_said e refl)) (either_second (never_then (not_said e refl))
    (either_first (never_either (never_then (not_said e refl)) (never_either (other_token e (λ q. cc)) (other_token e (λ q. cc))))
    (after_got e done_got)))

pub primary_name : {n : ℕ} {C : Row Tree} {x : List ℕ} {ts us : Tokens} {o : Outcome Tree} → One name_of x ts us
    → Answers (column_or_call n C x) 28 us o → Answers (primary n C) 28 ts o
primary_name p a =
    let e = name_here p in
    either_second (never_then (not_said e refl)) (either_second (never_then (not_said e refl))
    (either_second (other_token e (λ q. cc)) (either_first (never_either (other_token e (λ q. cc)) (other_token e (λ q. cc)))
    (then_got {j = 31} (λ x. any_leads) (one_got p) a))))

pub primary_open : {n : ℕ} {C : Row Tree} {ts us : Tokens} {o : Outcome Tree} → ts ≡ OpenSign ∷ us
    → Answers (Closed C) 31 us o → Answers (primary n C) 28 ts o
primary_open e a =
    either_second (never_then (not_said e refl)) (either_second (never_then (not_said e refl))
    (either_second (other_token e (λ q. cc)) (either_second (never_then (not_said e refl)) (either_second (other_token e (λ q. cc))
    (after_got e (answers_less (omega arith) a))))))

pub primary_grouping : {n : ℕ} {C : Row Tree} {ts us : Tokens} {o : Outcome Tree} → ts ≡ KeywordToken keywords.Grouping ∷ us
    → Answers (grouping_call n) 28 us o → Answers (primary n C) 28 ts o
primary_grouping e a =
    either_second (never_then (not_said e refl)) (either_second (never_then (not_said e refl))
    (either_second (other_token e (λ q. cc)) (either_second (never_then (not_said e refl)) (either_first (other_token e (λ q. cc))
    (after_got e a)))))

pub primary_none : {n : ℕ} {C : Row Tree} {k : ℕ} {ts : Tokens} → Never (One number_of) ts → Never (One text_of) ts
    → ((us : Tokens) → ts ≡ KeywordToken keywords.Null ∷ us → ⊥) → Never (One name_of) ts
    → ((us : Tokens) → ts ≡ KeywordToken keywords.Grouping ∷ us → ⊥) → ((us : Tokens) → ts ≡ OpenSign ∷ us → ⊥)
    → Answers (primary n C) k ts Refused
primary_none a b c d g e = missing (never_either (never_then a)
    (never_either (never_then b) (never_either (after_never c)
    (never_either (never_then d) (never_either (after_never g) (after_never e))))))

-- a window that says nothing
no_frame : {token : TokenMeaning} {ts us : Tokens} → ts ≡ token ∷ us → mode_of token ≡ None → Never (As Some frame) ts
no_frame e f = never_then (never_then (not_said e f))

pub window_absent : {C : Row Tree} {ts us : Tokens} → ts ≡ CloseSign ∷ us → Answers (window C) 3 ts (Got no_window ts)
window_absent e =
    then_got {j = 14} (λ x. then_leads (λ p. then_leads (λ o. then_leads (λ f. done_leads (omega arith)) frame_leads)
    order_leads) partition_leads) (perhaps_absent (never_then (not_said e refl)))
    (then_got {j = 6} (λ x. then_leads (λ o. then_leads (λ f. done_leads (omega arith)) frame_leads) order_leads)
    (perhaps_absent (other_token e (λ q. cc)))
    (then_got {j = 5} (λ x. then_leads (λ f. done_leads (omega arith)) frame_leads) (perhaps_absent (other_token e (λ q. cc)))
    (then_got {j = 3} (λ x. done_leads (omega arith)) (perhaps_absent (no_frame e refl)) done_got)))

pub window_empty : {n : ℕ} {C : Row Tree} {ts us : Tokens} → ts ≡ CloseSign ∷ us → Answers (window_inside n C) 31 ts (Got no_window us)
window_empty e = either_same (after_got e done_got) (room_agrees (closed_got (omega arith) (window_absent e) e))

-- lists of arguments do not begin so
pub no_list : {X : Type 0} (n : ℕ) {f : List Tree → X} {s : Symbol} {ts us : Tokens} → ts ≡ SymbolToken s ∷ us
    → symbol_start s < 1 → Never (As f (Closed (Listed (inner n)))) ts
no_list n e lt = never_then (never_then (never_listed (begins_not (inner_begins n) e lt)))

-- a loop ends
pub meanings_fall : {token : TokenMeaning} (ts us vs : List Token) → meanings ts ≡ token ∷ meanings us
    → length (meanings vs) < length (meanings us) → length vs < length ts
meanings_fall ts us vs e lt = omega (arith, length-map ts meaning_of, length-map us meaning_of, length-map vs meaning_of, ap length e)

pub window_leads_parts : {C : Row Tree} {copied : Option (List ℕ)}
    → Leads (Then (partition C) (λ p. Then (order C) (λ o. Then optional_frame (λ f. Done (window_of copied p o f))))) 3 14
window_leads_parts = then_leads (λ p. then_leads (λ o. then_leads (λ f. done_leads (omega arith)) frame_leads) order_leads) partition_leads

pub window_leads_order : {C : Row Tree} {copied : Option (List ℕ)} {p : List Tree}
    → Leads (Then (order C) (λ o. Then optional_frame (λ f. Done (window_of copied p o f)))) 3 6
window_leads_order = then_leads (λ o. then_leads (λ f. done_leads (omega arith)) frame_leads) order_leads

pub window_leads_frame : {copied : Option (List ℕ)} {p : List Tree} {o : List KeyTree}
    → Leads (Then optional_frame (λ f. Done (window_of copied p o f))) 3 5
window_leads_frame = then_leads (λ f. done_leads (omega arith)) frame_leads

pub key_leads : {e : Tree} → Leads (Then (Perhaps false (One direction_of)) (λ d. Then nulls_placed (λ n. Done (key_of e d n)))) 15 20
key_leads = then_leads (λ d. then_leads (λ n. done_leads (omega arith)) nulls_leads) descending_leads

pub key_leads_nulls : {e : Tree} {d : Bool} → Leads (Then nulls_placed (λ n. Done (key_of e d n))) 15 16
key_leads_nulls = then_leads (λ n. done_leads (omega arith)) nulls_leads

pub call_leads : {n : ℕ} {C : Row Tree} {name : List ℕ} {given : Given} {f : Filter}
    → Leads (Then (optional_over n C) (λ r. Done (Invoked name given f r))) 28 29
call_leads = then_leads (λ r. done_leads (omega arith)) reaching_leads

pub kind_above : (kind : ChainKind) → 12 < kind_class kind
kind_above Disjunction = omega arith
kind_above Conjunction = omega arith
kind_above Sum = omega arith
kind_above Product = omega arith

-- the same, by the bytes of a copy
pub primary_name_copied : {n : ℕ} {C : Row Tree} {x x' : List ℕ} {ts us : Tokens} {o : Outcome Tree} → One name_of x ts us
    → x' ≡ x → Answers (column_or_call n C x') 28 us o → Answers (primary n C) 28 ts o
primary_name_copied {n = n} {C = C} {us = us} {o = o} p e a =
    primary_name p (subst (λ (y : List ℕ). Answers (column_or_call n C y) 28 us o) e a)

pub meanings_fall_on : {token : TokenMeaning} (ts us vs : List Token) → meanings us ≡ token ∷ meanings vs
    → length (meanings us) < length (meanings ts) → length vs < length ts
meanings_fall_on ts us vs e lt = omega (arith, length-map ts meaning_of, length-map us meaning_of, length-map vs meaning_of, ap length e)

pub takes_tokens : {X : Type 0} {P : Row X} {x : X} (ts us : List Token) → Falls P → P x (meanings ts) (meanings us) → length us < length ts
takes_tokens {x = x} ts us f p = let lt = f.falls x (meanings ts) (meanings us) p in
    omega (arith, length-map ts meaning_of, length-map us meaning_of)

pub window_along : {p p' : List Tree} {o o' : List KeyTree} → p ≡ p' → o ≡ o' → window_of None p o None ≡ window_of None p' o' None
window_along {p' = p'} {o = o} e f = ap (λ (x : List Tree). window_of None x o None) e
    ∙ ap (λ (x : List KeyTree). window_of None p' x None) f

-- one more at the end
pub one_more : {A X : Type 0} (f : A → X) (xs new : List A) (x : A) → new ≡ xs ++ (x ∷ []) → map f new ≡ map f xs ++ (f x ∷ [])
one_more f xs new x e = ap (map f) e ∙ map-append f xs (x ∷ [])

-- an optional token, by whether it came
pub optional_answers : {k : ℕ} {token : TokenMeaning} {ts rest : Tokens} (here : Bool) → k ≤ grip token
    → (here ≡ true → ts ≡ token ∷ rest) → (here ≡ false → IsWithout token ts rest)
    → Answers (Perhaps false (After token (Done true))) k ts (Got here rest)
optional_answers true le f g = perhaps_present (grips (f refl) le) (after_got (f refl) done_got)
optional_answers false le f g = let w = g refl in got_along refl (sym w.1) (perhaps_absent (after_never w.0))
