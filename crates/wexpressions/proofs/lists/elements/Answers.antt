use Rattle.std.proofs.Common.{◌≡◌, ◌<◌, List, [], ◌∷◌, length, map, sym, subst, ap, arith}
use Rattle.std.proofs.lemmas.List.{length-map}
use Rattle.wlexer.specs.Token.{TokenMeaning, meaning_of}
use Rattle.wlexer.specs.declared.token.Token.{Token}
use Rattle.wtokens.specs.Notation.{Tokens, Row, meanings}
use Rattle.wexpressions.proofs.Steps.{Listing, listing_none, listing_more, listing_got, listing_refused, short}
use Rattle.wexpressions.proofs.Parts.{one_more}
use Rattle.wexpressions.proofs.lists.elements.Goals as goal

-- no element yet
none_yet : {A X : Type 0} {P : Row X} {ts : Tokens} (f : A → X) {new : List A} → new ≡ [] → Listing P ts (map f new) ts
none_yet {A} {X} {P} {ts} f {new} e = subst (λ (xs : List A). Listing P ts (map f xs) ts) (sym e) listing_none

-- behind a token fewer are left
fall_on : {token : TokenMeaning} (ts us vs : List Token) → meanings us ≡ token ∷ meanings vs → length us < length ts → length vs < length ts
fall_on ts us vs e lt = omega (arith, length-map us meaning_of, length-map vs meaning_of, ap length e)

pub elements-init : goal.elements-init
elements-init g c = none_yet g.E.Element.said c.new-elements.ensures.items

pub returns-in-Err : goal.returns-in-Err
returns-in-Err g c = listing_refused c.in-Err.fault (omega arith) c.elements.invariant c.in-Err.ensures.spelled

pub returns-in-None : goal.returns-in-None
returns-in-None g c = listing_got (omega arith) c.elements.invariant c.in-Ok.ensures.spelled c.in-None.ensures
    (one_more g.E.Element.said _ _ _ c.in-Ok-push.ensures.added)

pub elements-smaller : goal.elements-smaller
elements-smaller g c = fall_on _ _ _ c.in-Some.ensures c.in-Ok.ensures.shorter

pub elements-preserved : goal.elements-preserved
elements-preserved g c = listing_more (omega arith) c.elements.invariant c.in-Ok.ensures.spelled c.in-Some.ensures
    (one_more g.E.Element.said _ _ _ c.in-Ok-push.ensures.added)

pub returns-in-Err-push : goal.returns-in-Err-push
returns-in-Err-push g c = short c.in-Err-push.fault c.in-Err-push.ensures.fault
