-- Each token settles the pairs further.
use Rattle.std.proofs.Common.{◌≡◌, refl, sym, ap, ◌∙◌, subst, ℕ, zero, suc, ◌+◌, ◌<◌, ◌≤◌, List, []}
use Rattle.std.proofs.Common.{◌∷◌, ◌++◌, length, set, take, drop, take_all, reverse, get_or, length-set, length-append, arith}
use Rattle.std.proofs.Common.{Option, Some, None}
use Rattle.std.proofs.lemmas.List.{append_assoc, append-nil, drop_all, reverse-append, set-append_left}
use Rattle.std.proofs.lemmas.Grind.{common_steps, take-set_at}
use Rattle.wlexer.specs.declared.token.Token.{Token}
use Rattle.wlexer.specs.Token.{meaning_of}
use Rattle.wclauses.specs.declared.pairs.Opened.{Opened}
use Rattle.wclauses.specs.declared.pairs.Pair.{Pair}
use Rattle.wclauses.specs.declared.pairs.Sign.{Sign}
use Rattle.wclauses.specs.declared.pairs.Sign.TheVariants.{Opens, Closes, Parts, Other}
use Rattle.wclauses.specs.Pairs.{closing, alone, or_alone, pairs_from, sign_of, signs}
use Rattle.wclauses.specs.Settling.{filled, fills, settled, closed, outside, parted, AreBefore}
use Rattle.wclauses.specs.Tokens.{next}

pub fills_opens : (os : List Opened) (d n : ℕ) (rest : List Sign) (ps : List Pair)
    → fills os d n (Opens ∷ rest) ps ≡ fills os (suc d) (n + 1) rest ps
fills_opens [] d n rest ps = refl
fills_opens (o ∷ os) d n rest ps = fills_opens os (suc d) n rest (filled o.open (closing rest (suc d) o.commas (n + 1)) ps)

pub fills_closes : (os : List Opened) (d n : ℕ) (rest : List Sign) (ps : List Pair)
    → fills os (suc d) n (Closes ∷ rest) ps ≡ fills os d (n + 1) rest ps
fills_closes [] d n rest ps = refl
fills_closes (o ∷ os) d n rest ps = fills_closes os (suc d) n rest (filled o.open (closing rest d o.commas (n + 1)) ps)

pub fills_parts : (os : List Opened) (d n : ℕ) (rest : List Sign) (ps : List Pair)
    → fills os (suc d) n (Parts ∷ rest) ps ≡ fills os (suc d) (n + 1) rest ps
fills_parts [] d n rest ps = refl
fills_parts (o ∷ os) d n rest ps = fills_parts os (suc d) n rest (filled o.open (closing rest (suc d) o.commas (n + 1)) ps)

pub fills_other : (os : List Opened) (d n : ℕ) (rest : List Sign) (ps : List Pair)
    → fills os d n (Other ∷ rest) ps ≡ fills os d (n + 1) rest ps
fills_other [] d n rest ps = refl
fills_other (o ∷ os) d n rest ps = fills_other os (suc d) n rest (filled o.open (closing rest d o.commas (n + 1)) ps)

-- behind the last token nothing is closed any more
pub fills_end : (os : List Opened) (d n : ℕ) (ps : List Pair) → fills os d n [] ps ≡ ps
fills_end [] d n ps = refl
fills_end (o ∷ os) d n ps = fills_end os (suc d) n ps

pub ended : (ps : List Pair) (os : List Opened) (n : ℕ) → settled ps os n [] ≡ ps
ended ps os n = fills_end os zero n (ps ++ []) ∙ append-nil ps

pub before_more : (os : List Opened) (m n : ℕ) → m ≤ n → AreBefore m os → AreBefore n os
before_more [] m n le h = tt
before_more (o ∷ os) m n le h = let first : o.open < m = h.0 in (omega arith, before_more os m n le h.1)

-- ---- the pairs that are open

pub reverse_push : (os : List Opened) (o : Opened) → reverse (os ++ o ∷ []) ≡ o ∷ reverse os
reverse_push os o = reverse-append os (o ∷ [])

last_set : (os : List Opened) (k : ℕ) (o : Opened) → k + 1 ≡ length os → set os k o ≡ take k os ++ o ∷ []
last_set os k o e =
    let all : length (set os k o) ≤ k + 1 = let same : length (set os k o) ≡ length os = length-set os k o in omega (arith, same, e) in
    sym (take_all (k + 1) (set os k o) all) ∙ take-set_at os k (k + 1) o refl (omega (arith, e))

last_kept : (os : List Opened) (k : ℕ) (o : Opened) → k + 1 ≡ length os → o ≡ get_or os k o → os ≡ take k os ++ o ∷ []
last_kept os k o e is =
    let within : k < length os = omega (arith, e) in
    let kept : set os k o ≡ os = grind (arith, common_steps, is, within) in
    sym kept ∙ last_set os k o e

pub parted_last : (os : List Opened) (k commas : ℕ) (o : Opened) → k + 1 ≡ length os → o ≡ get_or os k o → commas ≡ next o.commas
    → reverse (set os k (record { «open» = o.open; commas = commas })) ≡ parted (reverse os)
parted_last os k commas o e is more =
    let after : Opened = record { «open» = o.open; commas = commas } in
    let new : reverse (set os k after) ≡ after ∷ reverse (take k os) = ap reverse (last_set os k after e)
    ∙ reverse_push (take k os) after in
    let old : reverse os ≡ o ∷ reverse (take k os) = ap reverse (last_kept os k o e is) ∙ reverse_push (take k os) o in
    new ∙ ap (λ (m : ℕ). record { «open» = o.open; commas = m } ∷ reverse (take k os)) more ∙ sym (ap parted old)

-- ---- a token more

pub before_opens : (n : ℕ) (os : List Opened) → AreBefore n os → AreBefore (n + 1) (record { «open» = n; commas = 0 } ∷ os)
before_opens n os h = (omega arith, before_more os n (n + 1) (omega arith) h)

pub before_outside : (n : ℕ) (os : List Opened) → AreBefore n os → AreBefore (n + 1) (outside os)
before_outside n [] h = tt
before_outside n (o ∷ os) h = before_more os n (n + 1) (omega arith) h.1

pub before_parted : (n : ℕ) (os : List Opened) → AreBefore n os → AreBefore (n + 1) (parted os)
before_parted n [] h = tt
before_parted n (o ∷ os) h = let first : o.open < n = h.0 in (omega arith, before_more os n (n + 1) (omega arith) h.1)

pub length_closed : (os : List Opened) (n : ℕ) (ps : List Pair) → length (closed os n ps) ≡ length ps
length_closed [] n ps = refl
length_closed (o ∷ os) n ps = length-set ps o.open (record { close = n; commas = o.commas })

set_seam : (ps : List Pair) (old new : Pair) (rest : List Pair) → set (ps ++ old ∷ rest) (length ps) new ≡ ps ++ new ∷ rest
set_seam [] old new rest = refl
set_seam (p ∷ ps) old new rest = ap (λ (qs : List Pair). p ∷ qs) (set_seam ps old new rest)

opens_at : (ps : List Pair) (n : ℕ) (q : Option Pair) (rest : List Pair) → length ps ≡ n
    → filled n q (ps ++ alone n ∷ rest) ≡ ps ++ or_alone n q ∷ rest
opens_at ps n None rest e = refl
opens_at ps n (Some pair) rest e = subst (λ (m : ℕ). set (ps ++ alone n ∷ rest) m pair ≡ ps ++ pair ∷ rest) e
    (set_seam ps (alone n) pair rest)

pushed : (ps : List Pair) (p : Pair) (rest : List Pair) → (ps ++ p ∷ []) ++ rest ≡ ps ++ p ∷ rest
pushed ps p rest = append_assoc ps (p ∷ []) rest

pub settled_opens : (ps : List Pair) (os : List Opened) (n : ℕ) (rest : List Sign) → length ps ≡ n
    → settled (ps ++ alone n ∷ []) (record { «open» = n; commas = 0 } ∷ os) (n + 1) rest ≡ settled ps os n (Opens ∷ rest)
settled_opens ps os n rest e =
    let all = pairs_from (n + 1) rest in
    let q = closing rest zero 0 (n + 1) in
    ap (λ (qs : List Pair). fills os (suc zero) (n + 1) rest (filled n q qs)) (pushed ps (alone n) all)
    ∙ ap (fills os (suc zero) (n + 1) rest) (opens_at ps n q all e)
    ∙ sym (fills_opens os zero n rest (ps ++ or_alone n q ∷ all))

pub settled_closes : (ps : List Pair) (os : List Opened) (n : ℕ) (rest : List Sign) → length ps ≡ n → AreBefore n os
    → settled (closed os n (ps ++ alone n ∷ [])) (outside os) (n + 1) rest ≡ settled ps os n (Closes ∷ rest)
settled_closes ps [] n rest e h = pushed ps (alone n) (pairs_from (n + 1) rest)
settled_closes ps (o ∷ os) n rest e h =
    let all = pairs_from (n + 1) rest in
    let pair : Pair = record { close = n; commas = o.commas } in
    let within : o.open < length (ps ++ alone n ∷ []) =
    let first : o.open < n = h.0 in
    let long : length (ps ++ alone n ∷ []) ≡ length ps + 1 = length-append ps (alone n ∷ []) in omega (arith, first, long, e) in
    ap (fills os zero (n + 1) rest) (sym (set-append_left (ps ++ alone n ∷ []) all o.open pair within)
    ∙ ap (λ (qs : List Pair). set qs o.open pair) (pushed ps (alone n) all))
    ∙ sym (fills_closes os zero n rest (set (ps ++ alone n ∷ all) o.open pair))

pub settled_parts : (ps : List Pair) (os : List Opened) (n : ℕ) (rest : List Sign)
    → settled (ps ++ alone n ∷ []) (parted os) (n + 1) rest ≡ settled ps os n (Parts ∷ rest)
settled_parts ps [] n rest = pushed ps (alone n) (pairs_from (n + 1) rest)
settled_parts ps (o ∷ os) n rest =
    let all = pairs_from (n + 1) rest in
    let q = closing rest zero (next o.commas) (n + 1) in
    ap (λ (qs : List Pair). fills os (suc zero) (n + 1) rest (filled o.open q qs)) (pushed ps (alone n) all)
    ∙ sym (fills_parts os zero n rest (filled o.open q (ps ++ alone n ∷ all)))

pub settled_other : (ps : List Pair) (os : List Opened) (n : ℕ) (rest : List Sign)
    → settled (ps ++ alone n ∷ []) os (n + 1) rest ≡ settled ps os n (Other ∷ rest)
settled_other ps os n rest =
    ap (fills os zero (n + 1) rest) (pushed ps (alone n) (pairs_from (n + 1) rest))
    ∙ sym (fills_other os zero n rest (ps ++ alone n ∷ pairs_from (n + 1) rest))

-- ---- all tokens

-- behind the last token
pub settled_all : (ts : List Token) (n : ℕ) (ps all : List Pair) (os : List Opened) → length ts ≤ n
    → settled ps os n (signs (drop n ts)) ≡ all → ps ≡ all
settled_all ts n ps all os past h =
    let none : drop n ts ≡ [] = drop_all n ts past in
    sym (ended ps os n) ∙ sym (ap (λ (us : List Token). settled ps os n (signs us)) none) ∙ h

-- one token further
pub settled_next : (ts : List Token) (n : ℕ) (t : Token) (ps qs all : List Pair) (os us : List Opened) → n < length ts → t ≡ get_or ts n t
    → ((rest : List Sign) → settled qs us (n + 1) rest ≡ settled ps os n (sign_of (meaning_of t) ∷ rest))
    → settled ps os n (signs (drop n ts)) ≡ all → settled qs us (n + 1) (signs (drop (n + 1) ts)) ≡ all
settled_next ts n t ps qs all os us within is step h =
    let here : drop n ts ≡ t ∷ drop (n + 1) ts = grind (arith, common_steps, is, within) in
    step (signs (drop (n + 1) ts)) ∙ sym (ap (λ (us : List Token). settled ps os n (signs us)) here) ∙ h
