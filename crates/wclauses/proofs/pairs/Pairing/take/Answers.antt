use Rattle.std.proofs.Common.{◌≡◌, refl, ℕ, ◌+◌, ◌∷◌, ◌++◌, [], List, length, reverse, ap, sym, ◌∙◌, subst, arith, length-append}
use Rattle.wclauses.specs.declared.pairs.Opened.{Opened}
use Rattle.wclauses.specs.declared.pairs.Pair.{Pair}
use Rattle.wclauses.specs.declared.pairs.Sign.{Sign}
use Rattle.wlexer.specs.Token.{meaning_of}
use Rattle.wclauses.specs.declared.pairs.Sign.TheVariants.{Opens, Closes, Parts, Other}
use Rattle.wclauses.specs.Pairs.{alone, sign_of}
use Rattle.wclauses.specs.Settling.{Stands, closed, outside, parted, settled}
use Rattle.wclauses.proofs.Settling.{reverse_push, before_more, before_opens, before_outside, before_parted, length_closed}
use Rattle.wclauses.proofs.Settling.{settled_opens, settled_closes, settled_parts, settled_other}
use Rattle.wclauses.proofs.pairs.Pairing.take.Goals as goal

longer : (ps : List Pair) (n : ℕ) (p : Pair) → length ps ≡ n → length (ps ++ p ∷ []) ≡ n + 1
longer ps n p e = length-append ps (p ∷ []) ∙ ap (λ (m : ℕ). m + 1) e

-- what is known behind a token, by the pairs and the list of those that are open as they stand then
stands_now : (n : ℕ) (qs rs : List Pair) (os us : List Opened) → rs ≡ qs → us ≡ os → Stands n qs os → Stands n rs us
stands_now n qs rs os us e f h = subst (λ (xs : List Pair). Stands n xs us) (sym e) (subst (λ (xs : List Opened). Stands n qs xs) (sym f) h)

settled_now : (n : ℕ) (qs rs ps : List Pair) (os us ws : List Opened) (sign told : Sign) → rs ≡ qs → us ≡ os → told ≡ sign
    → ((rest : List Sign) → settled qs os (n + 1) rest ≡ settled ps ws n (sign ∷ rest))
    → (rest : List Sign) → settled rs us (n + 1) rest ≡ settled ps ws n (told ∷ rest)
settled_now n qs rs ps os us ws sign told e f g h rest =
    ap (λ (xs : List Pair). settled xs us (n + 1) rest) e ∙ ap (λ (xs : List Opened). settled qs xs (n + 1) rest) f ∙ h rest
    ∙ ap (λ (s : Sign). settled ps ws n (s ∷ rest)) (sym g)

pub returns-in_ok-push-in-Opens-clause-stands : goal.returns-in_ok-push-in-Opens-clause-stands
returns-in_ok-push-in-Opens-clause-stands c =
    let n = c.args.number in
    let ps = c.args.self.now.pairs.items in
    let os = c.args.self.now.opened.items in
    let before : List Pair = ps ++ alone n ∷ [] in
    let new : Opened = record { «open» = n; commas = 0 } in
    stands_now (n + 1) before c.push.new.self.items (new ∷ reverse os) (reverse c.push-in-Opens.new.self.items)
    c.in_ok-push.ensures.items (ap reverse c.in_ok-push-in-Opens.ensures.items ∙ reverse_push os new)
    (longer ps n (alone n) c.requires.0, before_opens n (reverse os) c.requires.1)

pub returns-in_ok-push-in-Opens-clause-settled : goal.returns-in_ok-push-in-Opens-clause-settled
returns-in_ok-push-in-Opens-clause-settled c =
    let n = c.args.number in
    let ps = c.args.self.now.pairs.items in
    let os = c.args.self.now.opened.items in
    let before : List Pair = ps ++ alone n ∷ [] in
    let new : Opened = record { «open» = n; commas = 0 } in
    settled_now n before c.push.new.self.items ps (new ∷ reverse os) (reverse c.push-in-Opens.new.self.items) (reverse os) Opens
    (sign_of (meaning_of c.args.token.now)) c.in_ok-push.ensures.items
    (ap reverse c.in_ok-push-in-Opens.ensures.items ∙ reverse_push os new) (sym c.sign_of.ensures ∙ c.in-Opens.is)
    (λ rest. settled_opens ps (reverse os) n rest c.requires.0)

pub returns-in-Closes-clause-stands : goal.returns-in-Closes-clause-stands
returns-in-Closes-clause-stands c =
    let n = c.args.number in
    let ps = c.args.self.now.pairs.items in
    let os = c.args.self.now.opened.items in
    let before : List Pair = ps ++ alone n ∷ [] in
    let pairs : c.close.new.self.pairs.items ≡ closed (reverse os) n before =
    c.close.ensures.pairs ∙ ap (closed (reverse os) n) c.in_ok-push.ensures.items in
    stands_now (n + 1) (closed (reverse os) n before) c.close.new.self.pairs.items (outside (reverse os))
    (reverse c.close.new.self.opened.items) pairs c.close.ensures.opened
    (length_closed (reverse os) n before ∙ longer ps n (alone n) c.requires.0, before_outside n (reverse os) c.requires.1)

pub returns-in-Closes-clause-settled : goal.returns-in-Closes-clause-settled
returns-in-Closes-clause-settled c =
    let n = c.args.number in
    let ps = c.args.self.now.pairs.items in
    let os = c.args.self.now.opened.items in
    let before : List Pair = ps ++ alone n ∷ [] in
    let pairs : c.close.new.self.pairs.items ≡ closed (reverse os) n before =
    c.close.ensures.pairs ∙ ap (closed (reverse os) n) c.in_ok-push.ensures.items in
    settled_now n (closed (reverse os) n before) c.close.new.self.pairs.items ps (outside (reverse os))
    (reverse c.close.new.self.opened.items) (reverse os) Closes (sign_of (meaning_of c.args.token.now)) pairs
    c.close.ensures.opened (sym c.sign_of.ensures ∙ c.in-Closes.is)
    (λ rest. settled_closes ps (reverse os) n rest c.requires.0 c.requires.1)

pub returns-in-Parts-clause-stands : goal.returns-in-Parts-clause-stands
returns-in-Parts-clause-stands c =
    let n = c.args.number in
    let ps = c.args.self.now.pairs.items in
    let os = c.args.self.now.opened.items in
    let before : List Pair = ps ++ alone n ∷ [] in
    stands_now (n + 1) before c.part.new.self.pairs.items (parted (reverse os)) (reverse c.part.new.self.opened.items)
    (c.part.ensures.pairs ∙ c.in_ok-push.ensures.items) c.part.ensures.opened
    (longer ps n (alone n) c.requires.0, before_parted n (reverse os) c.requires.1)

pub returns-in-Parts-clause-settled : goal.returns-in-Parts-clause-settled
returns-in-Parts-clause-settled c =
    let n = c.args.number in
    let ps = c.args.self.now.pairs.items in
    let os = c.args.self.now.opened.items in
    let before : List Pair = ps ++ alone n ∷ [] in
    settled_now n before c.part.new.self.pairs.items ps (parted (reverse os)) (reverse c.part.new.self.opened.items) (reverse os)
    Parts (sign_of (meaning_of c.args.token.now)) (c.part.ensures.pairs ∙ c.in_ok-push.ensures.items) c.part.ensures.opened
    (sym c.sign_of.ensures ∙ c.in-Parts.is) (λ rest. settled_parts ps (reverse os) n rest)

pub returns-in-Other-clause-stands : goal.returns-in-Other-clause-stands
returns-in-Other-clause-stands c =
    let n = c.args.number in
    let ps = c.args.self.now.pairs.items in
    let os = c.args.self.now.opened.items in
    let before : List Pair = ps ++ alone n ∷ [] in
    stands_now (n + 1) before c.push.new.self.items (reverse os) (reverse os) c.in_ok-push.ensures.items refl
    (longer ps n (alone n) c.requires.0, before_more (reverse os) n (n + 1) (omega arith) c.requires.1)

pub returns-in-Other-clause-settled : goal.returns-in-Other-clause-settled
returns-in-Other-clause-settled c =
    let n = c.args.number in
    let ps = c.args.self.now.pairs.items in
    let os = c.args.self.now.opened.items in
    let before : List Pair = ps ++ alone n ∷ [] in
    settled_now n before c.push.new.self.items ps (reverse os) (reverse os) (reverse os) Other
    (sign_of (meaning_of c.args.token.now)) c.in_ok-push.ensures.items refl (sym c.sign_of.ensures ∙ c.in-Other.is)
    (λ rest. settled_other ps (reverse os) n rest)
