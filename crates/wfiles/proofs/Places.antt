-- Where the file of a path stands.
use Rattle.std.proofs.Common.{◌≡◌, ◌≢◌, ◌∙◌, refl, sym, ap, arith, ℕ, suc, ◌+◌, ◌<◌, ◌≤◌, List, [], ◌∷◌, ◌++◌}
use Rattle.std.proofs.Common.{length, get_or, take, drop, Option, None, Some, MatchOption, option_map, Bor, ne_eqb, take-append-drop}
use Rattle.std.specs.Str.Pattern.{RFindsChar}
use Rattle.std.proofs.lemmas.Bool.{cond-false}
use Rattle.std.proofs.lemmas.Str.Pattern.{NoCharPasses-char, drop_at_char}
use Rattle.wfiles.specs.Place.{parts_by, parts_of}

-- no byte is a /
abbrev Lacks : List ℕ → Type 0
Lacks text = (i : ℕ) → i < length text → get_or text i 0 ≢ 47

-- then there are no parts
unparted : (text : List ℕ) → Lacks text → parts_of text ≡ None
unparted [] lacks = refl
unparted (b ∷ bs) lacks = ap (parts_by b bs) (unparted bs (λ i l. lacks (suc i) (omega arith)))
    ∙ cond-false _ _ _ (ne_eqb b 47 (lacks 0 (omega arith)))

-- the last / parts it
parted : (front name : List ℕ) → Lacks name → parts_of (front ++ 47 ∷ name) ≡ Some (front, name)
parted [] name lacks = ap (parts_by 47 name) (unparted name lacks)
parted (b ∷ bs) name lacks = ap (parts_by b (bs ++ 47 ∷ name)) (parted bs name lacks)

-- what `rsplit_once` finds at a / are the parts
pub split_is : (text : List ℕ) (r : Option (Bor (List ℕ) × Bor (List ℕ)))
    → MatchOption r (RFindsChar 47 text None) (λ x. (i : ℕ) × (j : ℕ) × RFindsChar 47 text (Some (i, j)) × (x.0.now ≡ take i text)
    × (x.1.now ≡ drop j text) × (i ≤ j) × (length x.0.now ≡ i) × (length x.1.now + j ≡ length text))
    → parts_of text ≡ option_map (λ x. (x.0.now, x.1.now)) r
split_is text None none = unparted text (λ i. NoCharPasses-char 47 text i none (omega arith))
split_is text (Some x) found =
    let lacks : Lacks x.1.now = λ i. NoCharPasses-char 47 x.1.now i (rw found.4 found.2.0) (omega arith) in
    let is : text ≡ x.0.now ++ 47 ∷ x.1.now = sym (take-append-drop found.0 text)
    ∙ (λ k. sym found.3 k ++ (drop_at_char 47 text found.0 found.1 found.2.1 (omega arith) ∙ ap (λ l. 47 ∷ l) (sym found.4)) k) in
    ap parts_of is ∙ parted x.0.now x.1.now lacks
