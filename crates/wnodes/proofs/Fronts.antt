-- Operators in memory, compared from the first on.
use Rattle.std.proofs.Common.{◌≡◌, ℕ, suc, ◌+◌, Bool, true, false, ◌&&◌, List, [], ◌∷◌, length, refl, sym, ap, ◌∙◌, arith}
use Rattle.wquery.specs.Tree.{Branch, Links, NoLinks, Further, linked}
use Rattle.wnodes.specs.Sameness.{are_same_links}
use Rattle.wnodes.specs.Heads.{bare_links, is_same_mark}

pub and_first : (a b : Bool) → a ≡ false → (a && b) ≡ false
and_first a b e = rw e refl

pub and_true : (a : Bool) → (a && true) ≡ a
and_true true = refl
and_true false = refl

pub and_false : (a : Bool) → (a && false) ≡ false
and_false true = refl
and_false false = refl

abbrev pub same_marks : List Branch → List Branch → Bool
same_marks [] [] = true
same_marks (x ∷ xs) (y ∷ ys) = is_same_mark x y && same_marks xs ys
same_marks _ _ = false

abbrev count_links : Links → ℕ
count_links NoLinks = 0
count_links (Further front operator t) = suc (count_links front)

count_linked : (f : Links) (bs : List Branch) → count_links (linked f bs) ≡ count_links f + length bs
count_linked f [] = omega arith
count_linked f (b ∷ bs) = rw (count_linked (Further f b.operator b.operand) bs) (omega arith)

other_count : (f g : Links) → (count_links f ≡ count_links g → ⊥) → are_same_links (bare_links f) (bare_links g) ≡ false
other_count NoLinks NoLinks h = absurd (h refl)
other_count NoLinks (Further g b u) h = refl
other_count (Further f a t) NoLinks h = refl
other_count (Further f a t) (Further g b u) h = and_first _ _ (other_count f g (λ e. h (ap suc e)))

step : (l m s : Bool) → ((l && (m && true)) && s) ≡ (l && (m && s))
step true true s = refl
step true false s = refl
step false m s = refl

same_linked : (f g : Links) (xs ys : List Branch) → count_links f ≡ count_links g
    → are_same_links (bare_links (linked f xs)) (bare_links (linked g ys))
    ≡ (are_same_links (bare_links f) (bare_links g) && same_marks xs ys)
same_linked f g [] [] e = sym (and_true (are_same_links (bare_links f) (bare_links g)))
same_linked f g [] (y ∷ ys) e = other_count f (linked (Further g y.operator y.operand) ys)
    (λ h. let k : count_links (linked (Further g y.operator y.operand) ys) ≡ suc (count_links g) + length ys =
    count_linked (Further g y.operator y.operand) ys in absurd (omega arith))
    ∙ sym (and_false (are_same_links (bare_links f) (bare_links g)))
same_linked f g (x ∷ xs) [] e = other_count (linked (Further f x.operator x.operand) xs) g
    (λ h. let k : count_links (linked (Further f x.operator x.operand) xs) ≡ suc (count_links f) + length xs =
    count_linked (Further f x.operator x.operand) xs in absurd (omega arith))
    ∙ sym (and_false (are_same_links (bare_links f) (bare_links g)))
same_linked f g (x ∷ xs) (y ∷ ys) e = same_linked (Further f x.operator x.operand) (Further g y.operator y.operand) xs ys
    (ap suc e) ∙ step (are_same_links (bare_links f) (bare_links g)) (is_same_mark x y) (same_marks xs ys)

pub marks_from_front : (xs ys : List Branch)
    → are_same_links (bare_links (linked NoLinks xs)) (bare_links (linked NoLinks ys)) ≡ same_marks xs ys
marks_from_front xs ys = same_linked NoLinks NoLinks xs ys refl
