-- The levels of a tree, one after another.
use Rattle.std.proofs.Common.{◌≡◌, ℕ, ◌+◌, ◌-◌, ◌*◌, ◌/◌, ◌%◌, ◌^◌, ◌<◌, ◌≤◌, List, [], ◌∷◌, ◌++◌}
use Rattle.std.proofs.Common.{length, take, drop, sym, ap, ◌∙◌, refl, arith, subst, inl, inr}
use Rattle.std.specs.Prelude.{slice_range, All}
use Rattle.std.specs.declared.vec.Vec.{Vec}
use Rattle.std.specs.declared.alloc.Global.{Global}
use Rattle.std.proofs.lemmas.Grind.{pow_more}
use Rattle.std.proofs.Math.Nat.{mul-le-mul_left, eq-zero-or-pos}
use Rattle.std.proofs.lemmas.List.Elements.{recursion_from_All, All-from_recursion}
use Rattle.wslide.specs.Laws.{FoldLaws, total}
use Rattle.wslide.specs.Tree.{paired, lowest, Climbs}
use Rattle.wslide.proofs.Heights.{exponent_le}
use Rattle.wslide.proofs.Levels.{total-halved, total_range_is, paired_is}

module _ {P : Type 0} (joined : P → P → P) where
  -- one level more at the top
  pub climb_more : (base : List P) (levels : List (Vec P Global)) (level : Vec P Global) (next : List P)
      → Climbs joined base levels level.items → next ≡ paired joined level.items → Climbs joined base (levels ++ level ∷ []) next
  climb_more base [] level next h e = (sym h, ap (paired joined) h ∙ sym e)
  climb_more base (l ∷ ls) level next h e = (h.0, climb_more (paired joined base) ls level next h.1 e)

  -- the lowest level is the base
  pub lowest_is : (base top : List P) (levels : List (Vec P Global)) (level : Vec P Global)
      → Climbs joined base (levels ++ level ∷ []) top → lowest (levels ++ level ∷ []) ≡ base
  lowest_is base top [] level h = h.0
  lowest_is base top (l ∷ ls) level h = h.0

  -- what stands above a level has its pairs
  pub next_is : (level : Vec P Global) (rest : List (Vec P Global)) → Climbs joined level.items (level ∷ rest) []
      → lowest rest ≡ paired joined level.items
  next_is level [] h = sym h.1
  next_is level (m ∷ ms) h = h.1.0

  pub next_climbs : (level : Vec P Global) (rest : List (Vec P Global)) → Climbs joined level.items (level ∷ rest) []
      → Climbs joined (lowest rest) rest []
  next_climbs level [] h = refl
  next_climbs level (m ∷ ms) h = (refl, subst (λ base. Climbs joined (paired joined base) ms []) (sym h.1.0) h.1.1)

  -- the levels that a tree is made of
  pub built_climbs : (base : List P) (items levels : List (Vec P Global)) → items ≡ levels → Climbs joined base levels []
      → lowest levels ≡ base → Climbs joined (lowest items) items []
  built_climbs base items levels e h l =
      subst (λ ls. Climbs joined (lowest ls) ls []) (sym e) (subst (λ b. Climbs joined b levels []) (sym l) h)

  pub paired_All : (is_part : P → Type 0) → ((x y : P) → is_part x → is_part y → is_part (joined x y)) → (xs : List P)
      → All is_part xs → All is_part (paired joined xs)
  paired_All is_part closed xs hs = All-from_recursion is_part (paired joined xs) (paired_is joined is_part closed xs
      (recursion_from_All is_part xs hs))

-- a level more has at most as many parts
pub halved_more : (i m n k : ℕ) → 2 ^ i * m ≤ n → k ≡ m / 2 → 2 ^ (i + 1) * k ≤ n
halved_more i m n k h e =
    let twice : 2 * k ≤ m = omega arith in
    let l : 2 ^ i * (2 * k) ≤ 2 ^ i * m = mul-le-mul_left (2 ^ i) twice in
    rw (pow_more 2 i) (omega arith)

-- levels that each have a part are no more than the height and one
pub low_enough : (i m n height : ℕ) → 2 ^ i * m ≤ n → (m ≡ 0 → i ≡ 0) → n ≤ 2 ^ height → i ≤ height
low_enough i m n height h none le =
    elim (eq-zero-or-pos m) [
      | inl z ↦ omega (arith, none z)
      | inr pos ↦
          let one : 1 ≤ m = omega arith in
          let l : 2 ^ i * 1 ≤ 2 ^ i * m = mul-le-mul_left (2 ^ i) one in
          exponent_le i height (omega arith)
    ]

module _ {P : Type 0} {is_part : P → Type 0} {neutral : P} {joined : P → P → P} (laws : FoldLaws is_part neutral joined) where
  sum : List P → P
  sum xs = total neutral joined xs

  -- one level of a fold
  pub level_more : (xs next : List P) (a a' b b' : ℕ) (left left' right right' : P) →
      All is_part xs → is_part left → is_part left' → is_part right → is_part right' → next ≡ paired joined xs →
      a' ≤ b' → b' ≤ b → a ≤ a' → b ≤ length xs → (a' < b' → a' % 2 ≡ 0) → (a' < b' → b' % 2 ≡ 0) →
      joined left' (total neutral joined (slice_range xs a' b)) ≡ joined left (total neutral joined (slice_range xs a b)) →
      joined (total neutral joined (slice_range xs a' b')) right' ≡ joined (total neutral joined (slice_range xs a' b)) right →
      joined left' (joined (total neutral joined (slice_range next (a' / 2) (b' / 2))) right')
      ≡ joined left (joined (total neutral joined (slice_range xs a b)) right)
  level_more xs next a a' b b' left left' right right' hs hl hl' hr hr' e o1 o2 o3 o4 ea eb first last =
      ap (λ ys. joined left' (joined (total neutral joined (slice_range ys (a' / 2) (b' / 2))) right')) e
      ∙ ap (λ p. joined left' (joined p right')) (total-halved laws xs a' b' hs o1 (omega arith) ea eb)
      ∙ ap (joined left') last
      ∙ sym (laws.assoc left' (total neutral joined (slice_range xs a' b)) right hl' (total_range_is laws xs a' b hs) hr)
      ∙ ap (λ p. joined p right) first
      ∙ laws.assoc left (total neutral joined (slice_range xs a b)) right hl (total_range_is laws xs a b hs) hr

  -- nothing is left to take
  pub level_none : (xs : List P) (a b : ℕ) (left right : P) → is_part right → b ≤ a
      → joined left (joined (total neutral joined (slice_range xs a b)) right) ≡ joined left right
  level_none xs a b left right hr h =
      let n : b - a ≡ 0 = omega arith in
      ap (λ m. joined left (joined (total neutral joined (take m (drop a xs))) right)) n ∙ ap (joined left) (laws.left_neutral right hr)
