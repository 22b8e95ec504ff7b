-- A well typed expression comes to a value of its type, and nothing stands in for what it lacks.
use Rattle.std.proofs.Common.{◌≡◌, ℤ, ◌+ℤ◌, ◌-ℤ◌, ◌*ℤ◌, Bool, true, false, ◌&&◌, ℕ, zero, suc, List, []}
use Rattle.std.proofs.Common.{◌∷◌, Option, Some, None, get_or, refl, sym, ap, ap₂, ◌∙◌, true≢false}
use Rattle.std.proofs.lemmas.Bool.{and_parts}
use Rattle.wquery.specs.declared.expression.Operator.{Operator}
use Rattle.wquery.specs.declared.expression.Operator.TheVariants.{Or, And, Plus, Minus, Times}
use Rattle.wquery.specs.declared.expression.Comparison.{Comparison}
use Rattle.wquery.specs.declared.expression.Comparison.TheVariants.{Equal, LessOrEqual, GreaterOrEqual}
use Rattle.wvalues.specs.Whole.{if_whole}
use Rattle.wvalues.specs.Meaning.{Meaning, Null, Int, Text}
use Rattle.wvalues.specs.Truth as truths
use Rattle.wvalues.specs.declared.truth.Truth.{Truth}
use Rattle.wvalues.specs.declared.truth.Truth.TheVariants.{No}
use Rattle.wscope.specs.declared.data_type.DataType.{DataType}
use Rattle.wscope.specs.declared.data_type.DataType.TheVariants as types
use Rattle.wplan.specs.Formula.{Formula, Constant, At, Negation, Signed, Applied, Compared, NullTest}
use Rattle.wplan.specs.Formula.{Within, Among, Formulas, NoFormulas, MoreFormulas}
use Rattle.weval.specs.Values as values
use Rattle.weval.specs.Values.{Outcome, Held, Judged, TooLarge, after, apply, is_among, is_null}
use Rattle.weval.specs.Values.{on_numbers, ranged, truth_of, turned, value_in, value_of}
use Rattle.wscope.specs.Types.{is_truth}
use Rattle.wtyped.specs.Typing.{beside, beside_all, constant_type, formula_type, gives, has, is_number, takes, type_at, valued}
use Rattle.wtyped.specs.Exact.{TypedIsExact, applied, are_of, between, cell_at, comes_as, compared, exact_among, exact_value}
use Rattle.wtyped.specs.Exact.{is_of, joined, made_of, of_numbers, of_truth, of_truths, signed, outcome_of}
use Rattle.wtyped.proofs.Types as found
use Rattle.wtyped.proofs.Types.{common_family, common_fits, family, fits, number_fits}
use Rattle.wtyped.proofs.Lists.{none_some, some_is}

-- an outcome that is there, and of a type
abbrev Says : DataType → Option Outcome → Outcome → Type 0
Says t x v = (x ≡ Some v) × (comes_as t v ≡ true)

-- a value of a narrower type
widened : (k t : DataType) (v : Outcome) → fits k t ≡ true → comes_as t v ≡ true → comes_as k v ≡ true
widened types.Integer types.Integer v f e = e
widened types.Text types.Text v f e = e
widened types.Integer types.Null (Held Null) f e = refl
widened types.Integer types.Null TooLarge f e = refl
widened types.Text types.Null (Held Null) f e = refl
widened types.Text types.Null TooLarge f e = refl
widened types.Integer types.Null v f e = absurd (true≢false (sym e))
widened types.Text types.Null v f e = absurd (true≢false (sym e))
widened _ _ v f e = absurd (true≢false (sym f))

-- truths

negation : (g : Truth → Truth) (v : Outcome) → comes_as types.Truth v ≡ true
    → Says types.Truth (made_of (Some v) (of_truth g)) (after v (λ x. Judged (g (truth_of x))))
negation g (Judged t) e = (refl, refl)
negation g TooLarge e = (refl, refl)
negation g (Held m) e = absurd (true≢false (sym e))

pair : (g : Truth → Truth → Truth) (v w : Outcome) → comes_as types.Truth v ≡ true → comes_as types.Truth w ≡ true
    → Says types.Truth (made_of (Some v) (λ x. made_of (Some w) (λ y. of_truths g x y)))
    (after v (λ x. after w (λ y. Judged (g (truth_of x) (truth_of y)))))
pair g (Judged t) (Judged u) d e = (refl, refl)
pair g (Judged t) TooLarge d e = (refl, refl)
pair g (Judged t) (Held m) d e = absurd (true≢false (sym e))
pair g TooLarge w d e = (refl, refl)
pair g (Held m) w d e = absurd (true≢false (sym d))

-- numbers

in_range : (o : Option ℤ) → comes_as types.Integer (ranged o) ≡ true
in_range None = refl
in_range (Some z) = refl

sign : (minus : Bool) (v : Outcome) → comes_as types.Integer v ≡ true
    → Says types.Integer (made_of (Some v) (signed minus)) (after v (λ x. values.signed minus (value_in x)))
sign true (Held (Int z)) e = (refl, refl)
sign false (Held (Int z)) e = (refl, refl)
sign true (Held Null) e = (refl, refl)
sign false (Held Null) e = (refl, refl)
sign minus (Held (Text b)) e = absurd (true≢false (sym e))
sign minus (Judged t) e = absurd (true≢false (sym e))
sign minus TooLarge e = (refl, refl)

sum : (g : ℤ → ℤ → ℤ) (v w : Outcome) → comes_as types.Integer v ≡ true → comes_as types.Integer w ≡ true
    → Says types.Integer (made_of (Some v) (λ x. made_of (Some w) (λ y. of_numbers g x y)))
    (after v (λ x. after w (λ y. on_numbers g (value_in x) (value_in y))))
sum g (Held (Int a)) (Held (Int b)) d e = (refl, in_range (if_whole (g a b)))
sum g (Held (Int a)) (Held Null) d e = (refl, refl)
sum g (Held Null) (Held (Int b)) d e = (refl, refl)
sum g (Held Null) (Held Null) d e = (refl, refl)
sum g (Held Null) TooLarge d e = (refl, refl)
sum g (Held (Int a)) TooLarge d e = (refl, refl)
sum g TooLarge w d e = (refl, refl)
sum g (Held (Text a)) w d e = absurd (true≢false (sym d))
sum g (Judged a) w d e = absurd (true≢false (sym d))
sum g _ w d e = absurd (true≢false (sym e))

of_truth' : (t : DataType) (v : Outcome) → is_truth t ≡ true → comes_as t v ≡ true → comes_as types.Truth v ≡ true
of_truth' types.Truth v s e = e
of_truth' _ v s e = absurd (true≢false (sym s))

operator : (o : Operator) (a b : DataType) (v w : Outcome) → takes o a ≡ true → takes o b ≡ true → comes_as a v ≡ true → comes_as b w ≡ true
    → Says (gives o) (made_of (Some v) (λ x. made_of (Some w) (λ y. applied o x y))) (after v (λ x. after w (λ y. apply o x y)))
operator Or a b v w s t d e = pair truths.either v w (of_truth' a v s d) (of_truth' b w t e)
operator And a b v w s t d e = pair truths.both v w (of_truth' a v s d) (of_truth' b w t e)
operator Plus a b v w s t d e =
    sum (λ x y. x +ℤ y) v w (widened types.Integer a v (number_fits a s) d) (widened types.Integer b w (number_fits b t) e)
operator Minus a b v w s t d e =
    sum (λ x y. x -ℤ y) v w (widened types.Integer a v (number_fits a s) d) (widened types.Integer b w (number_fits b t) e)
operator Times a b v w s t d e =
    sum (λ x y. x *ℤ y) v w (widened types.Integer a v (number_fits a s) d) (widened types.Integer b w (number_fits b t) e)

-- comparisons

one : (k : DataType) (c : Comparison) (m n : Meaning) → comes_as k (Held m) ≡ true → comes_as k (Held n) ≡ true
    → compared c (Held m) (Held n) ≡ Some (values.compared c m n)
one k c Null n d e = refl
one k c (Int x) Null d e = refl
one k c (Text x) Null d e = refl
one k c (Int x) (Int y) d e = refl
one k c (Text x) (Text y) d e = refl
one types.Integer c (Int x) (Text y) d e = absurd (true≢false (sym e))
one _ c (Int x) (Text y) d e = absurd (true≢false (sym d))
one types.Text c (Text x) (Int y) d e = absurd (true≢false (sym e))
one _ c (Text x) (Int y) d e = absurd (true≢false (sym d))

-- a value of a family is a value or out of range
no_truth : (k t : DataType) (x : Truth) → fits k t ≡ true → comes_as t (Judged x) ≡ true → ⊥
no_truth types.Integer types.Truth x f e = true≢false (sym f)
no_truth _ types.Truth x f e = true≢false (sym f)
no_truth _ _ x f e = true≢false (sym e)

self_fits : (k t : DataType) → fits k t ≡ true → fits k k ≡ true
self_fits types.Integer t f = refl
self_fits types.Text t f = refl
self_fits _ t f = absurd (true≢false (sym f))

comparison : (k : DataType) (c : Comparison) (v w : Outcome) → fits k k ≡ true → comes_as k v ≡ true → comes_as k w ≡ true
    → Says types.Truth (made_of (Some v) (λ x. made_of (Some w) (λ y. outcome_of (compared c x y))))
    (after v (λ x. after w (λ y. Judged (values.compared c (value_in x) (value_in y)))))
comparison k c (Held m) (Held n) f d e = (ap outcome_of (one k c m n d e), refl)
comparison k c (Held m) TooLarge f d e = (refl, refl)
comparison k c TooLarge w f d e = (refl, refl)
comparison k c (Judged t) w f d e = absurd (no_truth k k t f d)
comparison k c (Held m) (Judged t) f d e = absurd (no_truth k k t f e)

range : (k : DataType) (negated : Bool) (v w z : Outcome) → fits k k ≡ true → comes_as k v ≡ true → comes_as k w ≡ true
    → comes_as k z ≡ true
    → Says types.Truth (made_of (Some v)
    (λ a. made_of (Some w) (λ b. made_of (Some z) (λ c. made_of (outcome_of (between a b c)) (of_truth (turned negated))))))
    (after v (λ a. after w (λ b. after z (λ c. Judged (turned negated (values.between (value_in a) (value_in b) (value_in c)))))))
range k negated (Held m) (Held n) (Held o) f d e g = (
  ap₂ (λ s t. made_of (outcome_of (joined truths.both s t)) (of_truth (turned negated))) (one k GreaterOrEqual m n d e)
      (one k LessOrEqual m o d g),
  refl,
)
range k negated (Held m) (Held n) TooLarge f d e g = (refl, refl)
range k negated (Held m) TooLarge z f d e g = (refl, refl)
range k negated TooLarge w z f d e g = (refl, refl)
range k negated (Judged t) w z f d e g = absurd (no_truth k k t f d)
range k negated (Held m) (Judged t) z f d e g = absurd (no_truth k k t f e)
range k negated (Held m) (Held n) (Judged t) f d e g = absurd (no_truth k k t f g)

next : (k : DataType) (m : Meaning) (v : Outcome) (found : Truth) (E : Option Truth → Option Outcome) (V : Truth → Outcome)
    → fits k k ≡ true → comes_as k (Held m) ≡ true → comes_as k v ≡ true → ((u : Truth) → Says types.Truth (E (Some u)) (V u))
    → Says types.Truth (made_of (Some v) (λ y. E (joined truths.either (Some found) (compared Equal (Held m) y))))
    (after v (λ y. V (truths.either found (values.compared Equal m (value_in y)))))
next k m (Held n) found E V f d e rest =
    let s = rest (truths.either found (values.compared Equal m n)) in
    (ap (λ (o : Option Truth). E (joined truths.either (Some found) o)) (one k Equal m n d e) ∙ s.0, s.1)
next k m TooLarge found E V f d e rest = (refl, refl)
next k m (Judged t) found E V f d e rest = absurd (no_truth k k t f e)

listed : (negated : Bool) (k : DataType) (v : Outcome) (E : Outcome → Option Outcome) (V : Meaning → Outcome) → fits k k ≡ true
    → comes_as k v ≡ true → ((m : Meaning) → comes_as k (Held m) ≡ true → Says types.Truth (E (Held m)) (V m))
    → Says types.Truth (made_of (Some v) (λ x. made_of (E x) (of_truth (turned negated))))
    (after v (λ x. after (V (value_in x)) (λ found. Judged (turned negated (truth_of found)))))
listed negated k (Held m) E V f d all =
    let s = all m d in let n = negation (turned negated) (V m) s.1 in
    (ap (λ (o : Option Outcome). made_of o (of_truth (turned negated))) s.0 ∙ n.0, n.1)
listed negated k TooLarge E V f d all = (refl, refl)
listed negated k (Judged t) E V f d all = absurd (no_truth k k t f d)

null_test : (negated : Bool) (v : Outcome)
    → Says types.Truth (made_of (Some v) (λ x. Some (Judged (turned negated (is_null x)))))
    (after v (λ x. Judged (turned negated (is_null x))))
null_test negated (Held m) = (refl, refl)
null_test negated _ = (refl, refl)

-- cells

cell : (place : ℕ) (ts : List DataType) (row : List Meaning) (t : DataType) → are_of ts row ≡ true → type_at place ts ≡ Some t
    → Says t (cell_at place row) (Held (get_or row place Null))
cell place [] row t r e = absurd (none_some t e)
cell place (u ∷ ts) [] t r e = absurd (true≢false (sym r))
cell zero (u ∷ ts) (m ∷ row) t r e =
    (refl, ap (λ (x : DataType). is_of x m) (sym (some_is u t e)) ∙ (and_parts _ _ r).0)
cell (suc n) (u ∷ ts) (m ∷ row) t r e = cell n ts row t (and_parts _ _ r).1 e

pub constant : (m : Meaning) → is_of (constant_type m) m ≡ true
constant Null = refl
constant _ = refl

-- parts put together

with_one : (h : Outcome → Option Outcome) (t : DataType) (x : Option Outcome) (v w : Outcome) → x ≡ Some v → Says t (made_of (Some v) h) w
    → Says t (made_of x h) w
with_one h t x v w e s = (ap (λ (o : Option Outcome). made_of o h) e ∙ s.0, s.1)

with_two : (h : Outcome → Outcome → Option Outcome) (t : DataType) (x y : Option Outcome) (v w u : Outcome) → x ≡ Some v → y ≡ Some w
    → Says t (made_of (Some v) (λ a. made_of (Some w) (h a))) u → Says t (made_of x (λ a. made_of y (h a))) u
with_two h t x y v w u e f s =
    (ap₂ (λ (o p : Option Outcome). made_of o (λ a. made_of p (h a))) e f ∙ s.0, s.1)

with_three : (h : Outcome → Outcome → Outcome → Option Outcome) (t : DataType) (x y z : Option Outcome) (v w u r : Outcome) → x ≡ Some v
    → y ≡ Some w → z ≡ Some u → Says t (made_of (Some v) (λ a. made_of (Some w) (λ b. made_of (Some u) (h a b)))) r
    → Says t (made_of x (λ a. made_of y (λ b. made_of z (h a b)))) r
with_three h t x y z v w u r e f g s = (
  ap₂ (λ (o p : Option Outcome). made_of o (λ a. made_of p (λ b. made_of z (h a b)))) e f
      ∙ ap (λ (q : Option Outcome). made_of (Some v) (λ a. made_of (Some w) (λ b. made_of q (h a b)))) g ∙ s.0,
  s.1,
)

of_type : (a t : DataType) (x : Option Outcome) (v : Outcome) → a ≡ t → Says a x v → Says t x v
of_type a t x v e s = (s.0, ap (λ (u : DataType). comes_as u v) (sym e) ∙ s.1)

mutual
  exactly : (ts : List DataType) (row : List Meaning) (f : Formula) (t : DataType) → are_of ts row ≡ true → formula_type ts f ≡ Some t
      → Says t (exact_value row f) (value_of row f)
  exactly ts row (Constant m) t r e = of_type (constant_type m) t _ (Held m) (some_is (constant_type m) t e) (refl, constant m)
  exactly ts row (At place) t r e = cell place ts row t r e
  exactly ts row (Negation f) t r e =
      let is = found.held (has is_truth (formula_type ts f)) types.Truth t e in
      let p = found.has_type is_truth (formula_type ts f) is.0 in
      let s = exactly ts row f p.type r p.is in
      of_type types.Truth t _ _ is.1 (with_one _ types.Truth _ (value_of row f) _ s.0
      (negation truths.opposite (value_of row f) (of_truth' p.type (value_of row f) p.passes s.1)))
  exactly ts row (Signed minus f) t r e =
      let is = found.held (has is_number (formula_type ts f)) types.Integer t e in
      let p = found.has_type is_number (formula_type ts f) is.0 in
      let s = exactly ts row f p.type r p.is in
      of_type types.Integer t _ _ is.1 (with_one _ types.Integer _ (value_of row f) _ s.0
      (sign minus (value_of row f) (widened types.Integer p.type (value_of row f) (number_fits p.type p.passes) s.1)))
  exactly ts row (Applied o f g) t r e =
      let is = found.held (has (takes o) (formula_type ts f) && has (takes o) (formula_type ts g)) (gives o) t e in
      let both = and_parts _ _ is.0 in
      let p = found.has_type (takes o) (formula_type ts f) both.0 in
      let q = found.has_type (takes o) (formula_type ts g) both.1 in
      let a = exactly ts row f p.type r p.is in
      let b = exactly ts row g q.type r q.is in
      of_type (gives o) t _ _ is.1 (with_two (applied o) (gives o) _ _ (value_of row f) (value_of row g) _ a.0 b.0
      (operator o p.type q.type (value_of row f) (value_of row g) p.passes q.passes a.1 b.1))
  exactly ts row (Compared c f g) t r e =
      let is = found.is_judged (beside (formula_type ts f) (formula_type ts g)) t e in
      let p = found.parts (formula_type ts f) (formula_type ts g) is.0.type is.0.is in
      let k = common_fits (family is.0.type) p.left p.right is.0.type (common_family p.left p.right is.0.type p.one) p.one in
      let a = exactly ts row f p.left r p.is_left in
      let b = exactly ts row g p.right r p.is_right in
      of_type types.Truth t _ _ is.1 (with_two (λ x y. outcome_of (compared c x y)) types.Truth _ _ (value_of row f)
      (value_of row g) _ a.0 b.0
      (comparison (family is.0.type) c _ _ (self_fits (family is.0.type) p.left k.0) (widened (family is.0.type) p.left _
      k.0 a.1) (widened (family is.0.type) p.right _ k.1 b.1)))
  exactly ts row (NullTest negated f) t r e =
      let is = found.is_judged (formula_type ts f) t e in
      let s = exactly ts row f is.0.type r is.0.is in
      of_type types.Truth t _ _ is.1 (with_one _ types.Truth _ (value_of row f) _ s.0 (null_test negated (value_of row f)))
  exactly ts row (Within negated f low high) t r e =
      let is = found.is_judged (beside (beside (formula_type ts f) (formula_type ts low)) (formula_type ts high)) t e in
      let p = found.parts (beside (formula_type ts f) (formula_type ts low)) (formula_type ts high) is.0.type is.0.is in
      let q = found.parts (formula_type ts f) (formula_type ts low) p.left p.is_left in
      let k = common_fits (family is.0.type) p.left p.right is.0.type (common_family p.left p.right is.0.type p.one) p.one in
      let j = common_fits (family is.0.type) q.left q.right p.left k.0 q.one in
      let a = exactly ts row f q.left r q.is_left in
      let b = exactly ts row low q.right r q.is_right in
      let c = exactly ts row high p.right r p.is_right in
      of_type types.Truth t _ _ is.1 (with_three (λ x y z. made_of (outcome_of (between x y z)) (of_truth (turned negated)))
      types.Truth _ _ _ (value_of row f) (value_of row low) (value_of row high) _ a.0 b.0 c.0
      (range (family is.0.type) negated _ _ _ (self_fits (family is.0.type) p.left k.0) (widened (family is.0.type) q.left _
      j.0 a.1) (widened (family is.0.type) q.right _ j.1 b.1) (widened (family is.0.type) p.right _ k.1 c.1)))
  exactly ts row (Among negated f list) t r e =
      let is = found.is_judged (beside_all ts (valued (formula_type ts f)) list) t e in
      let k = found.all_valued ts (valued (formula_type ts f)) list (found.valued_is (formula_type ts f)) is.0.type is.0.is in
      let p = found.all_fit ts (valued (formula_type ts f)) list (family is.0.type) is.0.type k is.0.is in
      let a = exactly ts row f p.type r (found.valued_family (formula_type ts f) p.type p.is).0 in
      of_type types.Truth t _ _ is.1 (with_one (λ x. made_of (exact_among row x (Some No) list) (of_truth (turned negated)))
      types.Truth _ (value_of row f) _ a.0
      (listed negated (family is.0.type) (value_of row f) (λ x. exact_among row x (Some No) list)
      (λ m. is_among row m No list) (self_fits (family is.0.type) is.0.type k)
      (widened (family is.0.type) p.type (value_of row f) p.passes a.1)
      (among ts row list (family is.0.type) (valued (formula_type ts f)) is.0.type r k is.0.is No)))

  among : (ts : List DataType) (row : List Meaning) (fs : Formulas) (k : DataType) (o : Option DataType) (t : DataType)
      → are_of ts row ≡ true → fits k t ≡ true → beside_all ts o fs ≡ Some t
      → (so_far : Truth) (m : Meaning) → comes_as k (Held m) ≡ true
      → Says types.Truth (exact_among row (Held m) (Some so_far) fs) (is_among row m so_far fs)
  among ts row NoFormulas k o t r f e so_far m d = (refl, refl)
  among ts row (MoreFormulas g fs) k o t r f e so_far m d =
      let rest = found.all_fit ts (beside o (formula_type ts g)) fs k t f e in
      let is = found.parts o (formula_type ts g) rest.type rest.is in
      let fit = common_fits k is.left is.right rest.type rest.passes is.one in
      let s = exactly ts row g is.right r is.is_right in
      with_one (λ y. exact_among row (Held m) (joined truths.either (Some so_far) (compared Equal (Held m) y)) fs)
      types.Truth _ (value_of row g) _ s.0
      (next k m (value_of row g) so_far (λ u. exact_among row (Held m) u fs) (λ u. is_among row m u fs)
      (self_fits k is.left fit.0) d (widened k is.right (value_of row g) fit.1 s.1)
      (λ u. among ts row fs k (beside o (formula_type ts g)) t r f e u m d))

pub typed_is_exact : TypedIsExact
typed_is_exact ts row f t r e = exactly ts row f t r e
