-- Chains and lists that are written alike, of parts that are.
use Rattle.std.proofs.Common.{◌≡◌, Bool, true, false, ◌&&◌, List, [], ◌∷◌, map, refl, sym, ap, ◌∙◌}
use Rattle.std.proofs.Math.Bool.{beq}
use Rattle.std.specs.Cmp.Lexicographic.{pointwise}
use Rattle.std.specs.declared.boxed.Box.{Box}
use Rattle.std.specs.declared.vec.Vec.{Vec}
use Rattle.std.specs.declared.alloc.Global.{Global}
use Rattle.std.proofs.lemmas.Bool.{false≢true}
use Rattle.wvalues.specs.Meaning.{Meaning, meaning}
use Rattle.wvalues.specs.Sameness.{meaning_decides, same_meaning}
use Rattle.wvalues.specs.declared.value.Value.{Value}
use Rattle.wplan.specs.declared.expr.Further.{Further}
use Rattle.wplan.specs.declared.expr.Expr.{Expr, out-Expr}
use Rattle.wplan.specs.declared.expr.Expr.TheVariants.{Chain, In, outs-Chain, outs-In}
use Rattle.wplan.specs.Formula.{Formula, chained, formula, operand_of}
use Rattle.wshare.specs.Sameness.{is_chain, is_list_test, is_same, is_same_link}
use Rattle.wplan.proofs.Formulas.{formula_chain}

pub chain_alike : (e first d : Expr) (x : Box Expr Global) (links vs : List Further) (others : Vec Further Global)
    → e ≡ Chain x others → d ≡ x.value → vs ≡ others.items → formula first ≡ formula d
    → map operand_of links ≡ map operand_of vs → chained (formula first) (map operand_of links) ≡ formula e
chain_alike e first d x links vs others is at slice same more =
    ap (λ (f : Formula). chained f (map operand_of links)) (same ∙ ap formula at)
    ∙ ap (chained (formula x.value)) (more ∙ ap (map operand_of) slice)
    ∙ sym (ap formula is ∙ formula_chain x others)

passes : {A : Type 0} (same : A → A → Bool) (xs ys : List A) → pointwise (λ (test : A → Bool) y. test y) (map same xs) ys
    ≡ pointwise same xs ys
passes same [] [] = refl
passes same [] (y ∷ ys) = refl
passes same (x ∷ xs) [] = refl
passes same (x ∷ xs) (y ∷ ys) = ap (λ b. same x y && b) (passes same xs ys)

both : (a b c : Bool) → a ≡ true → b ≡ c → b ≡ (a && c)
both a b c e f = rw e f

pub chain_same : (e first d : Expr) (x : Box Expr Global) (links vs : List Further) (others : Vec Further Global)
    (r s : Bool) → e ≡ Chain x others → d ≡ x.value → vs ≡ others.items → s ≡ is_same first d → s ≡ true
    → r ≡ pointwise is_same_link links vs → r ≡ is_chain (is_same first) (map is_same_link links) (out-Expr e)
chain_same e first d x links vs others r s is at slice same true_is more =
    both (is_same first x.value) r _ (ap (is_same first) (sym at) ∙ sym same ∙ true_is)
    (more ∙ ap (pointwise is_same_link links) slice ∙ sym (passes is_same_link links others.items))
    ∙ sym (ap (is_chain (is_same first) (map is_same_link links)) (ap out-Expr is ∙ outs-Chain x others))

pub list_same : (e operand d : Expr) (m n : Bool) (x : Box Expr Global) (list vs : List Expr) (others : Vec Expr Global)
    (r s f : Bool) → e ≡ In n x others → d ≡ x.value → vs ≡ others.items → f ≡ beq m n → f ≡ true → s ≡ is_same operand d
    → s ≡ true → r ≡ pointwise is_same list vs → r ≡ is_list_test m (is_same operand) (map is_same list) (out-Expr e)
list_same e operand d m n x list vs others r s f is at slice flag flag_is same true_is more =
    both (beq m n) r _ (sym flag ∙ flag_is) (both (is_same operand x.value) r _ (ap (is_same operand) (sym at) ∙ sym same
    ∙ true_is) (more ∙ ap (pointwise is_same list) slice ∙ sym (passes is_same list others.items)))
    ∙ sym (ap (is_list_test m (is_same operand) (map is_same list)) (ap out-Expr is ∙ outs-In n x others))

mapped : (xs ys : List Value) → pointwise (λ (x y : Value). same_meaning (meaning x) (meaning y)) xs ys
    ≡ pointwise same_meaning (map meaning xs) (map meaning ys)
mapped [] [] = refl
mapped [] (y ∷ ys) = refl
mapped (x ∷ xs) [] = refl
mapped (x ∷ xs) (y ∷ ys) = ap (λ b. same_meaning (meaning x) (meaning y) && b) (mapped xs ys)

pub constants_same : (xs ys : List Value) (ms ns : List Meaning) (r : Bool) → map meaning xs ≡ ms → map meaning ys ≡ ns
    → r ≡ pointwise (λ (x y : Value). same_meaning (meaning x) (meaning y)) xs ys → r ≡ pointwise same_meaning ms ns
constants_same xs ys ms ns r first second same =
    same ∙ mapped xs ys ∙ ap (λ zs. pointwise same_meaning zs (map meaning ys)) first ∙ ap (pointwise same_meaning ms) second

and_left : (a b : Bool) → (a && b) ≡ true → a ≡ true
and_left true b h = refl
and_left false b h = h

and_right : (a b : Bool) → (a && b) ≡ true → b ≡ true
and_right true b h = h
and_right false b h = absurd (false≢true h)

pub constants_alike : (ms ns : List Meaning) → pointwise same_meaning ms ns ≡ true → ms ≡ ns
constants_alike [] [] h = refl
constants_alike [] (n ∷ ns) h = absurd (false≢true h)
constants_alike (m ∷ ms) [] h = absurd (false≢true h)
constants_alike (m ∷ ms) (n ∷ ns) h =
    ap (λ (x : Meaning). x ∷ ms) ((meaning_decides m n).0 (and_left (same_meaning m n) (pointwise same_meaning ms ns) h))
    ∙ ap (λ (xs : List Meaning). n ∷ xs)
    (constants_alike ms ns (and_right (same_meaning m n) (pointwise same_meaning ms ns) h))
