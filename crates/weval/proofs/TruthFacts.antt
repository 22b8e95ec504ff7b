-- Conditions that are judged by the truths of their operands.
use Rattle.std.proofs.Common.{◌≡◌, Bool, true, false, ◌&&◌, ℕ, zero, suc, ◌+◌, ◌<◌, List, [], ◌∷◌, Result, Ok, Err, refl}
use Rattle.std.proofs.Common.{ap, sym, ◌∙◌, map, drop, length, get_or, subst, arith}
use Rattle.std.proofs.lemmas.Bool.{false≢true}
use Rattle.std.specs.List.{list_all}
use Rattle.std.specs.declared.boxed.Box.{Box}
use Rattle.std.specs.declared.vec.Vec.{Vec}
use Rattle.std.specs.declared.alloc.Global.{Global}
use Rattle.wquery.specs.declared.expression.Operator.{Operator}
use Rattle.wquery.specs.declared.expression.Operator.TheVariants.{Or, And, Plus, Minus, Times}
use Rattle.wvalues.specs.Meaning.{Meaning}
use Rattle.wvalues.specs.Truth.{both, either}
use Rattle.wvalues.specs.declared.truth.Truth.{Truth}
use Rattle.wplan.specs.declared.expr.Expr.{Expr}
use Rattle.wplan.specs.declared.expr.Further.{Further}
use Rattle.wplan.specs.declared.expr.Expr.TheVariants.{Chain}
use Rattle.wplan.specs.Formula.{Operand, formula, operand_of}
use Rattle.wplan.proofs.Formulas.{operand_is}
use Rattle.weval.specs.Values.{Outcome, Held, Judged, TooLarge, after, apply, is_too_large, truth_of, value_along, value_of}
use Rattle.weval.specs.Conditions.{Says, is_logical}
use Rattle.weval.specs.declared.cell.Cell.TheVariants as cells
use Rattle.weval.specs.declared.cell.EvalFault.{EvalFault}
use Rattle.weval.specs.declared.cell.EvalFault.TheVariants.{OutOfRange, NoMemory}
use Rattle.weval.proofs.Running.{along_step, along_too_large, chain_value}

not_large : (o : Outcome) (f : Outcome → Outcome) → is_too_large o ≡ false → after o f ≡ f o
not_large (Held m) f n = refl
not_large (Judged t) f n = refl
not_large TooLarge f n = absurd (false≢true (sym n))

-- AND and OR go by what their operands say
left_says : (operator : Operator) (o v : Outcome) (t : Truth) → is_logical operator ≡ true → Says (Ok t) o
    → after o (λ x. after v (λ y. apply operator x y)) ≡ after v (λ y. apply operator (Judged t) y)
left_says Or o v t l h = not_large o _ h.0 ∙ ap (λ (s : Truth). after v (λ y. Judged (either s (truth_of y)))) h.1
left_says And o v t l h = not_large o _ h.0 ∙ ap (λ (s : Truth). after v (λ y. Judged (both s (truth_of y)))) h.1
left_says Plus o v t l h = absurd (false≢true l)
left_says Minus o v t l h = absurd (false≢true l)
left_says Times o v t l h = absurd (false≢true l)

right_says : (operator : Operator) (v : Outcome) (s t : Truth) → is_logical operator ≡ true → Says (Ok t) v
    → after v (λ y. apply operator (Judged s) y) ≡ apply operator (Judged s) (Judged t)
right_says Or v s t l h = not_large v _ h.0 ∙ ap (λ (u : Truth). Judged (either s u)) h.1
right_says And v s t l h = not_large v _ h.0 ∙ ap (λ (u : Truth). Judged (both s u)) h.1
right_says Plus v s t l h = absurd (false≢true l)
right_says Minus v s t l h = absurd (false≢true l)
right_says Times v s t l h = absurd (false≢true l)

abbrev pub are_logical : List Further → Bool
are_logical = list_all (λ l. is_logical l.operator)

and_left : (a b : Bool) → (a && b) ≡ true → a ≡ true
and_left true b h = refl
and_left false b h = h

and_right : (a b : Bool) → (a && b) ≡ true → b ≡ true
and_right true b h = h
and_right false b h = absurd (false≢true h)

logical_at : (ls : List Further) (i : ℕ) (l : Further) → i < length ls → l ≡ get_or ls i l → are_logical ls ≡ true
    → is_logical l.operator ≡ true
logical_at [] i l h e all = absurd (omega arith)
logical_at (k ∷ ks) zero l h e all = ap (λ (x : Further). is_logical x.operator) e ∙ and_left (is_logical k.operator) (are_logical ks) all
logical_at (k ∷ ks) (suc i) l h e all = logical_at ks i l (omega arith) e (and_right (is_logical k.operator) (are_logical ks) all)

-- a fault stands for whatever is out of range along with it
pub still_says : (f : EvalFault) (o p : Outcome) → (o ≡ TooLarge → p ≡ TooLarge) → Says (Err f) o → Says (Err f) p
still_says OutOfRange o p h e = h e
still_says NoMemory o p h e = tt

pub first_fault : (row : List Meaning) (f : EvalFault) (ls : List Operand) (o : Outcome) (r : Result Truth EvalFault)
    → r ≡ Err f → Says r o → Says (Err f) (value_along row o ls)
first_fault row f ls o r is h =
    let P : Result Truth EvalFault → Type 0 = λ r. Says r o in
    still_says f o _ (λ e. ap (λ (x : Outcome). value_along row x ls) e ∙ along_too_large row ls) (subst P is h)

-- a chain goes by what its first operand says
alone_says : (o : Outcome) (t : Truth) (s : Result Truth EvalFault) → Says (Ok t) o → Says s (Judged t) → Says s o
alone_says o t (Ok u) h k = (h.0, h.1 ∙ k.1)
alone_says o t (Err OutOfRange) h k = absurd (false≢true (ap is_too_large k))
alone_says o t (Err NoMemory) h k = tt

pub first_truth : (row : List Meaning) (t : Truth) (links : List Further) (o : Outcome) (r s : Result Truth EvalFault) → r ≡ Ok t
    → are_logical links ≡ true → Says r o → Says s (value_along row (Judged t) (map operand_of links))
    → Says s (value_along row o (map operand_of links))
first_truth row t [] o r s is all h k =
    let P : Result Truth EvalFault → Type 0 = λ r. Says r o in
    alone_says o t s (subst P is h) k
first_truth row t (l ∷ ls) o r s is all h k =
    let P : Result Truth EvalFault → Type 0 = λ r. Says r o in
    let Q : Outcome → Type 0 = λ x. Says s (value_along row x (map operand_of ls)) in
    let operator : (operand_of l).operator ≡ l.operator = ap (λ (x : Operand). x.operator) (operand_is l) in
    let logical : is_logical (operand_of l).operator ≡ true = ap is_logical operator
    ∙ and_left (is_logical l.operator) (are_logical ls) all in
    subst Q (sym (left_says (operand_of l).operator o (value_of row (operand_of l).operand) t logical (subst P is h))) k

-- a link of a chain by AND and OR
pub link_truth : (row : List Meaning) (so_far t next : Truth) (whole : Outcome) (ls : List Further) (i : ℕ) (l : Further)
    → i < length ls → l ≡ get_or ls i l → are_logical ls ≡ true
    → whole ≡ value_along row (Judged so_far) (map operand_of (drop i ls)) → Says (Ok t) (value_of row (formula l.operand))
    → (is_logical l.operator ≡ true → apply l.operator (Judged so_far) (Judged t) ≡ Judged next)
    → whole ≡ value_along row (Judged next) (map operand_of (drop (i + 1) ls))
link_truth row so_far t next whole ls i l h e all w says joins =
    let logical = logical_at ls i l h e all in
    w ∙ along_step row (cells.Truth so_far) ls i l h e
    ∙ ap (λ (o : Outcome). value_along row o (map operand_of (drop (i + 1) ls)))
    (right_says l.operator (value_of row (formula l.operand)) so_far t logical says ∙ joins logical)

pub link_fault : (row : List Meaning) (so_far : Truth) (f : EvalFault) (whole : Outcome) (ls : List Further) (i : ℕ) (l : Further)
    → i < length ls → l ≡ get_or ls i l → whole ≡ value_along row (Judged so_far) (map operand_of (drop i ls))
    → Says (Err f) (value_of row (formula l.operand)) → Says (Err f) whole
link_fault row so_far f whole ls i l h e w = still_says f _ whole (λ n. w ∙ along_step row (cells.Truth so_far) ls i l h e
    ∙ ap (λ (o : Outcome). value_along row o (map operand_of (drop (i + 1) ls)))
    (ap (λ (o : Outcome). after o (λ y. apply l.operator (Judged so_far) y)) n) ∙ along_too_large row (map operand_of (drop (i + 1) ls)))

pub chain_says : (row : List Meaning) (e d : Expr) (first : Box Expr Global) (links : Vec Further Global) (ls : List Further)
    (r : Result Truth EvalFault) → e ≡ Chain first links → d ≡ first.value → ls ≡ links.items
    → Says r (value_along row (value_of row (formula d)) (map operand_of ls)) → Says r (value_of row (formula e))
chain_says row e d first links ls r is at slice h =
    let P : Outcome → Type 0 = λ o. Says r o in
    subst P (chain_value row e d first links ls is at slice) h
