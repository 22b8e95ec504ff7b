-- Chains and lists that are evaluated from the first to the last.
use Rattle.std.proofs.Common.{◌≡◌, Bool, ℕ, suc, ◌+◌, ◌<◌, List, [], ◌∷◌, Result, Ok, Err, refl}
use Rattle.std.proofs.Common.{ap, sym, ◌∙◌, map, drop, length, get_or, add-one, subst}
use Rattle.std.specs.declared.boxed.Box.{Box}
use Rattle.std.specs.declared.vec.Vec.{Vec}
use Rattle.std.specs.declared.alloc.Global.{Global}
use Rattle.std.proofs.Math.Seq.{drop-cons}
use Rattle.wvalues.specs.Meaning.{Meaning}
use Rattle.wplan.specs.declared.expr.Further.{Further}
use Rattle.wplan.specs.declared.expr.Expr.{Expr}
use Rattle.wplan.specs.declared.expr.Expr.TheVariants.{Chain, In}
use Rattle.weval.specs.declared.cell.Cell.{Cell}
use Rattle.weval.specs.declared.cell.Cell.TheVariants as cells
use Rattle.weval.specs.declared.cell.EvalFault.{EvalFault}
use Rattle.weval.specs.declared.cell.EvalFault.TheVariants.{OutOfRange, NoMemory}
use Rattle.wvalues.specs.declared.truth.Truth.{Truth}
use Rattle.wvalues.specs.declared.truth.Truth.TheVariants.{No}
use Rattle.wplan.specs.Formula.{Formula, Operand, Applied, chained, formula, formulas, operand_of}
use Rattle.weval.specs.Values.{Outcome, Judged, TooLarge, after, apply, value_in, truth_of, turned, value_of, value_along, is_among}
use Rattle.wplan.proofs.Formulas.{formula_chain, formula_in, operand_is}
use Rattle.weval.specs.Cells.{outcome, Gives, GivesTruth}

pub along_chain : (row : List Meaning) (first : Formula) (ls : List Operand) → value_of row (chained first ls)
    ≡ value_along row (value_of row first) ls
along_chain row first [] = refl
along_chain row first (l ∷ ls) = along_chain row (Applied l.operator first l.operand) ls

pub along_too_large : (row : List Meaning) (ls : List Operand) → value_along row TooLarge ls ≡ TooLarge
along_too_large row [] = refl
along_too_large row (l ∷ ls) = along_too_large row ls

-- a fault stands for whatever is out of range along with it
pub still_too_large : (f : EvalFault) (o p : Outcome) → (o ≡ TooLarge → p ≡ TooLarge) → Gives (Err f) o → Gives (Err f) p
still_too_large OutOfRange o p h e = h e
still_too_large NoMemory o p h e = tt

pub after_cell : (c : Cell) (f : Outcome → Outcome) → after (outcome c) f ≡ f (outcome c)
after_cell (cells.Value v) f = refl
after_cell (cells.Truth t) f = refl

pub along_step : (row : List Meaning) (so_far : Cell) (ls : List Further) (i : ℕ) (l : Further) → i < length ls
    → l ≡ get_or ls i l → value_along row (outcome so_far) (map operand_of (drop i ls))
    ≡ value_along row (after (value_of row (formula l.operand)) (λ y. apply l.operator (outcome so_far) y))
    (map operand_of (drop (i + 1) ls))
along_step row so_far ls i l h e =
    rw (add-one, drop-cons ls i l) (ap (λ (x : Outcome). value_along row x (map operand_of (drop (suc i) ls)))
    (after_cell so_far (λ x. after (value_of row (operand_of (get_or ls i l)).operand)
    (λ y. apply (operand_of (get_or ls i l)).operator x y))
    ∙ ap (λ (o : Operand). after (value_of row o.operand) (λ y. apply o.operator (outcome so_far) y))
    (ap operand_of (sym e) ∙ operand_is l)))

pub along_ok : (row : List Meaning) (so_far next : Cell) (whole : Outcome) (ls : List Further) (i : ℕ) (l : Further)
    → i < length ls → l ≡ get_or ls i l → whole ≡ value_along row (outcome so_far) (map operand_of (drop i ls))
    → outcome next ≡ after (value_of row (formula l.operand)) (λ y. apply l.operator (outcome so_far) y)
    → whole ≡ value_along row (outcome next) (map operand_of (drop (i + 1) ls))
along_ok row so_far next whole ls i l h e w n = w ∙ along_step row so_far ls i l h e
    ∙ ap (λ (o : Outcome). value_along row o (map operand_of (drop (i + 1) ls))) (sym n)

pub along_err : (row : List Meaning) (so_far : Cell) (f : EvalFault) (whole : Outcome) (ls : List Further) (i : ℕ)
    (l : Further) → i < length ls → l ≡ get_or ls i l
    → whole ≡ value_along row (outcome so_far) (map operand_of (drop i ls))
    → Gives (Err f) (after (value_of row (formula l.operand)) (λ y. apply l.operator (outcome so_far) y)) → Gives (Err f) whole
along_err row so_far f whole ls i l h e w = still_too_large f _ whole (λ n. w ∙ along_step row so_far ls i l h e
    ∙ ap (λ (o : Outcome). value_along row o (map operand_of (drop (i + 1) ls))) n ∙ along_too_large row (map operand_of (drop (i + 1) ls)))

pub first_err : (row : List Meaning) (f : EvalFault) (ls : List Operand) (o : Outcome) (r : Result Cell EvalFault)
    → r ≡ Err f → Gives r o → Gives (Err f) (value_along row o ls)
first_err row f ls o r is h =
    let P : Result Cell EvalFault → Type 0 = λ r. Gives r o in
    still_too_large f o _ (λ e. ap (λ (x : Outcome). value_along row x ls) e ∙ along_too_large row ls) (subst P is h)

pub first_ok : (row : List Meaning) (x : Cell) (ls : List Operand) (o : Outcome) (r s : Result Cell EvalFault) → r ≡ Ok x
    → Gives r o → Gives s (value_along row (outcome x) ls) → Gives s (value_along row o ls)
first_ok row x ls o r s is h k =
    let P : Result Cell EvalFault → Type 0 = λ r. Gives r o in
    let Q : Outcome → Type 0 = λ o. Gives s (value_along row o ls) in
    subst Q (subst P is h) k

pub chain_value : (row : List Meaning) (e d : Expr) (first : Box Expr Global) (links : Vec Further Global) (ls : List Further)
    → e ≡ Chain first links → d ≡ first.value → ls ≡ links.items
    → value_along row (value_of row (formula d)) (map operand_of ls) ≡ value_of row (formula e)
chain_value row e d first links ls is at slice =
    ap (λ (x : Expr). value_along row (value_of row (formula x)) (map operand_of ls)) at ∙ ap
    (λ (xs : List Further). value_along row (value_of row (formula first.value)) (map operand_of xs)) slice
    ∙ sym (along_chain row (formula first.value) (map operand_of links.items))
    ∙ ap (value_of row) (sym (formula_chain first links)) ∙ ap (λ (x : Expr). value_of row (formula x)) (sym is)

pub chain_gives : (row : List Meaning) (e d : Expr) (first : Box Expr Global) (links : Vec Further Global)
    (ls : List Further) (r : Result Cell EvalFault) → e ≡ Chain first links → d ≡ first.value → ls ≡ links.items
    → Gives r (value_along row (value_of row (formula d)) (map operand_of ls)) → Gives r (value_of row (formula e))
chain_gives row e d first links ls r is at slice h =
    let P : Outcome → Type 0 = λ o. Gives r o in
    subst P (chain_value row e d first links ls is at slice) h

pub in_gives : (row : List Meaning) (e d : Expr) (negated : Bool) (operand : Box Expr Global) (list : Vec Expr Global)
    (ls : List Expr) (x : Cell) (r : Result Cell EvalFault) → e ≡ In negated operand list → d ≡ operand.value
    → ls ≡ list.items → outcome x ≡ value_of row (formula d)
    → Gives r (after (is_among row (value_in (outcome x)) No (formulas (map formula ls)))
    (λ found. Judged (turned negated (truth_of found)))) → Gives r (value_of row (formula e))
in_gives row e d negated operand list ls x r is at slice value h =
    let P : Outcome → Type 0 = λ o. Gives r o in
    let found : Meaning → List Expr → Outcome = λ m xs. after (is_among row m No (formulas (map formula xs)))
    (λ found. Judged (turned negated (truth_of found))) in
    subst P (ap (found (value_in (outcome x))) slice ∙ sym (after_cell x (λ o. found (value_in o) list.items))
    ∙ ap (λ (o : Outcome). after o (λ o. found (value_in o) list.items))
    (value ∙ ap (λ (y : Expr). value_of row (formula y)) at)
    ∙ ap (value_of row) (sym (formula_in negated operand list)) ∙ ap (λ (y : Expr). value_of row (formula y)) (sym is)) h

pub truth_fault : (f : EvalFault) (o : Outcome) (g : Outcome → Outcome) → GivesTruth (Err f) o → Gives (Err f) (after o g)
truth_fault OutOfRange o g e = ap (λ (x : Outcome). after x g) e
truth_fault NoMemory o g e = tt

pub truth_found : (found : Truth) (o : Outcome) (g : Outcome → Outcome) → Judged found ≡ o → g (Judged found) ≡ after o g
truth_found found o g e = ap (λ (x : Outcome). after x g) e
