-- Texts that the parts of an expression read.
use Rattle.std.proofs.Common.{◌≡◌, Bool, true, false, ℕ, zero, suc, ◌<◌, List, [], ◌∷◌, ◌⊎◌, inl}
use Rattle.std.proofs.Common.{inr, Result, Err, refl, ap, sym, ◌∙◌, map, length, get_or, arith}
use Rattle.std.proofs.lemmas.Bool.{false≢true}
use Rattle.std.proofs.Math.Bool.{◌||◌}
use Rattle.std.specs.declared.boxed.Box.{Box}
use Rattle.std.specs.declared.vec.Vec.{Vec}
use Rattle.std.specs.declared.alloc.Global.{Global}
use Rattle.wvalues.specs.Meaning.{Meaning}
use Rattle.wplan.specs.declared.expr.Further.{Further}
use Rattle.wplan.specs.declared.expr.Expr.{Expr}
use Rattle.wplan.specs.declared.expr.Expr.TheVariants.{Chain, In}
use Rattle.weval.specs.declared.cell.EvalFault.{EvalFault}
use Rattle.weval.specs.declared.cell.EvalFault.TheVariants.{NoMemory}
use Rattle.wplan.specs.Formula.{Formula, Operand, Applied, chained, formula, formulas, operand_of}
use Rattle.weval.specs.Reads.{reads_text, links_read_text, some_read_text}
use Rattle.wplan.proofs.Formulas.{formula_chain, formula_in, operand_is}

or_left : (a b : Bool) → a ≡ true → (a || b) ≡ true
or_left true b h = refl
or_left false b h = absurd (false≢true h)

or_right : (a b : Bool) → b ≡ true → (a || b) ≡ true
or_right true b h = refl
or_right false b h = h

-- a chain reads what its first operand reads
chain_first : (row : List Meaning) (first : Formula) (ls : List Operand) → reads_text row first ≡ true
    → reads_text row (chained first ls) ≡ true
chain_first row first [] h = h
chain_first row first (l ∷ ls) h = chain_first row (Applied l.operator first l.operand) ls
    (or_left (reads_text row first) (reads_text row l.operand) h)

-- and what its further operands read
chain_links : (row : List Meaning) (first : Formula) (ls : List Operand) → links_read_text row ls ≡ true
    → reads_text row (chained first ls) ≡ true
chain_links row first [] h = absurd (false≢true h)
chain_links row first (l ∷ ls) h =
    elim (reads_text row l.operand) as (λ b. reads_text row l.operand ≡ b → (b || links_read_text row ls) ≡ true
    → reads_text row (chained (Applied l.operator first l.operand) ls) ≡ true) [
      | true ↦ λ e k. chain_first row (Applied l.operator first l.operand) ls (or_right (reads_text row first) (reads_text row l.operand) e)
      | false ↦ λ e k. chain_links row (Applied l.operator first l.operand) ls k
    ] refl h

pub chain_reads : {T : Type 0} (row : List Meaning) (e d : Expr) (first : Box Expr Global) (links : Vec Further Global)
    (ls : List Further) (r s : Result T EvalFault) → e ≡ Chain first links → d ≡ first.value → ls ≡ links.items
    → (s ≡ Err NoMemory → reads_text row (formula d) ≡ true)
    → (r ≡ Err NoMemory → (s ≡ Err NoMemory) ⊎ (links_read_text row (map operand_of ls) ≡ true)) → r ≡ Err NoMemory
    → reads_text row (formula e) ≡ true
chain_reads row e d first links ls r s is at slice by_first by_links lacks =
    let whole : formula e ≡ chained (formula d) (map operand_of ls)
    = ap formula is ∙ formula_chain first links ∙ ap (λ (x : Expr). chained (formula x) (map operand_of links.items))
    (sym at) ∙ ap (λ (xs : List Further). chained (formula d) (map operand_of xs)) (sym slice) in
    ap (reads_text row) whole ∙ elim (by_links lacks) [
      | inl h ↦ chain_first row (formula d) (map operand_of ls) (by_first h)
      | inr h ↦ chain_links row (formula d) (map operand_of ls) h
    ]

-- a link among the others
pub link_reads : (row : List Meaning) (ls : List Further) (i : ℕ) (l : Further) → i < length ls → l ≡ get_or ls i l
    → reads_text row (formula l.operand) ≡ true → links_read_text row (map operand_of ls) ≡ true
link_reads row [] i l h e r = absurd (omega arith)
link_reads row (k ∷ ks) zero l h e r =
    or_left (reads_text row (operand_of k).operand) (links_read_text row (map operand_of ks))
    (ap (λ (x : Operand). reads_text row x.operand) (ap operand_of (sym e) ∙ operand_is l) ∙ r)
link_reads row (k ∷ ks) (suc i) l h e r =
    or_right (reads_text row (operand_of k).operand) (links_read_text row (map operand_of ks)) (link_reads row ks i l (omega arith) e r)

-- an entry among the others
pub entry_reads : (row : List Meaning) (xs : List Expr) (i : ℕ) (x : Expr) → i < length xs → x ≡ get_or xs i x
    → reads_text row (formula x) ≡ true → some_read_text row (formulas (map formula xs)) ≡ true
entry_reads row [] i x h e r = absurd (omega arith)
entry_reads row (y ∷ ys) zero x h e r =
    or_left (reads_text row (formula y)) (some_read_text row (formulas (map formula ys)))
    (ap (λ (z : Expr). reads_text row (formula z)) (sym e) ∙ r)
entry_reads row (y ∷ ys) (suc i) x h e r =
    or_right (reads_text row (formula y)) (some_read_text row (formulas (map formula ys))) (entry_reads row ys i x (omega arith) e r)

-- a list reads what its operand and its entries read
pub list_reads : (row : List Meaning) (e d : Expr) (negated : Bool) (operand : Box Expr Global) (list : Vec Expr Global)
    (ls : List Expr) → e ≡ In negated operand list → d ≡ operand.value → ls ≡ list.items
    → some_read_text row (formulas (map formula ls)) ≡ true → reads_text row (formula e) ≡ true
list_reads row e d negated operand list ls is at slice h =
    ap (λ (x : Expr). reads_text row (formula x)) is ∙ ap (reads_text row) (formula_in negated operand list)
    ∙ or_right (reads_text row (formula operand.value)) (some_read_text row (formulas (map formula list.items)))
    (ap (λ (xs : List Expr). some_read_text row (formulas (map formula xs))) (sym slice) ∙ h)
