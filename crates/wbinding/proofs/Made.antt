-- Chains and calls of a query, as they are made.
use Rattle.std.proofs.Common.{◌≡◌, Bool, ℕ, suc, ◌+◌, ◌<◌, List, [], ◌∷◌, ◌++◌, refl, ap, sym}
use Rattle.std.proofs.Common.{◌∙◌, map, drop, length, get_or, add-one, Result, Ok, Err, IfOk}
use Rattle.std.proofs.Math.Seq.{drop-cons}
use Rattle.std.specs.declared.alloc.Global.{Global}
use Rattle.std.specs.declared.alloc.AllocError.{AllocError}
use Rattle.std.specs.declared.boxed.Box.{Box}
use Rattle.std.specs.declared.vec.Vec.{Vec}
use Rattle.wquery.specs.declared.expression.ChainKind.{ChainKind}
use Rattle.wquery.specs.declared.expression.Call.{Call}
use Rattle.wquery.specs.declared.expression.Link.{Link}
use Rattle.wquery.specs.declared.expression.Expression.{Expression}
use Rattle.wquery.specs.declared.expression.Expression.TheVariants as queries
use Rattle.wquery.specs.Tree.{Tree, Branch, Links, NoLinks, Further as Longer, trees, views, linked, view, view_link, view_call}
use Rattle.wplan.specs.declared.expr.Expr.{Expr}
use Rattle.wplan.specs.declared.expr.Further.{Further}
use Rattle.wplan.specs.Formula.{Formula, Operand, chained, formula, formulas, operand_of, At, Among, MoreFormulas}
use Rattle.wbinding.specs.Resolving.{Layout, resolved, resolved_links, resolved_trees, branch_made, width}
use Rattle.wdistinct.specs.Places.{place_of_same}
use Rattle.wnodes.proofs.Views.{view_call_is, view_of_chain, view_of_call, view_of_in}
use Rattle.wbinding.proofs.Views.{link_is, operand_is}

made_links : (cs : Layout) (first : Formula) (front : Links) (bs : List Branch)
    → chained (resolved_links cs first front) (map (branch_made cs) bs) ≡ resolved_links cs first (linked front bs)
made_links cs first front [] = refl
made_links cs first front (b ∷ bs) = made_links cs first (Longer front b.operator b.operand) bs

pub chain_made : (cs : Layout) (e d : Expression) (kind : ChainKind) (first : Box Expression Global)
    (links : Vec Link Global) (ls : List Link) (x : Expr) (made : List Further) (r : Result Expr AllocError)
    → e ≡ queries.Chain kind first links → d ≡ first.value → ls ≡ links.items → formula x ≡ resolved cs (view d)
    → map operand_of made ≡ map (branch_made cs) (map view_link ls)
    → IfOk r (λ y. formula y ≡ chained (formula x) (map operand_of made)) → IfOk r (λ y. formula y ≡ resolved cs (view e))
chain_made cs e d kind first links ls x made (Ok y) is at slice fx fm h =
    h ∙ ap (chained (formula x)) fm ∙ ap (λ (f : Formula). chained f (map (branch_made cs) (map view_link ls)))
    (fx ∙ ap (λ (z : Expression). resolved cs (view z)) at)
    ∙ ap (λ (zs : List Link). chained (resolved cs (view first.value)) (map (branch_made cs) (map view_link zs)))
    slice ∙ made_links cs (resolved cs (view first.value)) NoLinks (map view_link links.items)
    ∙ sym (ap (λ (z : Expression). resolved cs (view z)) is ∙ ap (resolved cs) (view_of_chain kind first links))
chain_made cs e d kind first links ls x made (Err f) is at slice fx fm h = tt

pushed : (made : List Further) (x : Further) (rest : List Operand) → map operand_of (made ++ (x ∷ [])) ++ rest
    ≡ map operand_of made ++ (operand_of x ∷ rest)
pushed [] x rest = refl
pushed (m ∷ ms) x rest = ap (λ (t : List Operand). operand_of m ∷ t) (pushed ms x rest)

dropped : (cs : Layout) (ls : List Link) (i : ℕ) (l : Link) → i < length ls → l ≡ get_or ls i l
    → map (branch_made cs) (map view_link (drop i ls))
    ≡ (branch_made cs (view_link l) ∷ map (branch_made cs) (map view_link (drop (i + 1) ls)))
dropped cs ls i l h e = rw (add-one, drop-cons ls i l)
    (ap (λ (y : Link). branch_made cs (view_link y) ∷ map (branch_made cs) (map view_link (drop (suc i) ls))) (sym e))

pub links_step : (cs : Layout) (made new : List Further) (whole : List Operand) (ls : List Link) (i : ℕ) (l : Link)
    (x : Expr) → i < length ls → l ≡ get_or ls i l → formula x ≡ resolved cs (view l.operand)
    → new ≡ made ++ (record { operator = l.operator; operand = x } ∷ [])
    → map operand_of made ++ map (branch_made cs) (map view_link (drop i ls)) ≡ whole
    → map operand_of new ++ map (branch_made cs) (map view_link (drop (i + 1) ls)) ≡ whole
links_step cs made new whole ls i l x h e fx n w =
    ap (λ (xs : List Further). map operand_of xs ++ map (branch_made cs) (map view_link (drop (i + 1) ls))) n
    ∙ pushed made (record { operator = l.operator; operand = x }) (map (branch_made cs) (map view_link (drop (i + 1) ls)))
    ∙ ap (λ (o : Operand). map operand_of made ++ (o ∷ map (branch_made cs) (map view_link (drop (i + 1) ls))))
    (operand_is (record { operator = l.operator; operand = x }) ∙ ap (λ (f : Formula). record {
      operator = l.operator;
      operand = f;
    }) fx ∙ sym (ap (branch_made cs) (link_is l)))
    ∙ ap (λ (os : List Operand). map operand_of made ++ os) (sym (dropped cs ls i l h e))
    ∙ w

resolved_call : (l : Layout) (c : Call) → resolved l (view_call c) ≡ At (width l + place_of_same l.calls (view_call c))
resolved_call l c = ap (resolved l) (view_call_is c) ∙ ap (λ (t : Tree). At (width l + place_of_same l.calls t)) (sym (view_call_is c))

pub call_made : (l : Layout) (e : Expression) (call : Box Call Global) (f : Formula) (d : Call) → e ≡ queries.Call call
    → d ≡ call.value → f ≡ At (width l + place_of_same l.calls (view_call d)) → f ≡ resolved l (view e)
call_made l e call f d is at h =
    h ∙ ap (λ (c : Call). At (width l + place_of_same l.calls (view_call c))) at ∙ sym
    (ap (λ (x : Expression). resolved l (view x)) is ∙ ap (resolved l) (view_of_call call) ∙ resolved_call l call.value)

made_list : (l : Layout) (ts : List Tree) → formulas (map (resolved l) ts) ≡ resolved_trees l (trees ts)
made_list l [] = refl
made_list l (t ∷ ts) = ap (MoreFormulas (resolved l t)) (made_list l ts)

pub in_made : (l : Layout) (e d : Expression) (n : Bool) (first : Box Expression Global) (xs : Vec Expression Global)
    (ys : List Expression) (x : Expr) (r : Result Expr AllocError) → e ≡ queries.In n first xs → d ≡ first.value
    → ys ≡ xs.items → formula x ≡ resolved l (view d)
    → IfOk r (λ y. formula y ≡ Among n (formula x) (formulas (map (resolved l) (views ys))))
    → IfOk r (λ y. formula y ≡ resolved l (view e))
in_made l e d n first xs ys x (Ok y) is at slice fx h =
    h ∙ ap (λ (f : Formula). Among n f (formulas (map (resolved l) (views ys))))
    (fx ∙ ap (λ (z : Expression). resolved l (view z)) at)
    ∙ ap (λ (zs : List Expression). Among n (resolved l (view first.value))
    (formulas (map (resolved l) (views zs)))) slice ∙ ap (Among n (resolved l (view first.value)))
    (made_list l (views xs.items)) ∙ sym (ap (λ (z : Expression). resolved l (view z)) is
    ∙ ap (resolved l) (view_of_in n first xs))
in_made l e d n first xs ys x (Err f) is at slice fx h = tt
