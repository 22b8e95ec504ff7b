-- Tests of conditions that compare with numbers.
use Rattle.std.proofs.Common.{◌≡◌, Bool, true, false, ◌&&◌, ℕ, ◌+◌, ◌<◌, List, [], ◌∷◌, ◌++◌, Result, Ok, Err, IfOk, refl}
use Rattle.std.proofs.Common.{ap, sym, ◌∙◌, map, take, length, get_or, subst}
use Rattle.std.proofs.lemmas.Bool.{false≢true}
use Rattle.std.proofs.lemmas.List.{map-append, take_more}
use Rattle.std.proofs.lemmas.List.Folds.{list_all-append, list_all_more}
use Rattle.std.specs.List.{list_all}
use Rattle.std.specs.declared.boxed.Box.{Box}
use Rattle.std.specs.declared.vec.Vec.{Vec}
use Rattle.std.specs.declared.alloc.AllocError.{AllocError}
use Rattle.std.specs.declared.alloc.Global.{Global}
use Rattle.wquery.specs.declared.expression.Comparison.{Comparison}
use Rattle.wquery.specs.declared.expression.Comparison.TheVariants.{GreaterOrEqual, LessOrEqual}
use Rattle.wquery.specs.declared.expression.Operator.{Operator}
use Rattle.wquery.specs.declared.expression.Operator.TheVariants.{Or, And, Plus, Minus, Times}
use Rattle.wvalues.specs.Meaning.{Meaning, Null, Int}
use Rattle.wvalues.specs.Truth.{both}
use Rattle.wvalues.specs.declared.truth.Truth.{Truth}
use Rattle.wvalues.specs.declared.truth.Truth.TheVariants.{Yes, No, Unknown}
use Rattle.wplan.specs.declared.expr.Expr.{Expr}
use Rattle.wplan.specs.declared.expr.Further.{Further}
use Rattle.wplan.specs.declared.expr.Expr.TheVariants.{Chain}
use Rattle.wplan.specs.Formula.{At, Constant, Formula, Operand, Compared, Within, formula, operand_of}
use Rattle.wplan.proofs.Formulas.{operand_is}
use Rattle.weval.specs.Joining.{Adds, Agrees, IsTestOf, Joins}
use Rattle.weval.specs.NumberTests.{Decide, is_and, is_number_link, passes, passes_all}
use Rattle.weval.specs.Values.{Outcome, Judged, after, apply, compared, is_too_large, is_yes, truth_of, value_along, value_of}
use Rattle.weval.specs.declared.comparing.NumberTest.{NumberTest}
use Rattle.weval.proofs.Running.{chain_value}

abbrev place_of : Formula → ℕ
place_of (At place) = place
place_of _ = 0

place_is : {a b : ℕ} → At a ≡ At b → a ≡ b
place_is e = ap place_of e

yes_both : (s t : Truth) → is_yes (both s t) ≡ (is_yes s && is_yes t)
yes_both Yes Yes = refl
yes_both Yes No = refl
yes_both Yes Unknown = refl
yes_both No Yes = refl
yes_both No No = refl
yes_both No Unknown = refl
yes_both Unknown Yes = refl
yes_both Unknown No = refl
yes_both Unknown Unknown = refl

and_true : (b : Bool) → (b && true) ≡ b
and_true true = refl
and_true false = refl

and_assoc : (a b c : Bool) → ((a && b) && c) ≡ (a && (b && c))
and_assoc true b c = refl
and_assoc false b c = refl

passes_more : (tests : List NumberTest) (test : NumberTest) (row : List Meaning)
    → passes_all (tests ++ test ∷ []) row ≡ (passes_all tests row && passes row test)
passes_more tests test row = list_all-append (passes row) tests (test ∷ [])
    ∙ ap (λ b. passes_all tests row && b) (and_true (passes row test))

compared_passes : (row : List Meaning) (test : NumberTest) (c : Comparison) (l r : Formula) → IsTestOf c l r test
    → passes row test ≡ is_yes (truth_of (value_of row (Compared c l r)))
compared_passes row test c l r t =
    ap (λ (c : Comparison). is_yes (compared c (get_or row test.place Null) (Int test.number))) t.comparison
    ∙ sym (ap (λ (f : Formula). is_yes (truth_of (value_of row (Compared c f r)))) t.place
    ∙ ap (λ (f : Formula). is_yes (truth_of (value_of row (Compared c (At test.place) f)))) t.number)

pub compared_adds : (old new : List NumberTest) (test : NumberTest) (c : Comparison) (l r : Formula)
    → new ≡ old ++ test ∷ [] → IsTestOf c l r test → Adds old new (Compared c l r)
compared_adds old new test c l r is t = record {
  judged = λ row. rw (t.place, t.number) refl;
  truth = λ row. ap (λ (l : List NumberTest). passes_all l row) is ∙ passes_more old test row
      ∙ ap (λ b. passes_all old row && b) (compared_passes row test c l r t);
}

within_passes : (row : List Meaning) (above below : NumberTest) (x low high : Formula) → IsTestOf GreaterOrEqual x low above
    → IsTestOf LessOrEqual x high below
    → (passes row above && passes row below) ≡ is_yes (truth_of (value_of row (Within false x low high)))
within_passes row above below x low high s t =
    let v = get_or row above.place Null in
    let from = is_yes (compared GreaterOrEqual v (Int above.number)) in
    let same : above.place ≡ below.place = place_is (sym s.place ∙ t.place) in
    ap (λ (c : Comparison). is_yes (compared c v (Int above.number)) && passes row below) s.comparison
    ∙ ap (λ (c : Comparison). from && is_yes (compared c (get_or row below.place Null) (Int below.number))) t.comparison
    ∙ ap (λ (p : ℕ). from && is_yes (compared LessOrEqual (get_or row p Null) (Int below.number))) (sym same)
    ∙ sym (yes_both (compared GreaterOrEqual v (Int above.number)) (compared LessOrEqual v (Int below.number)))
    ∙ sym (ap (λ (f : Formula). is_yes (truth_of (value_of row (Within false f low high)))) s.place
    ∙ ap (λ (f : Formula). is_yes (truth_of (value_of row (Within false (At above.place) f high)))) s.number
    ∙ ap (λ (f : Formula). is_yes (truth_of (value_of row (Within false (At above.place) (Constant (Int above.number)) f)))) t.number)

within_judged : (row : List Meaning) (above below : NumberTest) (x low high : Formula) → IsTestOf GreaterOrEqual x low above
    → IsTestOf LessOrEqual x high below
    → value_of row (Within false x low high) ≡ Judged (truth_of (value_of row (Within false x low high)))
within_judged row above below x low high s t = rw (s.place, s.number, t.number) refl

pub between_adds : (old mid new : List NumberTest) (above below : NumberTest) (x low high : Formula)
    → mid ≡ old ++ above ∷ [] → new ≡ mid ++ below ∷ [] → IsTestOf GreaterOrEqual x low above
    → IsTestOf LessOrEqual x high below → Adds old new (Within false x low high)
between_adds old mid new above below x low high first second s t = record {
  judged = λ row. within_judged row above below x low high s t;
  truth = λ row. ap (λ (l : List NumberTest). passes_all l row) second ∙ passes_more mid below row
      ∙ ap (λ (l : List NumberTest). passes_all l row && passes row below) first
      ∙ ap (λ b. b && passes row below) (passes_more old above row)
      ∙ and_assoc (passes_all old row) (passes row above) (passes row below)
      ∙ ap (λ b. passes_all old row && b) (within_passes row above below x low high s t);
}

-- an operand behind an AND
and_joins : (old new : List NumberTest) (t : Formula) → Adds old new t → Joins old new (record { operator = And; operand = t } ∷ [])
and_joins old new t a row o g =
    let s = truth_of (value_of row t) in
    let u = truth_of o in
    let e : value_along row o (record { operator = And; operand = t } ∷ []) ≡ Judged (both u s) =
    ap (λ (x : Outcome). after x (λ x. after (value_of row t) (λ y. apply And x y))) g.judged
    ∙ ap (λ (v : Outcome). after v (λ y. apply And (Judged u) y)) (a.judged row) in
    record {
      judged = e ∙ ap (λ (x : Outcome). Judged (truth_of x)) (sym e);
      truth = a.truth row ∙ ap (λ b. b && is_yes s) g.truth ∙ sym (yes_both u s)
          ∙ ap (λ (x : Outcome). is_yes (truth_of x)) (sym e);
    }

is_and_and : (operator : Operator) → is_and operator ≡ true → operator ≡ And
is_and_and And h = refl
is_and_and Or h = absurd (false≢true h)
is_and_and Plus h = absurd (false≢true h)
is_and_and Minus h = absurd (false≢true h)
is_and_and Times h = absurd (false≢true h)

pub link_joins : (old new : List NumberTest) (l : Further) → is_and l.operator ≡ true → Adds old new (formula l.operand)
    → Joins old new (operand_of l ∷ [])
link_joins old new l h a =
    let P : Operand → Type 0 = λ x. Joins old new (x ∷ []) in
    let Q : Operator → Type 0 = λ x. Joins old new (record { operator = x; operand = formula l.operand } ∷ []) in
    subst P (sym (operand_is l)) (subst Q (sym (is_and_and l.operator h)) (and_joins old new (formula l.operand) a))

along_append : (row : List Meaning) (o : Outcome) (xs ys : List Operand)
    → value_along row o (xs ++ ys) ≡ value_along row (value_along row o xs) ys
along_append row o [] ys = refl
along_append row o (x ∷ xs) ys = along_append row (value_along row o (x ∷ [])) xs ys

pub joins_more : (old mid new : List NumberTest) (ls : List Further) (i : ℕ) (l : Further) → i < length ls → l ≡ get_or ls i l
    → Joins old mid (map operand_of (take i ls)) → Joins mid new (operand_of l ∷ [])
    → Joins old new (map operand_of (take (i + 1) ls))
joins_more old mid new ls i l within at before behind row o g =
    let P : Outcome → Type 0 = Agrees new row in
    let e : map operand_of (take (i + 1) ls) ≡ map operand_of (take i ls) ++ operand_of l ∷ [] =
    ap (map operand_of) (take_more ls i l within) ∙ map-append operand_of (take i ls) (get_or ls i l ∷ [])
    ∙ ap (λ (x : Further). map operand_of (take i ls) ++ operand_of x ∷ []) (sym at) in
    subst P (sym (ap (value_along row o) e ∙ along_append row o (map operand_of (take i ls)) (operand_of l ∷ [])))
    (behind row _ (before row o g))

agreed : (tests : List NumberTest) (t : Formula) → ((row : List Meaning) → Agrees tests row (value_of row t)) → Decide tests t
agreed tests t g = record {
  in_range = λ row. ap is_too_large (g row).judged;
  truth = λ row. sym (g row).truth;
}

added : (tests : List NumberTest) (t : Formula) → Adds [] tests t → (row : List Meaning) → Agrees tests row (value_of row t)
added tests t a row = record { judged = a.judged row; truth = a.truth row }

pub chain_decides : (old mid tests : List NumberTest) (e d : Expr) (first : Box Expr Global) (links : Vec Further Global)
    (ls : List Further) → e ≡ Chain first links → d ≡ first.value → ls ≡ links.items → old ≡ []
    → Adds old mid (formula d) → Joins mid tests (map operand_of ls) → Decide tests (formula e)
chain_decides old mid tests e d first links ls is at slice none a j =
    let P : List NumberTest → Type 0 = λ x. Adds x mid (formula d) in
    agreed tests (formula e) (λ row.
    let Q : Outcome → Type 0 = Agrees tests row in
    subst Q (chain_value row e d first links ls is at slice) (j row _ (added mid (formula d) (subst P none a) row)))

pub link_added : (old new : List NumberTest) (l : Further) (r : Result Bool AllocError) → is_and l.operator ≡ true
    → IfOk r (λ found. found ≡ true → Adds old new (formula l.operand))
    → IfOk r (λ found. found ≡ true → Joins old new (operand_of l ∷ []))
link_added old new l (Ok found) h a = λ e. link_joins old new l h (a e)
link_added old new l (Err fault) h a = tt

pub chain_added : (old mid tests : List NumberTest) (e d : Expr) (first : Box Expr Global) (links : Vec Further Global)
    (ls : List Further) (r : Result Bool AllocError) → e ≡ Chain first links → d ≡ first.value → ls ≡ links.items
    → Adds old mid (formula d) → IfOk r (λ found. found ≡ true → Joins mid tests (map operand_of ls))
    → IfOk r (λ found. found ≡ true → old ≡ [] → Decide tests (formula e))
chain_added old mid tests e d first links ls (Ok found) is at slice a j =
    λ all none. chain_decides old mid tests e d first links ls is at slice none a (j all)
chain_added old mid tests e d first links ls (Err fault) is at slice a j = tt

pub links_found : (ls : List Further) (i : ℕ) (l : Further) → i < length ls → l ≡ get_or ls i l
    → list_all is_number_link (take i ls) ≡ true → is_number_link l ≡ true → list_all is_number_link (take (i + 1) ls) ≡ true
links_found ls i l within at before here = list_all_more is_number_link ls i l within
    ∙ ap (λ b. b && is_number_link (get_or ls i l)) before ∙ ap is_number_link (sym at) ∙ here
