-- Constants of a list, to which a value is compared one by one.
use Rattle.std.proofs.Common.{◌≡◌, pos, negsuc, Bool, true, false, ◌||◌, List, [], ◌∷◌, map, refl, sym, ap, ◌∙◌, if◌then◌else◌}
use Rattle.std.proofs.lemmas.Map.Text.{is_eq-slice_cmp}
use Rattle.std.specs.declared.boxed.Box.{Box}
use Rattle.std.specs.declared.alloc.Global.{Global}
use Rattle.std.specs.List.{list_any}
use Rattle.std.specs.Ordering.{int_eq}
use Rattle.std.specs.Str.{bytes_eq}
use Rattle.wquery.specs.declared.expression.Comparison.TheVariants.{Equal}
use Rattle.wvalues.specs.Meaning.{Meaning, Null, Int, Text}
use Rattle.wvalues.specs.Truth.{either}
use Rattle.wvalues.specs.declared.truth.Truth.{Truth}
use Rattle.wvalues.specs.declared.truth.Truth.TheVariants.{Yes, No, Unknown}
use Rattle.wplan.specs.Constants.{are_equal, stand_apart}
use Rattle.wplan.specs.Formula.{Formula, Operand, Among, constant, formula, formulas, operand_of, expr_step, further_step}
use Rattle.wplan.specs.declared.expr.Expr.{Expr}
use Rattle.wplan.specs.declared.expr.Expr.TheVariants.{InConstants, rolls-InConstants}
use Rattle.wplan.specs.declared.expr.Expr.TheOpen as layer
use Rattle.wplan.specs.declared.expr.Expr.TheFolds.{fold-Expr, fold-roll-Expr}
use Rattle.wplan.proofs.ConstantFacts.{numbers_tied}
use Rattle.weval.specs.Values.{Outcome, Held, Judged, after, compared, is_among, truth_of, turned, value_in, value_of}
use Rattle.weval.specs.Cells.{outcome}
use Rattle.weval.specs.declared.cell.Cell.{Cell}
use Rattle.weval.proofs.Running.{after_cell}

-- yes where one is equal, else unknown where one stands apart
abbrev pub pick : Bool → Bool → Truth
pick true apart = Yes
pick false true = Unknown
pick false false = No

one : (x y : Meaning) → compared Equal x y ≡ pick (are_equal x y) (stand_apart x y)
one Null y = refl
one (Int x) Null = refl
one (Int x) (Int y) = ap (λ (b : Bool). if b then Yes else No) (numbers_tied x y) ∙ two (int_eq x y)
  where
    two : (b : Bool) → (if b then Yes else No) ≡ pick b false
    two true = refl
    two false = refl
one (Int x) (Text t) = refl
one (Text t) Null = refl
one (Text t) (Int y) = refl
one (Text s) (Text t) = ap (λ (b : Bool). if b then Yes else No) (is_eq-slice_cmp s t) ∙ two (bytes_eq s t)
  where
    two : (b : Bool) → (if b then Yes else No) ≡ pick b false
    two true = refl
    two false = refl

-- what was found so far, and one more
more : (found : Truth) (equal apart others_equal others_apart : Bool)
    → either (either found (pick equal apart)) (pick others_equal others_apart)
    ≡ either found (pick (equal || others_equal) (apart || others_apart))
more Yes equal apart others_equal others_apart = refl
more No true apart others_equal others_apart = refl
more No false true true others_apart = refl
more No false true false true = refl
more No false true false false = refl
more No false false true others_apart = refl
more No false false false true = refl
more No false false false false = refl
more Unknown true apart others_equal others_apart = refl
more Unknown false true true others_apart = refl
more Unknown false true false true = refl
more Unknown false true false false = refl
more Unknown false false true others_apart = refl
more Unknown false false false true = refl
more Unknown false false false false = refl

none : (found : Truth) → found ≡ either found No
none Yes = refl
none No = refl
none Unknown = refl

-- a constant is itself on every row
constant_is : (row : List Meaning) (m : Meaning) → value_of row (constant m) ≡ Held m
constant_is row Null = refl
constant_is row (Int (pos n)) = refl
constant_is row (Int (negsuc n)) = refl
constant_is row (Text text) = refl

along : (row ms : List Meaning) (x : Meaning) (found : Truth) → is_among row x found (formulas (map constant ms))
    ≡ Judged (either found (pick (list_any (are_equal x) ms) (list_any (stand_apart x) ms)))
along row [] x found = ap Judged (none found)
along row (m ∷ ms) x found =
    ap (λ (o : Outcome). after o (λ y. is_among row x (either found (compared Equal x (value_in y))) (formulas (map constant ms))))
    (constant_is row m) ∙ along row ms x (either found (compared Equal x m))
    ∙ ap (λ (t : Truth). Judged (either (either found t) (pick (list_any (are_equal x) ms) (list_any (stand_apart x) ms)))) (one x m)
    ∙ ap Judged (more found (are_equal x m) (stand_apart x m) (list_any (are_equal x) ms) (list_any (stand_apart x) ms))

pub among_is : (row ms : List Meaning) (x : Meaning) (equal apart : Bool) (t : Truth) → equal ≡ list_any (are_equal x) ms
    → apart ≡ list_any (stand_apart x) ms → t ≡ pick equal apart → is_among row x No (formulas (map constant ms)) ≡ Judged t
among_is row ms x equal apart t e a is = along row ms x No
    ∙ rw (sym e, sym a, is) (alone (pick equal apart))
  where
    alone : (t : Truth) → Judged (either No t) ≡ Judged t
    alone Yes = refl
    alone No = refl
    alone Unknown = refl

formula_among : (negated : Bool) (operand : Box Expr Global) (list : List Meaning)
    → formula (InConstants negated operand list) ≡ Among negated (formula operand.value) (formulas (map constant list))
unfolding formula operand_of
formula_among negated operand list = ap (fold-Expr Formula Operand expr_step further_step)
    (sym (rolls-InConstants negated operand list))
    ∙ fold-roll-Expr Formula Operand expr_step further_step (layer.InConstants negated operand list)

pub constants_give : (row list : List Meaning) (e d : Expr) (negated : Bool) (operand : Box Expr Global) (x : Cell) (t : Truth)
    → e ≡ InConstants negated operand list → d ≡ operand.value → outcome x ≡ value_of row (formula d)
    → is_among row (value_in (outcome x)) No (formulas (map constant list)) ≡ Judged t
    → Judged (turned negated t) ≡ value_of row (formula e)
constants_give row list e d negated operand x t is at value among =
    ap found (sym among) ∙ sym (after_cell x (λ o. found (is_among row (value_in o) No (formulas (map constant list)))))
    ∙ ap whole (value ∙ ap (λ (y : Expr). value_of row (formula y)) at)
    ∙ sym (ap (value_of row) (formula_among negated operand list)) ∙ sym (ap (λ (y : Expr). value_of row (formula y)) is)
  where
    found : Outcome → Outcome
    found o = after o (λ f. Judged (turned negated (truth_of f)))

    whole : Outcome → Outcome
    whole o = after o (λ x. found (is_among row (value_in x) No (formulas (map constant list))))
