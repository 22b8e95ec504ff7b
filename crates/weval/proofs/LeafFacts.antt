-- Leaves that are compared.
use Rattle.std.proofs.Common.{◌≡◌, ℕ, Bool, List, Option, get_or, refl, sym, ap, ◌∙◌}
use Rattle.std.proofs.lemmas.Bool.{false≢true}
use Rattle.std.specs.declared.cmp.Ordering.{Ordering}
use Rattle.wquery.specs.declared.expression.Comparison.{Comparison}
use Rattle.wquery.specs.declared.expression.Comparison.TheVariants.{GreaterOrEqual, LessOrEqual}
use Rattle.wvalues.specs.Meaning.{Meaning, Null}
use Rattle.wvalues.specs.Truth.{both}
use Rattle.wvalues.specs.declared.truth.Truth.{Truth}
use Rattle.wplan.specs.Formula.{Formula, At, Compared, Within}
use Rattle.weval.specs.Values.{Held, Judged, Outcome, TooLarge, after, compared, is_too_large}
use Rattle.weval.specs.Values.{judged, order_of, truth_of, turned, value_in, value_of}

pub compared_leaves : (row : List Meaning) (c : Comparison) (place : ℕ) (x : Meaning) (left right : Formula)
    (o : Option Ordering) (t : Truth) → left ≡ At place → x ≡ get_or row place Null
    → value_of row right ≡ Held (value_in (value_of row right)) → o ≡ order_of x (value_in (value_of row right)) → t ≡ judged c o
    → value_of row (Compared c left right) ≡ Judged t
compared_leaves row c place x left right o t is at held e f =
    ap (λ l. value_of row (Compared c l right)) is
    ∙ ap (λ (y : Outcome). after y (λ y. Judged (compared c (get_or row place Null) (value_in y)))) held
    ∙ ap (λ v. Judged (judged c (order_of v (value_in (value_of row right))))) (sym at)
    ∙ ap (λ (o : Option Ordering). Judged (judged c o)) (sym e)
    ∙ ap Judged (sym f)

-- a truth that is told behind a part goes by that part
goes_on : (x : Outcome) (f g : Outcome → Outcome) (t : Truth) → after x f ≡ Judged t → after x g ≡ g x
goes_on (Held m) f g t e = refl
goes_on (Judged u) f g t e = refl
goes_on TooLarge f g t e = absurd (false≢true (sym (ap is_too_large e)))

pub between_leaves : (row : List Meaning) (negated : Bool) (x low high : Formula) (s t : Truth)
    → value_of row (Compared GreaterOrEqual x low) ≡ Judged s → value_of row (Compared LessOrEqual x high) ≡ Judged t
    → value_of row (Within negated x low high) ≡ Judged (turned negated (both s t))
between_leaves row negated x low high s t above below =
    let v = value_of row x in
    let l = value_of row low in
    let h = value_of row high in
    let from = sym (goes_on v _ _ s above) ∙ above in
    let to = sym (goes_on v _ _ t below) ∙ below in
    let least : compared GreaterOrEqual (value_in v) (value_in l) ≡ s = ap truth_of (sym (goes_on l _ _ s from) ∙ from) in
    let most : compared LessOrEqual (value_in v) (value_in h) ≡ t = ap truth_of (sym (goes_on h _ _ t to) ∙ to) in
    goes_on v _ _ s above ∙ (goes_on l _ _ s from ∙ (goes_on h _ _ t to
    ∙ (ap (λ b. Judged (turned negated (both b (compared LessOrEqual (value_in v) (value_in h))))) least
    ∙ ap (λ b. Judged (turned negated (both s b))) most)))
