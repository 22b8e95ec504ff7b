-- What a type that is found says of the types of the parts.
use Rattle.std.proofs.Common.{◌≡◌, Bool, true, false, List, Option, Some, None, refl, sym, ap, ◌∙◌, true≢false}
use Rattle.wscope.specs.declared.data_type.DataType.{DataType}
use Rattle.wscope.specs.declared.data_type.DataType.TheVariants.{Integer, Text, Truth, Null}
use Rattle.wplan.specs.Formula.{Formulas, NoFormulas, MoreFormulas}
use Rattle.wscope.specs.Types.{fits_integer, fits_text}
use Rattle.wtyped.specs.Typing.{beside, beside_all, common, formula_type, has, is_number, judged, valued, where_holds}
use Rattle.wtyped.proofs.Lists.{some_is}

-- where a type is, there is one
pub record Passes (p : DataType → Bool) (o : Option DataType) : Type 0 where
  pub type : DataType
  pub is : o ≡ Some type
  pub passes : p type ≡ true

pub has_type : (p : DataType → Bool) (o : Option DataType) → has p o ≡ true → Passes p o
has_type p None e = absurd (true≢false (sym e))
has_type p (Some t) e = record { type = t; is = refl; passes = e }

pub held : (b : Bool) (u t : DataType) → where_holds b u ≡ Some t → (b ≡ true) × (u ≡ t)
held true u t e = (refl, cc)
held false u t e = cc

pub is_judged : (o : Option DataType) (t : DataType) → judged o ≡ Some t → Passes (λ u. true) o × (Truth ≡ t)
is_judged None t e = cc
is_judged (Some u) t e = (record { type = u; is = refl; passes = refl }, cc)

pub record Beside (o p : Option DataType) (c : DataType) : Type 0 where
  pub left : DataType
  pub right : DataType
  pub is_left : o ≡ Some left
  pub is_right : p ≡ Some right
  pub one : common left right ≡ Some c

pub parts : (o p : Option DataType) (c : DataType) → beside o p ≡ Some c → Beside o p c
parts None p c e = cc
parts (Some a) None c e = cc
parts (Some a) (Some b) c e = record { left = a; right = b; is_left = refl; is_right = refl; one = e }

-- values of a type, where null is one of each
abbrev pub fits : DataType → DataType → Bool
fits Integer t = fits_integer t
fits Text t = fits_text t
fits _ t = false

abbrev pub family : DataType → DataType
family Text = Text
family _ = Integer

pub number_fits : (t : DataType) → is_number t ≡ true → fits Integer t ≡ true
number_fits Integer e = refl
number_fits Null e = refl
number_fits Text e = absurd (true≢false (sym e))
number_fits Truth e = absurd (true≢false (sym e))

null_fits : (k t : DataType) → fits k t ≡ true → fits k Null ≡ true
null_fits Integer t e = refl
null_fits Text t e = refl
null_fits _ t e = absurd (true≢false (sym e))

-- what two types have in common fits both
pub common_fits : (k a b c : DataType) → fits k c ≡ true → common a b ≡ Some c → (fits k a ≡ true) × (fits k b ≡ true)
common_fits k Integer Integer c f e = let is : Integer ≡ c = cc in let fit : fits k Integer ≡ true = ap (fits k) is ∙ f in (fit, fit)
common_fits k Text Text c f e = let is : Text ≡ c = cc in let fit : fits k Text ≡ true = ap (fits k) is ∙ f in (fit, fit)
common_fits k Null Null c f e = let is : Null ≡ c = cc in let fit : fits k Null ≡ true = ap (fits k) is ∙ f in (fit, fit)
common_fits k Integer Null c f e =
    let is : Integer ≡ c = cc in let fit : fits k Integer ≡ true = ap (fits k) is ∙ f in (fit, null_fits k Integer fit)
common_fits k Null Integer c f e =
    let is : Integer ≡ c = cc in let fit : fits k Integer ≡ true = ap (fits k) is ∙ f in (null_fits k Integer fit, fit)
common_fits k Text Null c f e = let is : Text ≡ c = cc in let fit : fits k Text ≡ true = ap (fits k) is ∙ f in (fit, null_fits k Text fit)
common_fits k Null Text c f e = let is : Text ≡ c = cc in let fit : fits k Text ≡ true = ap (fits k) is ∙ f in (null_fits k Text fit, fit)
common_fits k _ _ c f e = cc

pub common_family : (a b c : DataType) → common a b ≡ Some c → fits (family c) c ≡ true
common_family Integer Integer c e = ap (λ (t : DataType). fits (family t) t) (sym (some_is Integer c e))
common_family Integer Null c e = ap (λ (t : DataType). fits (family t) t) (sym (some_is Integer c e))
common_family Text Text c e = ap (λ (t : DataType). fits (family t) t) (sym (some_is Text c e))
common_family Text Null c e = ap (λ (t : DataType). fits (family t) t) (sym (some_is Text c e))
common_family Null Integer c e = ap (λ (t : DataType). fits (family t) t) (sym (some_is Integer c e))
common_family Null Text c e = ap (λ (t : DataType). fits (family t) t) (sym (some_is Text c e))
common_family Null Null c e = ap (λ (t : DataType). fits (family t) t) (sym (some_is Null c e))
common_family _ _ c e = cc

-- a value's type fits its family
pub valued_family : (o : Option DataType) (t : DataType) → valued o ≡ Some t → (o ≡ Some t) × (fits (family t) t ≡ true)
valued_family None t e = cc
valued_family (Some Integer) t e = (e, ap (λ (u : DataType). fits (family u) u) (sym (some_is Integer t e)))
valued_family (Some Text) t e = (e, ap (λ (u : DataType). fits (family u) u) (sym (some_is Text t e)))
valued_family (Some Null) t e = (e, ap (λ (u : DataType). fits (family u) u) (sym (some_is Null t e)))
valued_family (Some Truth) t e = cc

abbrev pub IsValued : Option DataType → Type 0
IsValued o = (t : DataType) → o ≡ Some t → fits (family t) t ≡ true

pub valued_is : (o : Option DataType) → IsValued (valued o)
valued_is o t e = (valued_family o t e).1

beside_valued : (o p : Option DataType) → IsValued (beside o p)
beside_valued o p t e = let is = parts o p t e in common_family is.left is.right t is.one

pub all_valued : (ts : List DataType) (o : Option DataType) (fs : Formulas) → IsValued o → IsValued (beside_all ts o fs)
all_valued ts o NoFormulas v = v
all_valued ts o (MoreFormulas f fs) v = all_valued ts (beside o (formula_type ts f)) fs (beside_valued o (formula_type ts f))

pub all_fit : (ts : List DataType) (o : Option DataType) (fs : Formulas) (k t : DataType) → fits k t ≡ true → beside_all ts o fs ≡ Some t
    → Passes (fits k) o
all_fit ts o NoFormulas k t f e = record { type = t; is = e; passes = f }
all_fit ts o (MoreFormulas g fs) k t f e =
    let rest = all_fit ts (beside o (formula_type ts g)) fs k t f e in
    let is = parts o (formula_type ts g) rest.type rest.is in
    record { type = is.left; is = is.is_left; passes = (common_fits k is.left is.right rest.type rest.passes is.one).0 }
