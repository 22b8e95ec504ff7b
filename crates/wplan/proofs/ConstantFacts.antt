-- Constants that come to the sets in which they are found.
use Rattle.std.proofs.Common.{◌≡◌, ℕ, suc, ℤ, Bool, arith, true, false, not, ◌||◌, ◌==◌, cond, List, [], ◌∷◌, ◌++◌}
use Rattle.std.proofs.Common.{refl, ap, sym, ◌∙◌, ◌+◌, ◌<◌, map, take, length, get_or}
use Rattle.std.proofs.lemmas.Bool.{false≢true}
use Rattle.std.proofs.lemmas.Bool.Decides.{nat_tests}
use Rattle.std.proofs.lemmas.Cmp.{int_cmp_total, tied_itself}
use Rattle.std.proofs.lemmas.List.{map-append, take_more}
use Rattle.std.proofs.lemmas.List.Folds.{list_any-append}
use Rattle.std.proofs.lemmas.Map.Lookups.{exact_signed}
use Rattle.std.proofs.lemmas.Map.Text.{btree_set_updates_text}
use Rattle.std.proofs.lemmas.Slice.Eq.{bytes_eq-Decides}
use Rattle.std.specs.Bool.{Decides}
use Rattle.std.specs.BTreeSet.{BTreeSet, contains_text}
use Rattle.std.specs.BTreeSet as sets
use Rattle.std.specs.Cmp.{signed_Decides}
use Rattle.std.specs.List.{list_any}
use Rattle.std.specs.Ordering.{int_cmp, int_eq, is_eq}
use Rattle.std.specs.Str.{bytes_eq}
use Rattle.std.specs.String.{string_bytes, string_cmp}
use Rattle.std.specs.declared.alloc.Global.{Global}
use Rattle.std.specs.declared.cmp.Ordering.{Ordering}
use Rattle.std.specs.declared.cmp.Ordering.TheVariants.{Less, Equal, Greater}
use Rattle.std.specs.declared.string.String.{String}
use Rattle.wvalues.specs.Meaning.{Meaning, Null, Int, Text, meaning, text_in}
use Rattle.wvalues.specs.declared.value.Value.{Value}
use Rattle.wplan.specs.Constants.{are_equal, is_no_text, stand_apart}

-- two tests that decide the same
same : {A : Type 0} (r s : Bool) → Decides r A → Decides s A → r ≡ s
same true s d e = sym (e.1 (d.0 refl))
same false true d e = d.1 (e.0 refl)
same false false d e = refl

or_same : (a b : Bool) → cond a true b ≡ (b || a)
or_same true true = refl
or_same true false = refl
or_same false true = refl
or_same false false = refl

or_false : (a b : Bool) → (a || (b || false)) ≡ (a || b)
or_false true b = refl
or_false false true = refl
or_false false false = refl

or_none : (a b : Bool) → b ≡ false → a ≡ (a || b)
or_none true b e = refl
or_none false b e = sym e

-- one more value
any_more : (p : Meaning → Bool) (vs : List Value) (i : ℕ) (v : Value) → i < length vs → v ≡ get_or vs i v
    → list_any p (map meaning (take (i + 1) vs)) ≡ (list_any p (map meaning (take i vs)) || p (meaning v))
any_more p vs i v h e =
    ap (λ (xs : List Value). list_any p (map meaning xs)) (take_more vs i v h)
    ∙ ap (λ (x : Value). list_any p (map meaning (take i vs ++ x ∷ []))) (sym e)
    ∙ ap (list_any p) (map-append meaning (take i vs) (v ∷ []))
    ∙ list_any-append p (map meaning (take i vs)) (meaning v ∷ [])
    ∙ or_false (list_any p (map meaning (take i vs))) (p (meaning v))

-- numbers are equal where they stand in no order, as texts are
tied : (x y : ℤ) (o : Ordering) → o ≡ int_cmp x y → is_eq o ≡ true → x ≡ y
tied x y Less e h = absurd (false≢true h)
tied x y Equal e h = exact_signed x y (sym e)
tied x y Greater e h = absurd (false≢true h)

pub numbers_tied : (x y : ℤ) → is_eq (int_cmp x y) ≡ int_eq x y
numbers_tied x y = same (is_eq (int_cmp x y)) (int_eq x y)
    (tied x y (int_cmp x y) refl, λ e. ap (λ (z : ℤ). is_eq (int_cmp x z)) (sym e) ∙ ap is_eq (tied_itself int_cmp_total x))
    (signed_Decides x y)

text_sym : (a b : List ℕ) → bytes_eq a b ≡ bytes_eq b a
text_sym a b = same (bytes_eq a b) (bytes_eq b a) (bytes_eq-Decides a b)
    (λ h. sym ((bytes_eq-Decides b a).0 h), λ e. (bytes_eq-Decides b a).1 (sym e))

pub text_added : (old new : BTreeSet (String Global)) (vs : List Value) (i : ℕ) (v : Value) (t : String Global) → i < length vs
    → v ≡ get_or vs i v → is_no_text (meaning v) ≡ false → string_bytes t ≡ text_in (meaning v)
    → sets.Updates string_cmp old new t true
    → ((x : List ℕ) → contains_text old x ≡ list_any (are_equal (Text x)) (map meaning (take i vs)))
    → (x : List ℕ) → contains_text new x ≡ list_any (are_equal (Text x)) (map meaning (take (i + 1) vs))
text_added old new vs i v t h e kind bytes u before x =
    btree_set_updates_text (string_bytes t) old new true u x
    ∙ or_same (bytes_eq (string_bytes t) x) (contains_text old x)
    ∙ ap (λ (b : Bool). b || bytes_eq (string_bytes t) x) (before x)
    ∙ ap (λ (b : Bool). list_any (are_equal (Text x)) (map meaning (take i vs)) || b)
    (text_sym (string_bytes t) x ∙ ap (bytes_eq x) bytes ∙ text_is (meaning v) kind)
    ∙ sym (any_more (are_equal (Text x)) vs i v h e)
  where
    text_is : (m : Meaning) → is_no_text m ≡ false → bytes_eq x (text_in m) ≡ are_equal (Text x) m
    text_is Null k = absurd (false≢true (sym k))
    text_is (Int n) k = absurd (false≢true (sym k))
    text_is (Text s) k = refl

no_text_is : (x : List ℕ) (m : Meaning) → is_no_text m ≡ true → are_equal (Text x) m ≡ false
no_text_is x Null k = refl
no_text_is x (Int n) k = refl
no_text_is x (Text t) k = absurd (false≢true k)

pub no_text_added : (vs : List Value) (i : ℕ) (v : Value) (set : BTreeSet (String Global)) → i < length vs → v ≡ get_or vs i v
    → is_no_text (meaning v) ≡ true
    → ((x : List ℕ) → contains_text set x ≡ list_any (are_equal (Text x)) (map meaning (take i vs)))
    → (x : List ℕ) → contains_text set x ≡ list_any (are_equal (Text x)) (map meaning (take (i + 1) vs))
no_text_added vs i v set h e kind before x =
    before x ∙ or_none (list_any (are_equal (Text x)) (map meaning (take i vs))) (are_equal (Text x) (meaning v))
    (no_text_is x (meaning v) kind) ∙ sym (any_more (are_equal (Text x)) vs i v h e)

-- a null is equal to none, and apart from all
pub null_equals_none : (ms : List Meaning) → false ≡ list_any (are_equal Null) ms
null_equals_none [] = refl
null_equals_none (m ∷ ms) = null_equals_none ms

pub null_apart_from_all : (m : Meaning) (vs : List Value) (ms : List Meaning) (is_empty : Bool) → m ≡ Null → map meaning vs ≡ ms
    → is_empty ≡ (length vs == 0) → not is_empty ≡ list_any (stand_apart m) ms
null_apart_from_all m [] ms is_empty null view e = ap not e ∙ ap (list_any (stand_apart m)) view
null_apart_from_all m (v ∷ vs) ms is_empty null view e =
    ap not (e ∙ long (length vs)) ∙ ap (λ (x : Meaning). list_any (stand_apart x) (map meaning (v ∷ vs))) (sym null)
    ∙ ap (list_any (stand_apart m)) view
  where
    long : (n : ℕ) → (suc n == 0) ≡ false
    long n = grind (arith, nat_tests)

-- a number is apart from what is none, and a text from what is none
pub apart : (m : Meaning) (p : Meaning → Bool) (vs : List Value) (ms : List Meaning) (has : Bool)
    → ((n : Meaning) → stand_apart m n ≡ p n) → map meaning vs ≡ ms → has ≡ list_any (λ v. p (meaning v)) vs
    → has ≡ list_any (stand_apart m) ms
apart m p vs ms has same view e = e ∙ mapped vs ∙ ap (list_any (stand_apart m)) view
  where
    mapped : (vs : List Value) → list_any (λ v. p (meaning v)) vs ≡ list_any (stand_apart m) (map meaning vs)
    mapped [] = refl
    mapped (v ∷ vs) = ap (λ (b : Bool). b || list_any (λ v. p (meaning v)) vs) (sym (same (meaning v)))
        ∙ ap (λ (b : Bool). stand_apart m (meaning v) || b) (mapped vs)
