-- Values that are equal in a key's order are the same value.
use Rattle.std.proofs.Common.{◌≡◌, ℕ, zero, suc, ◌+◌, ◌<◌, Bool, true, false, List, [], ◌∷◌}
use Rattle.std.proofs.Common.{length, drop, get_or, cond, refl, sym, ap, ◌∙◌, subst, arith}
use Rattle.std.specs.Ordering.{nat_cmp, int_cmp, is_eq, ordering_then}
use Rattle.std.specs.Cmp.Lexicographic.{slice_cmp}
use Rattle.std.specs.declared.cmp.Ordering.{Ordering}
use Rattle.std.specs.declared.cmp.Ordering.TheVariants.{Less, Equal, Greater}
use Rattle.std.specs.Prelude.{IsTrue}
use Rattle.std.proofs.lemmas.Cmp.{tied_itself}
use Rattle.wvalues.specs.OrderLaws.{key_total}
use Rattle.std.proofs.lemmas.Map.Lookups.{exact_signed, exact_bytes}
use Rattle.wvalues.specs.declared.key.SortKey.{SortKey}
use Rattle.wvalues.specs.Meaning.{Meaning, Null, Int, Text}
use Rattle.wvalues.specs.Order.{key_cmp, keys_cmp}

equal : (o : Ordering) → is_eq o ≡ true → o ≡ Equal
equal Less h = absurd (cc)
equal Equal h = refl
equal Greater h = absurd (cc)

first_equal : (o p : Ordering) → is_eq (ordering_then o p) ≡ true → is_eq o ≡ true
first_equal Less p h = absurd (cc)
first_equal Equal p h = refl
first_equal Greater p h = absurd (cc)

second_equal : (o p : Ordering) → is_eq (ordering_then o p) ≡ true → is_eq p ≡ true
second_equal Less p h = absurd (cc)
second_equal Equal p h = h
second_equal Greater p h = absurd (cc)

never : (b : Bool) (P : Type 0) → is_eq (cond b Less Greater) ≡ true → P
never true P h = absurd (cc)
never false P h = absurd (cc)

never_back : (b : Bool) (P : Type 0) → is_eq (cond b Greater Less) ≡ true → P
never_back true P h = absurd (cc)
never_back false P h = absurd (cc)

module _ {K : Type 0} (cmp : K → K → Ordering) (exact : (x y : K) → cmp x y ≡ Equal → x ≡ y) where
  towards : (desc : Bool) (x y : K) → is_eq (cond desc (cmp y x) (cmp x y)) ≡ true → x ≡ y
  towards true x y h = sym (exact y x (equal (cmp y x) h))
  towards false x y h = exact x y (equal (cmp x y) h)

pub same_value : (k : SortKey) (x y : Meaning) → is_eq (key_cmp k x y) ≡ true → x ≡ y
same_value k Null Null h = refl
same_value k Null (Int y) h = never k.nulls_first (Null ≡ Int y) h
same_value k Null (Text y) h = never k.nulls_first (Null ≡ Text y) h
same_value k (Int x) Null h = never_back k.nulls_first (Int x ≡ Null) h
same_value k (Text x) Null h = never_back k.nulls_first (Text x ≡ Null) h
same_value k (Int x) (Int y) h = ap Int (towards int_cmp exact_signed k.desc x y h)
same_value k (Text x) (Text y) h = ap Text (towards (slice_cmp nat_cmp) exact_bytes k.desc x y h)
same_value k (Int x) (Text y) h = absurd (cc)
same_value k (Text x) (Int y) h = absurd (cc)

pub same_values : (ks : List SortKey) (xs ys : List Meaning) → length xs ≡ length ks → length ys ≡ length ks
    → is_eq (keys_cmp ks xs ys) ≡ true → xs ≡ ys
same_values [] [] [] e f h = refl
same_values [] (x ∷ xs) ys e f h = absurd (omega arith)
same_values [] [] (y ∷ ys) e f h = absurd (omega arith)
same_values (k ∷ ks) [] ys e f h = absurd (omega arith)
same_values (k ∷ ks) (x ∷ xs) [] e f h = absurd (omega arith)
same_values (k ∷ ks) (x ∷ xs) (y ∷ ys) e f h =
    ap (λ z. z ∷ xs) (same_value k x y (first_equal (key_cmp k x y) (keys_cmp ks xs ys) h))
    ∙ ap (λ zs. y ∷ zs) (same_values ks xs ys (omega arith) (omega arith) (second_equal (key_cmp k x y) (keys_cmp ks xs ys) h))

-- whether two values are the same decides whether they are equal by a key
pub same_decides : (k : SortKey) (x y : Meaning) (b : Bool) → (IsTrue b → x ≡ y) → (x ≡ y → IsTrue b) → b ≡ is_eq (key_cmp k x y)
same_decides k x y b there back = by b (is_eq (key_cmp k x y)) there back (same_value k x y)
    (λ e. ap (λ z. is_eq (key_cmp k x z)) (sym e) ∙ ap is_eq (tied_itself (key_total k) x))
  where
    by : (b c : Bool) → (IsTrue b → x ≡ y) → (x ≡ y → IsTrue b) → (c ≡ true → x ≡ y) → (x ≡ y → c ≡ true) → b ≡ c
    by true c there back value tied = sym (tied (there refl))
    by false true there back value tied = back (value refl)
    by false false there back value tied = refl

-- what the first keys leave to the others
pub equal_then : (o p : Ordering) → is_eq o ≡ true → is_eq (ordering_then o p) ≡ is_eq p
equal_then Less p h = absurd (cc)
equal_then Equal p h = refl
equal_then Greater p h = absurd (cc)

pub other_then : (o p : Ordering) → is_eq o ≡ false → is_eq (ordering_then o p) ≡ false
other_then Less p h = refl
other_then Equal p h = absurd (cc)
other_then Greater p h = refl

-- the keys from i on decide by the first of them, then by those from n on
abbrev Decides : List SortKey → List Meaning → List Meaning → ℕ → ℕ → Type 0
Decides ks xs ys i n = (k : SortKey) × (keys_cmp (drop i ks) (drop i xs) (drop i ys)
    ≡ ordering_then (key_cmp k (get_or xs i Null) (get_or ys i Null)) (keys_cmp (drop n ks) (drop n xs) (drop n ys)))

keys_from : (ks : List SortKey) (xs ys : List Meaning) (i : ℕ) → i < length ks → length xs ≡ length ks
    → length ys ≡ length ks → Decides ks xs ys i (suc i)
keys_from [] xs ys i h e f = absurd (omega arith)
keys_from (k ∷ ks) [] ys i h e f = absurd (omega arith)
keys_from (k ∷ ks) (z ∷ zs) [] i h e f = absurd (omega arith)
keys_from (k ∷ ks) (z ∷ zs) (w ∷ ws) zero h e f = (k, refl)
keys_from (k ∷ ks) (z ∷ zs) (w ∷ ws) (suc i) h e f = keys_from ks zs ws i (omega arith) (omega arith) (omega arith)

pub keys_then : (ks : List SortKey) (xs ys : List Meaning) (i : ℕ) → i < length ks → length xs ≡ length ks
    → length ys ≡ length ks → Decides ks xs ys i (i + 1)
keys_then ks xs ys i h e f =
    let n : suc i ≡ i + 1 = omega arith in
    subst (Decides ks xs ys i) n (keys_from ks xs ys i h e f)
