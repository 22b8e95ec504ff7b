-- Expressions that are one have one type, and each call of a SELECT has its place among those that are listed.
use Rattle.std.proofs.Common.{◌≡◌, Bool, true, false, ◌&&◌, ◌||◌, ℕ, zero, suc, ◌+◌, List, [], ◌∷◌}
use Rattle.std.proofs.Common.{◌++◌, length, map, Some, refl, sym, ap, ap₂, ◌∙◌, true≢false, arith}
use Rattle.std.specs.Prelude.{if◌then◌else◌}
use Rattle.std.specs.List.{list_all, list_any}
use Rattle.std.proofs.lemmas.Bool.{and_parts, or_left, or_right}
use Rattle.std.proofs.lemmas.List.Folds.{list_all-append, list_any-append}
use Rattle.wquery.specs.Tree.{Tree, Invoked, Trees, NoTrees, MoreTrees, Given, These}
use Rattle.wnodes.specs.Sameness.{is_same}
use Rattle.wscope.specs.declared.data_type.DataType.{DataType}
use Rattle.wscope.specs.Functions.{function_of}
use Rattle.wscope.specs.Types.{Titled, call_type, given_type, type_at, type_of}
use Rattle.wdistinct.specs.Calls.{with_new}
use Rattle.wdistinct.specs.Places.{place_of_same}
use Rattle.wnodes.specs.Plain.{plain, plain_given, plain_trees, same_equiv, to}
use Rattle.wtyped.specs.Typing as row

-- what reads nothing that equality looks through is one of two equal expressions
pub one_of : {X : Type 0} (f : Tree → X) → ((t : Tree) → f (plain t) ≡ f t) → (t u : Tree) → is_same t u ≡ true → f t ≡ f u
one_of f same t u e = sym (same t) ∙ ap f (to t u e) ∙ same u

mutual
  plain_type : (cs : List Titled) (t : Tree) → type_of cs (plain t) ≡ type_of cs t
  plain_type cs (Invoked name given filter reach) =
      ap₂ (call_type (function_of name)) (plain_given_type cs zero given) (plain_given_type cs (suc (suc zero)) given)
  plain_type cs _ = refl

  plain_given_type : (cs : List Titled) (n : ℕ) (g : Given) → given_type cs n (plain_given g) ≡ given_type cs n g
  plain_given_type cs n (These ts) = plain_at cs n ts
  plain_given_type cs n _ = refl

  plain_at : (cs : List Titled) (n : ℕ) (ts : Trees) → type_at cs n (plain_trees ts) ≡ type_at cs n ts
  plain_at cs n NoTrees = refl
  plain_at cs zero (MoreTrees t ts) = plain_type cs t
  plain_at cs (suc n) (MoreTrees t ts) = plain_at cs n ts

-- whether a call is one of these
abbrev pub is_listed : List Tree → Tree → Bool
is_listed calls t = list_any (λ (u : Tree). is_same u t) calls

-- the cell of a listed call has its type
pub listed_type : (cs : List Titled) (calls : List Tree) (t : Tree) (more : List DataType) → is_listed calls t ≡ true
    → row.type_at (place_of_same calls t) (map (type_of cs) calls ++ more) ≡ Some (type_of cs t)
listed_type cs [] t more e = absurd (true≢false (sym e))
listed_type cs (u ∷ us) t more e = go (is_same u t) (λ f. listed_type cs us t more f) refl e
  where
    go : (b : Bool) → (is_listed us t ≡ true → row.type_at (place_of_same us t) (map (type_of cs) us ++ more) ≡ Some (type_of cs t))
        → is_same u t ≡ b → (b || is_listed us t) ≡ true
        → row.type_at (if b then zero else suc (place_of_same us t)) (type_of cs u ∷ (map (type_of cs) us ++ more)) ≡ Some (type_of cs t)
    go true rest same f = ap Some (one_of (type_of cs) (plain_type cs) u t same)
    go false rest same f = rest f

-- a cell behind others
pub behind : (ts us : List DataType) (k : ℕ) → row.type_at (length ts + k) (ts ++ us) ≡ row.type_at k us
behind [] us k = let here : 0 + k ≡ k = omega arith in ap (λ n. row.type_at n us) here
behind (t ∷ ts) us k =
    let next : suc (length ts) + k ≡ suc (length ts + k) = omega arith in ap (λ n. row.type_at n (t ∷ (ts ++ us))) next ∙ behind ts us k

pub before : (ts us : List DataType) (k : ℕ) (t : DataType) → row.type_at k ts ≡ Some t → row.type_at k (ts ++ us) ≡ Some t
before [] us k t e = cc
before (u ∷ ts) us zero t e = e
before (u ∷ ts) us (suc k) t e = before ts us k t e

-- each call of a list is one of those that are listed once

still : (found ts : List Tree) (t : Tree) → is_listed found t ≡ true → is_listed (with_new found ts) t ≡ true
still found [] t e = e
still found (u ∷ us) t e = still (if is_listed found u then found else found ++ (u ∷ [])) us t (go (is_listed found u))
  where
    go : (b : Bool) → is_listed (if b then found else found ++ (u ∷ [])) t ≡ true
    go true = e
    go false = list_any-append (λ (x : Tree). is_same x t) found (u ∷ []) ∙ or_left _ _ e

pub all_listed : (found ts : List Tree) → list_all (is_listed (with_new found ts)) ts ≡ true
all_listed found [] = refl
all_listed found (t ∷ ts) =
    ap₂ (λ a b. a && b) (here (is_listed found t) refl) (all_listed (if is_listed found t then found else found ++ (t ∷ [])) ts)
  where
    here : (b : Bool) → is_listed found t ≡ b → is_listed (with_new (if is_listed found t then found else found ++ (t ∷ [])) ts) t ≡ true
    here true e =
        still (if is_listed found t then found else found ++ (t ∷ [])) ts t
        (ap (λ (b : Bool). is_listed (if b then found else found ++ (t ∷ [])) t) e ∙ e)
    here false e =
        still (if is_listed found t then found else found ++ (t ∷ [])) ts t
        (ap (λ (b : Bool). is_listed (if b then found else found ++ (t ∷ [])) t) e
        ∙ list_any-append (λ (x : Tree). is_same x t) found (t ∷ []) ∙ or_right _ _ (or_left _ _ (same_equiv.refl t)))

-- what holds of all that is listed holds of each once
pub each_once : (p : Tree → Bool) (found ts : List Tree) → list_all p found ≡ true → list_all p ts ≡ true
    → list_all p (with_new found ts) ≡ true
each_once p found [] a b = a
each_once p found (t ∷ ts) a b =
    let parts = and_parts _ _ b in each_once p (if is_listed found t then found else found ++ (t ∷ [])) ts
    (more (is_listed found t) parts.0) parts.1
  where
    more : (known : Bool) → p t ≡ true → list_all p (if known then found else found ++ (t ∷ [])) ≡ true
    more true e = a
    more false e = list_all-append p found (t ∷ []) ∙ ap₂ (λ u v. u && (v && true)) a e
