-- The names that new files have are found among those of a folder.
use Rattle.std.specs.Prelude.{take, codes, ◌==◌}
use Rattle.std.specs.List.{list_all}
use Rattle.std.specs.Char.{is_ascii_digit}
use Rattle.std.specs.Str.{IsAscii, IsUtf8}
use Rattle.std.proofs.Common.{◌≡◌, ◌≢◌, inl, inr, ⊎_elim, refl, sym, ap, subst, ◌∙◌, ℕ, zero, suc, ◌+◌, ◌<◌, ◌≤◌, arith, rules}
use Rattle.std.proofs.Common.{List, [], ◌∷◌, ◌++◌, get_or, length, drop, map, true}
use Rattle.std.proofs.lemmas.Bool.{and_parts, eqb-true, leb-true, or_cases}
use Rattle.std.proofs.lemmas.Str.{IsUtf8-append, IsUtf8-from_ascii}
use Rattle.std.proofs.lemmas.List.{drop_more, map-append, take-append-drop}
use Rattle.wfolder.specs.Names.{IsNewName, is_number_byte}
use Rattle.wfiles.specs.Listing.{FindsNew, IsOneOf, Keeps, names_in}

-- those of the names so far are found, where those of the rest are
abbrev pub FindsRest : List ℕ → List (List ℕ) → List ℕ → ℕ → Type 0
FindsRest bytes found name i = (ns : List (List ℕ)) → Keeps found ns → FindsNew (names_in name (drop i bytes)) ns
    → FindsNew (names_in [] bytes) ns

-- one byte more of a name
more_byte : (b : ℕ) (name rest : List ℕ) → b ≢ 0 → names_in name (b ∷ rest) ≡ names_in (name ++ b ∷ []) rest
more_byte zero name rest other = absurd (other refl)
more_byte (suc b) name rest other = refl

pub finds_byte : (bytes : List ℕ) (found : List (List ℕ)) (name new : List ℕ) (i b : ℕ) → i < length bytes → b ≡ get_or bytes i 0
    → b ≢ 0 → new ≡ name ++ b ∷ [] → FindsRest bytes found name i → FindsRest bytes found new (i + 1)
finds_byte bytes found name new i b bound at other is before ns keeps finds =
    let left : drop i bytes ≡ b ∷ drop (i + 1) bytes = drop_more bytes i 0 bound ∙ ap (λ (x : ℕ). x ∷ drop (i + 1) bytes) (sym at) in
    let same : names_in name (drop i bytes) ≡ names_in new (drop (i + 1) bytes) =
    ap (names_in name) left ∙ more_byte b name (drop (i + 1) bytes) other
    ∙ ap (λ (n : List ℕ). names_in n (drop (i + 1) bytes)) (sym is) in
    before ns keeps (subst (λ (names : List (List ℕ)). FindsNew names ns) (sym same) finds)

-- a name is whole
whole_name : (b : ℕ) (name rest : List ℕ) → b ≡ 0 → names_in name (b ∷ rest) ≡ name ∷ names_in [] rest
whole_name zero name rest is = refl
whole_name (suc b) name rest is = absurd (omega (arith, is))

pub finds_name : (bytes : List ℕ) (found more : List (List ℕ)) (name new : List ℕ) (i b : ℕ) → i < length bytes
    → b ≡ get_or bytes i 0 → b ≡ 0 → new ≡ [] → Keeps found more → (IsNewName name → IsOneOf name more)
    → FindsRest bytes found name i → FindsRest bytes more new (i + 1)
finds_name bytes found more name new i b bound at none is kept one before ns keeps finds =
    let left : drop i bytes ≡ b ∷ drop (i + 1) bytes = drop_more bytes i 0 bound ∙ ap (λ (x : ℕ). x ∷ drop (i + 1) bytes) (sym at) in
    let same : names_in name (drop i bytes) ≡ name ∷ names_in [] (drop (i + 1) bytes) =
    ap (names_in name) left ∙ whole_name b name (drop (i + 1) bytes) none in
    let rest : FindsNew (names_in [] (drop (i + 1) bytes)) ns =
    subst (λ (n : List ℕ). FindsNew (names_in n (drop (i + 1) bytes)) ns) is finds in
    before ns (λ n was. keeps n (kept n was)) (subst (λ (names : List (List ℕ)). FindsNew names ns) (sym same)
    ((λ is_new. keeps name (one is_new)), rest))

-- one more is found
keeps_more : (old new : List (List ℕ)) (name : List ℕ) → new ≡ old ++ name ∷ [] → Keeps old new
keeps_more old new name is n one = subst (IsOneOf n) (sym is) (on old one)
  where
    on : (ns : List (List ℕ)) → IsOneOf n ns → IsOneOf n (ns ++ name ∷ [])
    on [] one = absurd one
    on (m ∷ ns) (inl here) = inl here
    on (m ∷ ns) (inr there) = inr (on ns there)

is_last : (old new : List (List ℕ)) (name : List ℕ) → new ≡ old ++ name ∷ [] → IsOneOf name new
is_last old new name is = subst (IsOneOf name) (sym is) (on old)
  where
    on : (ns : List (List ℕ)) → IsOneOf name (ns ++ name ∷ [])
    on [] = inl refl
    on (m ∷ ns) = inr (on ns)

pub kept_more : {A : Type 0} (f : A → List ℕ) (old new : List A) (v : A) → new ≡ old ++ v ∷ [] → Keeps (map f old) (map f new)
kept_more f old new v is = keeps_more (map f old) (map f new) (f v) (ap (map f) is ∙ map-append f old (v ∷ []))

pub pushed_last : {A : Type 0} (f : A → List ℕ) (old new : List A) (v : A) (name : List ℕ) → new ≡ old ++ v ∷ [] → f v ≡ name
    → IsOneOf name (map f new)
pushed_last f old new v name is named =
    subst (λ (n : List ℕ). IsOneOf n (map f new)) named
    (is_last (map f old) (map f new) (f v) (ap (map f) is ∙ map-append f old (v ∷ [])))

-- a name that new files have is a text
number_small : (b : ℕ) → is_number_byte b ≡ true → b < 128
number_small b is =
    ⊎_elim (λ digit. below (leb-true b 57 (and_parts _ _ digit).1)) (λ dash. at_dash (eqb-true b 45 dash))
    (or_cases (is_ascii_digit b) (b == 45) is)
  where
    below : b ≤ 57 → b < 128
    below bound = omega (arith, bound)

    at_dash : b ≡ 45 → b < 128
    at_dash same = omega (arith, same)

numbers_small : (bs : List ℕ) → list_all is_number_byte bs ≡ true → IsAscii bs
numbers_small [] all i = omega arith
numbers_small (b ∷ bs) all zero = number_small b (and_parts _ _ all).0
numbers_small (b ∷ bs) all (suc i) = numbers_small bs (and_parts _ _ all).1 i

head_is_text : IsUtf8 (codes ".wstore-")
head_is_text = search rules

pub new_is_text : (name : List ℕ) → IsNewName name → IsUtf8 name
new_is_text name new =
    subst IsUtf8 (take-append-drop 8 name)
    (IsUtf8-append (take 8 name) (drop 8 name) (subst IsUtf8 (sym new.begins) head_is_text)
    (IsUtf8-from_ascii (drop 8 name) (numbers_small (drop 8 name) new.numbers)))
