-- A column as rows of one value each, and the columns of several functions.
use Rattle.std.proofs.Common.{◌≡◌, ℕ, zero, suc, ◌+◌, ◌*◌, ◌<◌, ◌||◌, Bool, true, false, List, [], ◌∷◌, ◌++◌, length}
use Rattle.std.proofs.Common.{map, take, get_or, Result, Ok, Err, true≢false, refl, sym, ap, ◌∙◌, arith}
use Rattle.std.specs.List.{list_any, list_all}
use Rattle.std.proofs.lemmas.List.{take_more, get_or-map, map-append}
use Rattle.std.proofs.lemmas.List.Folds.{list_all_at}
use Rattle.wvalues.specs.declared.value.Value.{Value}
use Rattle.wvalues.specs.Meaning.{Meaning, Null, meaning}
use Rattle.wplan.specs.Formula.{Formula}
use Rattle.wrows.specs.declared.fault.AnswerFault.{AnswerFault}
use Rattle.wrows.specs.declared.fault.AnswerFault.TheVariants.{OutOfRange, TooManyRows, NoMemory}
use Rattle.wrows.specs.Outcomes.{Gives, unless, each, ◌>>=◌}
use Rattle.wrows.specs.Columns.{Row, column_of, lists_of, is_out_of_range, value_on}
use Rattle.wrows.specs.LaidRows.{laid}
use Rattle.wrows.proofs.RowFacts.{map-map}

abbrev first_of : List Meaning → Meaning
first_of [] = Null
first_of (x ∷ xs) = x

firsts_laid : (n : ℕ) (column : List Value) → length column ≡ n * 1 → map first_of (laid 1 n column) ≡ map meaning column
firsts_laid zero [] h = refl
firsts_laid zero (v ∷ vs) h = absurd (omega arith)
firsts_laid (suc n) [] h = absurd (omega arith)
firsts_laid (suc n) (v ∷ vs) h = ap (λ ms. meaning v ∷ ms) (firsts_laid n vs (omega arith))

or_false : (b : Bool) → (b || false) ≡ b
or_false true = refl
or_false false = refl

same_fault : (t : Formula) (rows : List Row) → list_any (λ row. list_any (λ t. is_out_of_range t row) (t ∷ [])) rows
    ≡ list_any (is_out_of_range t) rows
same_fault t [] = refl
same_fault t (row ∷ rows) = ap (λ b. b || list_any (λ row. list_any (λ t. is_out_of_range t row) (t ∷ [])) rows)
    (or_false (is_out_of_range t row)) ∙ ap (λ b. is_out_of_range t row || b) (same_fault t rows)

-- the values of one expression, row after row
pub one_each : (t : Formula) (ts : List Formula) (rows : List Row) (n : ℕ) (column : List Value) → ts ≡ t ∷ []
    → length column ≡ n * 1 → lists_of ts rows ≡ Ok (laid 1 n column) → column_of t rows ≡ Ok (map meaning column)
one_each t ts rows n column only long e =
    go (list_any (λ row. list_any (λ t. is_out_of_range t row) (t ∷ [])) rows) (list_any (is_out_of_range t) rows)
    (same_fault t rows) (ap (λ l. lists_of l rows) (sym only) ∙ e)
  where
    taken : Result (List Row) AnswerFault → List Row
    taken (Ok x) = x
    taken (Err e) = []

    answer : List Row
    answer = map (λ row. map (λ t. value_on t row) (t ∷ [])) rows

    go : (a b : Bool) → a ≡ b → unless a OutOfRange answer ≡ Ok (laid 1 n column)
        → unless b OutOfRange (map (value_on t) rows) ≡ Ok (map meaning column)
    go true b f h = absurd (cc)
    go false true f h = absurd (cc)
    go false false f h = ap Ok (sym (map-map first_of (λ row. map (λ t. value_on t row) (t ∷ [])) rows)
        ∙ ap (λ r. map first_of (taken r)) h ∙ firsts_laid n column long)

pub one_refused : {X Y : Type 0} (inner : X → List Row) (view : Y → List Meaning) (fault : AnswerFault) (t : Formula)
    (ts : List Formula) (rows : List Row) → ts ≡ t ∷ [] → Gives inner (Err fault) (lists_of ts rows)
    → Gives view (Err fault) (column_of t rows)
one_refused inner view OutOfRange t ts rows only h =
    go (list_any (λ row. list_any (λ t. is_out_of_range t row) (t ∷ [])) rows) (list_any (is_out_of_range t) rows)
    (same_fault t rows) (ap (λ l. lists_of l rows) (sym only) ∙ h)
  where
    go : (a b : Bool) → a ≡ b → unless a OutOfRange (map (λ row. map (λ t. value_on t row) (t ∷ [])) rows) ≡ Err OutOfRange
        → unless b OutOfRange (map (value_on t) rows) ≡ Err OutOfRange
    go true true f h = refl
    go true false f h = absurd (cc)
    go false b f h = absurd (cc)
one_refused inner view TooManyRows t ts rows only h =
    go (list_any (λ row. list_any (λ t. is_out_of_range t row) (t ∷ [])) rows) (ap (λ l. lists_of l rows) (sym only) ∙ h)
  where
    go : (a : Bool) → unless a OutOfRange (map (λ row. map (λ t. value_on t row) (t ∷ [])) rows) ≡ Err TooManyRows
        → column_of t rows ≡ Err TooManyRows
    go true h = absurd (cc)
    go false h = absurd (cc)
one_refused inner view NoMemory t ts rows only h = tt

module _ {A B : Type 0} (f : A → Result B AnswerFault) where
  each_last : (xs : List A) (ys : List B) (x : A) (y : B) → each f xs ≡ Ok ys → f x ≡ Ok y → each f (xs ++ x ∷ []) ≡ Ok (ys ++ y ∷ [])
  each_last [] ys x y e h = ap (λ r. r >>= λ y. Ok (y ∷ [])) h ∙ ap (λ r. r >>= λ l. Ok (l ++ y ∷ [])) e
  each_last (z ∷ zs) ys x y e h = go (f z) (each f zs) refl refl e (λ bs q. each_last zs bs x y q h)
    where
      go : (r : Result B AnswerFault) (s : Result (List B) AnswerFault) → f z ≡ r → each f zs ≡ s
          → (r >>= λ b. s >>= λ bs. Ok (b ∷ bs)) ≡ Ok ys
          → ((bs : List B) → each f zs ≡ Ok bs → each f (zs ++ x ∷ []) ≡ Ok (bs ++ y ∷ []))
          → each f ((z ∷ zs) ++ x ∷ []) ≡ Ok (ys ++ y ∷ [])
      go (Ok b) (Ok bs) p q e more =
          ap (λ r. r >>= λ b. each f (zs ++ x ∷ []) >>= λ bs. Ok (b ∷ bs)) p
          ∙ ap (λ r. r >>= λ bs. Ok (b ∷ bs)) (more bs q)
          ∙ ap (λ r. r >>= λ l. Ok (l ++ y ∷ [])) e
      go (Ok b) (Err u) p q e more = absurd (cc)
      go (Err u) s p q e more = absurd (cc)

  pub each_more : (xs : List A) (i : ℕ) (ys : List B) (x : A) (y : B) → i < length xs → x ≡ get_or xs i x
      → each f (take i xs) ≡ Ok ys → f x ≡ Ok y → each f (take (i + 1) xs) ≡ Ok (ys ++ y ∷ [])
  each_more xs i ys x y h at e k =
      ap (each f) (take_more xs i x h ∙ ap (λ z. take i xs ++ z ∷ []) (sym at)) ∙ each_last (take i xs) ys x y e k

  each_err : (xs : List A) (i : ℕ) (ys : List B) (x : A) (u : AnswerFault) → i < length xs → x ≡ get_or xs i x
      → each f (take i xs) ≡ Ok ys → f x ≡ Err u → each f xs ≡ Err u
  each_err [] i ys x u h at e k = absurd (omega arith)
  each_err (z ∷ zs) zero ys x u h at e k = ap (λ r. r >>= λ b. each f zs >>= λ bs. Ok (b ∷ bs)) (ap f (sym at) ∙ k)
  each_err (z ∷ zs) (suc i) ys x u h at e k =
      go (f z) (each f (take i zs)) refl refl e (λ bs q. each_err zs i bs x u (omega (arith, h)) at q k)
    where
      go : (r : Result B AnswerFault) (s : Result (List B) AnswerFault) → f z ≡ r → each f (take i zs) ≡ s
          → (r >>= λ b. s >>= λ bs. Ok (b ∷ bs)) ≡ Ok ys
          → ((bs : List B) → each f (take i zs) ≡ Ok bs → each f zs ≡ Err u) → each f (z ∷ zs) ≡ Err u
      go (Ok b) (Ok bs) p q e more =
          ap (λ r. r >>= λ b. each f zs >>= λ bs. Ok (b ∷ bs)) p
          ∙ ap (λ r. r >>= λ bs. Ok (b ∷ bs)) (more bs q)
      go (Ok b) (Err v) p q e more = absurd (cc)
      go (Err v) s p q e more = absurd (cc)

  pub each_refused : {X Y : Type 0} (inner : X → B) (view : Y → List B) (fault : AnswerFault) (xs : List A) (i : ℕ)
      (ys : List B) (x : A) → i < length xs → x ≡ get_or xs i x → each f (take i xs) ≡ Ok ys → Gives inner (Err fault) (f x)
      → Gives view (Err fault) (each f xs)
  each_refused inner view OutOfRange xs i ys x h at e k = each_err xs i ys x OutOfRange h at e k
  each_refused inner view TooManyRows xs i ys x h at e k = each_err xs i ys x TooManyRows h at e k
  each_refused inner view NoMemory xs i ys x h at e k = tt

-- an element behind a function
pub mapped_at : {X Y : Type 0} (h : X → Y) (xs : List X) (i : ℕ) (x : X) → i < length xs → x ≡ get_or xs i x
    → h x ≡ get_or (map h xs) i (h x)
mapped_at h xs i x l e = ap h e ∙ sym (get_or-map h xs i x (h x) l)

-- one more is as what it is made of asks
pub alike_more : {A B C : Type 0} (p : A → C) (q : B → C) (made : List A) (xs : List B) (i : ℕ) (y : A) (x : B) → i < length xs
    → x ≡ get_or xs i x → map p made ≡ map q (take i xs) → p y ≡ q x → map p (made ++ y ∷ []) ≡ map q (take (i + 1) xs)
alike_more p q made xs i y x h at so_far same =
    map-append p made (y ∷ []) ∙ ap (λ l. l ++ p y ∷ []) so_far ∙ ap (λ c. map q (take i xs) ++ c ∷ []) (same ∙ ap q at)
    ∙ sym (map-append q (take i xs) (get_or xs i x ∷ [])) ∙ ap (map q) (sym (take_more xs i x h))

-- what all are, each is
pub each_is : {X : Type 0} (p : X → Bool) (xs : List X) (i : ℕ) (x : X) → list_all p xs ≡ true → i < length xs
    → x ≡ get_or xs i x → p x ≡ true
each_is p xs i x all l e = go (p x) refl
  where
    go : (b : Bool) → p x ≡ b → p x ≡ true
    go true h = h
    go false h = absurd (true≢false (sym all ∙ list_all_at p xs i x l (ap p (sym e) ∙ h)))
