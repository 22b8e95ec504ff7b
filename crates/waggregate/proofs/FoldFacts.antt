-- Values that are fed alike, and what is made of sums and of results.
use Rattle.std.proofs.Common.{◌≡◌, ℕ, ℤ, ◌<◌, ◌||◌, true, false, cond, List, [], ◌∷◌, length}
use Rattle.std.proofs.Common.{map, filter, get_or, Option, Some, None, Err, refl, ap, ◌∙◌}
use Rattle.std.specs.Prelude.{All}
use Rattle.std.specs.List.{AllByRecursion, list_any}
use Rattle.std.specs.Option.{is_none}
use Rattle.std.proofs.lemmas.List.Elements.{recursion_from_All}
use Rattle.wvalues.specs.Meaning.{Meaning, meaning}
use Rattle.wslide.specs.Aggregates.{is_value}
use Rattle.wrows.specs.declared.fault.AnswerFault.{AnswerFault}
use Rattle.wrows.specs.declared.fault.AnswerFault.TheVariants.{OutOfRange, TooManyRows, NoMemory}
use Rattle.wrows.specs.Outcomes.{unless, Gives}
use Rattle.wrows.proofs.RowFacts.{any-map}
use Rattle.std.proofs.lemmas.List.Folds.{list_any_at}
use Rattle.waggregate.specs.Aggregating.{sum_answer, sum_or_null}
use Rattle.waggregate.specs.FrameAnswers.{answer_or_out_of_range}

-- a sum as an answer
pub sum_as_answer : (feed : ℕ → Meaning) (rows : List ℕ) (z : ℤ)
    → sum_answer (cond (list_any (λ row. is_value (feed row)) rows) (Some z) None) ≡ sum_or_null (filter is_value (map feed rows)) z
sum_as_answer feed [] z = refl
sum_as_answer feed (row ∷ rows) z =
    elim (is_value (feed row)) as (λ b. sum_answer (cond (b || list_any (λ row. is_value (feed row)) rows) (Some z) None)
    ≡ sum_or_null (cond b (feed row ∷ filter is_value (map feed rows)) (filter is_value (map feed rows))) z) [
      | true ↦ refl
      | false ↦ sum_as_answer feed rows z
    ]

pub mapped_alike : {X Y : Type 0} (f : X → Y) (near : ℕ → X) (far : ℕ → Y) (xs : List ℕ) → ((x : ℕ) → f (near x) ≡ far x)
    → map f (map near xs) ≡ map far xs
mapped_alike f near far [] h = refl
mapped_alike f near far (x ∷ xs) h = ap (λ y. y ∷ map f (map near xs)) (h x) ∙ ap (λ l. far x ∷ l) (mapped_alike f near far xs h)

fed_alike : (near far : ℕ → Meaning) (f : ℕ → ℕ) (n : ℕ) (xs : List ℕ) → ((x : ℕ) → x < n → near x ≡ far (f x))
    → AllByRecursion (λ x. x < n) xs → map near xs ≡ map far (map f xs)
fed_alike near far f n [] same all = refl
fed_alike near far f n (x ∷ xs) same all = ap (λ v. v ∷ map near xs) (same x all.0)
    ∙ ap (λ l. far (f x) ∷ l) (fed_alike near far f n xs same all.1)

-- what is fed by place is what is fed by number
pub values_alike : (near far : ℕ → Meaning) (f : ℕ → ℕ) (n : ℕ) (xs : List ℕ) → ((x : ℕ) → x < n → near x ≡ far (f x))
    → All (λ x. x < n) xs → filter is_value (map near xs) ≡ filter is_value (map far (map f xs))
values_alike near far f n xs same all = ap (filter is_value) (fed_alike near far f n xs same (recursion_from_All (λ x. x < n) xs all))

-- a part that is out of range refuses all
fault_is_none : (r : Option Meaning) → answer_or_out_of_range r ≡ Err OutOfRange → is_none r ≡ true
fault_is_none None h = refl
fault_is_none (Some m) h = absurd (cc)

not_too_many : (r : Option Meaning) → answer_or_out_of_range r ≡ Err TooManyRows → ⊥
not_too_many None h = cc
not_too_many (Some m) h = cc

pub refused_part : {P : Type 0} (answer : P → Option Meaning) (fault : AnswerFault) (parts : List P) (i : ℕ) (d : P)
    → i < length parts → Gives meaning (Err fault) (answer_or_out_of_range (answer (get_or parts i d)))
    → Gives {X = Unit {0}} {Y = Unit {0}} (λ u. u) (Err fault) (unless (list_any is_none (map answer parts)) OutOfRange (tt {0}))
refused_part answer OutOfRange parts i d h e =
    let at : is_none (answer (get_or parts i d)) ≡ true = fault_is_none (answer (get_or parts i d)) e in
    let some : list_any is_none (map answer parts) ≡ true = any-map is_none answer parts
    ∙ list_any_at (λ s. is_none (answer s)) parts i d h at in
    rw some refl
refused_part answer TooManyRows parts i d h e = absurd (not_too_many (answer (get_or parts i d)) e)
refused_part answer NoMemory parts i d h e = tt
