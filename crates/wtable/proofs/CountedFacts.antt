-- The number of the table's rows.
use Rattle.std.proofs.Common.{◌≡◌, ℕ, ◌+◌, ◌-◌, ◌<◌, ◌^◌, Bool, true, false, List, ◌∷◌, length}
use Rattle.std.proofs.Common.{length-append, min, nat_lt, Ok, Err, refl, ap, ◌∙◌, arith}
use Rattle.std.proofs.lemmas.Bool.Decides.{nat_tests}
use Rattle.wvalues.specs.Names.{NameParts}
use Rattle.wsegment.specs.Rows.{Content}
use Rattle.wrows.specs.declared.fault.AnswerFault.TheVariants.{TooManyRows}
use Rattle.wrows.specs.Columns.{not_too_many}
use Rattle.wrows.specs.Outcomes.{unless}
use Rattle.wtable.proofs.HeldFacts.{rows_left}

-- the rows of one segment more
pub count_left : (before now all : ℕ) (segments left : List (NameParts × Content)) (e : NameParts × Content) (rows : ℕ)
    → segments ≡ e ∷ left → min (before + length (rows_left segments)) (2 ^ 64 - 1) ≡ all → rows ≡ length e.1.rows
    → now ≡ min (before + rows) (2 ^ 64 - 1)
    → min (now + length (rows_left left)) (2 ^ 64 - 1) ≡ all
count_left before now all segments left e rows is so_far here more =
    let long : length (rows_left segments) ≡ length e.1.rows + length (rows_left left) = ap (λ l. length (rows_left l)) is
    ∙ length-append e.1.rows (rows_left left) in
    omega (arith, long, so_far, here, more)

pub kept_all : {X : Type 0} (rows : List X) (count : ℕ) → count ≡ min (length rows) (2 ^ 64 - 1) → (2147483647 < count → ⊥)
    → (not_too_many rows ≡ Ok rows) × (length rows ≡ count)
kept_all rows count is few = (go (nat_lt 2147483647 (length rows)) refl, omega (arith, is, small))
  where
    small : length rows < 2147483648
    small = omega (arith, is, few)

    go : (b : Bool) → nat_lt 2147483647 (length rows) ≡ b → unless b TooManyRows rows ≡ Ok rows
    go true h = absurd (grind (arith, nat_tests, h, small))
    go false h = refl

pub kept_many : {X : Type 0} (rows : List X) (count : ℕ) → count ≡ min (length rows) (2 ^ 64 - 1) → 2147483647 < count
    → not_too_many rows ≡ Err TooManyRows
kept_many rows count is many = go (nat_lt 2147483647 (length rows)) refl
  where
    large : 2147483647 < length rows
    large = omega (arith, is, many)

    go : (b : Bool) → nat_lt 2147483647 (length rows) ≡ b → unless b TooManyRows rows ≡ Err TooManyRows
    go true h = refl
    go false h = absurd (grind (arith, nat_tests, h, large))
