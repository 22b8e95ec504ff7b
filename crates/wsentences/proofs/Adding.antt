-- Texts to which one thing is added after another.
use Rattle.std.proofs.Common.{◌≡◌, inr, refl, ℕ, ◌++◌, List, Result, Ok, Err, OnOk, append_assoc, codes}
use Rattle.std.specs.Prelude.{Contains, if◌then◌else◌, is_ok}
use Rattle.wsegment.specs.Declaration.{Described}
use Rattle.std.specs.Fmt.{decimal}
use Rattle.wshown.specs.Shown.{shown_bytes, shown_value}
use Rattle.wsentences.specs.Explanations.{AddsHeaderField, AddsLengths, AddsMissing, AddsRow}

-- what holds where it goes well
pub then_ok : {A E : Type 0} {P Q : Type 0} (r : Result A E) → OnOk r P → (P → Q) → OnOk r Q
then_ok (Ok v) p f = f p
then_ok (Err e) p f = tt

-- what a push of a text does
pub text_pushed : {E : Type 0} (r : Result (Unit {0}) E) (old added new : List ℕ) → new ≡ (if is_ok r then old ++ added else old)
    → OnOk r (new ≡ old ++ added)
text_pushed (Ok v) old added new e = e
text_pushed (Err v) old added new e = tt

pub lengths_added : (row fields columns : ℕ) (a b c d e f g : List ℕ) → b ≡ a ++ codes "row " → c ≡ b ++ decimal row
    → d ≡ c ++ codes " has " → e ≡ d ++ decimal fields → f ≡ e ++ codes " fields, the header " → g ≡ f ++ decimal columns
    → AddsLengths row a g
lengths_added row fields columns a b c d e f g e1 e2 e3 e4 e5 e6 =
    inr (fields, columns, simp (e6, e5, e4, e3, e2, e1, append_assoc) refl)

pub row_added : (row : ℕ) (column value : List ℕ) (a b c d e f g : List ℕ) → b ≡ a ++ codes "row " → c ≡ b ++ decimal row
    → d ≡ c ++ codes ", column " → e ≡ d ++ shown_bytes column → f ≡ e ++ codes ": " → g ≡ f ++ shown_value value → AddsRow row a g
row_added row column value a b c d e f g e1 e2 e3 e4 e5 e6 =
    inr (inr (column, value, simp (e6, e5, e4, e3, e2, e1, append_assoc) refl))

pub field_added : (number : ℕ) (field a b c d e : List ℕ) → b ≡ a ++ codes "field " → c ≡ b ++ decimal number
    → d ≡ c ++ codes " of the header is " → e ≡ d ++ shown_value field → AddsHeaderField a e
field_added number field a b c d e e1 e2 e3 e4 = inr (number, field, simp (e4, e3, e2, e1, append_assoc) refl)

pub missing_added : (columns : List Described) (column : Described) (a b c : List ℕ) → Contains columns column
    → b ≡ a ++ codes "there is no column " → c ≡ b ++ column.name → AddsMissing columns a c
missing_added columns column a b c is e1 e2 = inr (column, is, simp (e2, e1, append_assoc) refl)
