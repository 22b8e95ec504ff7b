-- Rows that are laid out one after another.
use Rattle.std.proofs.Common.{◌≡◌, ◌∙◌, ◌*◌, ◌≤◌, ℕ, zero, suc, List, ◌∷◌}
use Rattle.std.proofs.Common.{drop, take, length, map, refl, sym, ap, arith}
use Rattle.std.proofs.lemmas.List.{length-drop, length-map, length-take-le}
use Rattle.wvalues.specs.declared.value.Value.{Value}
use Rattle.wvalues.specs.Meaning.{Meaning, Null, meaning}
use Rattle.wframe.specs.Places.{places}
use Rattle.wprinted.specs.Printing.{values_at}
use Rattle.wrows.specs.LaidRows.{laid}
use Rattle.wcalls.proofs.WindowFacts.{all_places}

-- the values at all places are the row
pub laid-values : (width n : ℕ) (cells : List Value) → length cells ≡ n * width
    → map (values_at (places width)) (laid width n cells) ≡ laid width n cells
laid-values width zero cells e = refl
laid-values width (suc n) cells e =
    let row : List Meaning = map meaning (take width cells) in
    let some : width ≤ length cells = omega (arith, e) in
    let long : length row ≡ width = length-map (take width cells) meaning ∙ length-take-le width cells some in
    let rest : length (drop width cells) ≡ n * width = omega (arith, length-drop width cells, e) in
    let here : values_at (places width) row ≡ row = ap (λ k. values_at (places k) row) (sym long) ∙ all_places Null row in
    ap (λ r. r ∷ map (values_at (places width)) (laid width n (drop width cells))) here
    ∙ ap (λ l. row ∷ l) (laid-values width n (drop width cells) rest)
