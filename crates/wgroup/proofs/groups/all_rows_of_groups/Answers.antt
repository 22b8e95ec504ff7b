use Rattle.std.proofs.Common.{◌≡◌, ◌<◌, ◌==◌, ℕ, List, [], ◌∷◌, map, length, get_or, subst, sym, ap, ◌∙◌, arith}
use Rattle.std.proofs.lemmas.List.{get_or-map, length-map}
use Rattle.std.proofs.lemmas.List.Folds.{list_any_at}
use Rattle.wvalues.specs.Meaning.{Null}
use Rattle.wgroup.specs.Grouping.{Group}
use Rattle.waggregate.specs.Grouped.{rows_of_group}
use Rattle.wgroup.specs.Finer.{IsMadeOf, MadeFrom}
use Rattle.wgroup.proofs.NumberFacts.{all_in_one, are_equal, zero_at, zeros_below}
use Rattle.wgroup.proofs.groups.all_rows_of_groups.Goals as goal

pub returns-clause-groups : goal.returns-clause-groups
returns-clause-groups c =
    let links = c.in_ok-zeros.zeros.items in
    let numbers = c.args.finer.now.numbers.value.items in
    let zeros = c.in_ok-zeros.ensures.items_if_clones_equal (λ y same. same) in
    let one : List ℕ → List Group = λ rows. record { set = []; key = map (λ c. Null) c.args.columns.now; rows = rows } ∷ [] in
    c.in_ok-groups.ensures.groups ∙ ap (λ v. one (rows_of_group (map (λ i. get_or links i 0) v.items) 0)) c.in_ok-numbers.ensures.cases
    ∙ ap one (all_in_one (map (λ i. get_or links i 0) numbers) (length numbers)
    (λ i h. get_or-map (λ i. get_or links i 0) numbers i 0 0 h ∙ ap (λ l. get_or l (get_or numbers i 0) 0) zeros
    ∙ zero_at c.args.finer.now.count (get_or numbers i 0)) (length-map numbers (λ i. get_or links i 0)))

pub returns-clause-len : goal.returns-clause-len
returns-clause-len c = ap length (c.in_ok-groups.ensures.numbers ∙ ap (λ v. v.items) c.in_ok-numbers.ensures.cases)

pub returns-clause-made : goal.returns-clause-made
returns-clause-made c = λ earlier at base.
    let g = c.in_ok-groups.groups in
    let f = c.args.finer.now in
    let links = c.in_ok-zeros.zeros.items in
    let zeros = c.in_ok-zeros.ensures.items_if_clones_equal (λ y same. same) in
    let long : length links ≡ f.count = sym c.in_ok-zeros.zeros.ok.0 ∙ c.in_ok-zeros.ensures.len in
    let first : 0 < length links = omega (arith, base.some, long) in
    subst (MadeFrom earlier g) (sym c.in_ok-groups.ensures.finer) (record {
      within = at.within;
      made = λ d. subst (λ h. IsMadeOf h links g) (sym (at.is d)) (record {
        base = base;
        same_rows = c.in_ok-groups.ensures.numbers ∙ ap (λ v. v.items) c.in_ok-numbers.ensures.cases;
        as_many = long;
        below = zeros_below links f.count g.count (omega (arith, c.in_ok-groups.ensures.count)) zeros;
        met = λ i h. list_any_at (λ j. j == i) links 0 0 first (are_equal (get_or links 0 0) i (ap (λ l. get_or l 0 0) zeros
            ∙ zero_at f.count 0 ∙ (omega (arith, h, c.in_ok-groups.ensures.count))));
      });
    })
