use Rattle.std.proofs.Common.{◌≡◌, ℕ, List, [], ◌∷◌, map, length, take, take_all, ap, ◌∙◌, arith}
use Rattle.std.proofs.lemmas.List.{length-map}
use Rattle.wvalues.specs.Meaning.{Meaning, Null, meaning}
use Rattle.wframe.specs.Peers.{key_at}
use Rattle.wrows.specs.LaidRows.{laid}
use Rattle.waggregate.specs.Grouped.{rows_of_group}
use Rattle.wgroup.specs.Grouping.{Group}
use Rattle.wgroup.specs.Held.{by_row}
use Rattle.wgroup.proofs.NumberFacts.{zeros_below}
use Rattle.wgroup.proofs.groups.one_group.Goals as goal

pub invariant_of-result-clause-laid : goal.invariant_of-result-clause-laid
invariant_of-result-clause-laid c =
    let cols = c.args.columns.now in
    let keys = c.in_ok-keys.keys.items in
    omega (arith, length-map keys meaning, length-map cols (λ c. Null), ap length c.in_ok-keys.ensures.nulls)

pub invariant_of-result-clause-below : goal.invariant_of-result-clause-below
invariant_of-result-clause-below c = zeros_below c.in_ok-order.order.items 1 1 (omega arith)
    (c.in_ok-order.ensures.items_if_clones_equal (λ y same. same))

pub returns-clause-groups : goal.returns-clause-groups
returns-clause-groups c =
    let cols = c.args.columns.now in
    let keys = c.in_ok-keys.keys.items in
    let w = length cols in
    let rows = rows_of_group (by_row c.args.numbers.value.items c.args.finer) 0 in
    let one : List ℕ → List Meaning → List Group = λ set key. record { set = set; key = key; rows = rows } ∷ [] in
    let group : ℕ → Group = λ i. record {
      set = c.new.result.items;
      key = key_at (laid w 1 keys) i;
      rows =
          rows_of_group (by_row c.args.numbers.value.items c.args.finer) i;
    } in
    let long : length keys ≡ w = omega (
      arith,
      length-map keys meaning,
      length-map cols (λ c. Null),
      ap length c.in_ok-keys.ensures.nulls,
    ) in
    ap (map group) (c.in_ok-order.ensures.items_if_clones_equal (λ y same. same))
    ∙ ap (λ s. one s (map meaning (take w keys))) c.new.ensures.items
    ∙ ap (λ l. one [] (map meaning l)) (take_all w keys (omega (arith, long)))
    ∙ ap (one []) c.in_ok-keys.ensures.nulls
