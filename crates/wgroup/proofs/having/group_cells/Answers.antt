use Rattle.std.proofs.Common.{◌≡◌, ◌+◌, ◌*◌, length, map, sym, ap, ◌∙◌, Vec, Global}
use Rattle.std.proofs.lemmas.List.{length-map}
use Rattle.std.proofs.lemmas.List.Elements.{recursion_from_All}
use Rattle.wvalues.specs.declared.value.Value.{Value}
use Rattle.wvalues.specs.Meaning.{meaning}
use Rattle.wrows.specs.LaidRows.{laid}
use Rattle.wgroup.specs.declared.found.Groups as memory
use Rattle.wgroup.specs.Held.{columns_in}
use Rattle.wgroup.proofs.TellFacts.{cells_next, count_next, lie_long, lie_so}
use Rattle.wgroup.proofs.having.group_cells.Goals as goal

pub loop-groups-preserved : goal.loop-groups-preserved
loop-groups-preserved c =
    let columns = columns_in c.args.columns.now in
    let sets = c.args.sets.now in
    let i = c.loop-groups.groups-index in
    let g = c.groups-item.result in
    let from = c.loop-groups.count in
    let next = c.len-count.ensures ∙ g.order.ok.0 in
    record {
      so_far = cells_next columns sets i g from (from + c.len-count.result) _ (map meaning c.loop-groups.cells.items) _
          c.loop-groups-test.true c.groups-item.is (ap (λ n. from + n) next) c.loop-groups.invariant.so_far c.in_ok-push_groups.ensures;
      count = count_next sets i g from (from + c.len-count.result) _ c.loop-groups-test.true c.groups-item.is
          (ap (λ n. from + n) next) c.loop-groups.invariant.count;
    }

pub invariant_of-result : goal.invariant_of-result
invariant_of-result c =
    let columns = columns_in c.args.columns.now in
    let sets = c.args.sets.now in
    let long : length columns ≡ length c.args.columns.now =
    length-map c.args.columns.now (λ (column : Vec Value Global). map meaning column.items) in
    record {
      laid = lie_long columns c.args.width sets c.loop-groups.cells.items c.loop-groups.count c.loop-groups.groups-index
          (recursion_from_All (λ (g : memory.Groups). g.width ≡ c.args.width) sets c.requires.wide) c.loop-groups-test.false
          c.loop-groups.invariant.so_far c.loop-groups.invariant.count
          ∙ ap (λ k. c.loop-groups.count * (c.args.width + k)) long;
    }

pub returns-clause-rows : goal.returns-clause-rows
returns-clause-rows c =
    let columns = columns_in c.args.columns.now in
    let sets = c.args.sets.now in
    let long : length columns ≡ length c.args.columns.now =
    length-map c.args.columns.now (λ (column : Vec Value Global). map meaning column.items) in
    ap (λ k. laid (c.args.width + k) c.loop-groups.count c.loop-groups.cells.items) (sym long)
    ∙ lie_so columns c.args.width sets c.loop-groups.cells.items c.loop-groups.count c.loop-groups.groups-index
    (recursion_from_All (λ (g : memory.Groups). g.width ≡ c.args.width) sets c.requires.wide) c.loop-groups-test.false
    c.loop-groups.invariant.so_far c.loop-groups.invariant.count
