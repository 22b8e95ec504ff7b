use Rattle.std.proofs.Common.{◌≡◌, ◌+◌, ◌++◌, length, map, ap, sym, ◌∙◌, arith, length-append}
use Rattle.std.proofs.lemmas.List.{length-map, map-append}
use Rattle.wvalues.specs.Meaning.{meaning}
use Rattle.wgroup.specs.Held.{set_grouping}
use Rattle.wgroup.proofs.ColumnFacts.{answers_next}
use Rattle.wgroup.proofs.TellFacts.{count_next}
use Rattle.wgroup.proofs.call_columns.grouping_column.Goals as goal

pub loop-groups-preserved : goal.loop-groups-preserved
loop-groups-preserved c =
    let g = c.groups-item.result in
    let column = c.loop-groups.column.items in
    let answers = c.in_ok-answers.answers.items in
    let pushed : map meaning c.append.new.self.items ≡ map meaning column ++ map meaning answers =
    ap (map meaning) c.in_ok-append.ensures.items ∙ map-append meaning column answers in
    let long : length c.append.new.self.items ≡ length column + length g.order.items
    = omega (
      arith,
      sym (length-map c.append.new.self.items meaning),
      ap length pushed,
      length-append (map meaning column)
          (map meaning answers),
      length-map column meaning,
      length-map answers meaning,
      c.in_ok-answers.ensures.len,
    ) in
    record {
      so_far = answers_next (set_grouping c.args.columns.now) c.args.sets.now c.loop-groups.groups-index g _
          (map meaning column) _ (map meaning answers) c.loop-groups-test.true c.groups-item.is
          c.loop-groups.invariant.so_far c.in_ok-answers.ensures.gives pushed;
      len = count_next c.args.sets.now c.loop-groups.groups-index g (length column) (length c.append.new.self.items) _
          c.loop-groups-test.true c.groups-item.is long c.loop-groups.invariant.len;
    }
