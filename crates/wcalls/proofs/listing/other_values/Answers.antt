use Rattle.std.proofs.Common.{◌<◌, [], length, map, sym, ap, ◌∙◌, arith}
use Rattle.std.proofs.lemmas.List.{get_or-map, length-map}
use Rattle.wvalues.specs.Meaning.{Null, meaning}
use Rattle.wcolumns.specs.Columns.{read_in, value_of_number, values_seen}
use Rattle.wcalls.proofs.PushedFacts.{pushed_next}
use Rattle.wcalls.proofs.listing.other_values.Goals as goal

pub loop-row-preserved : goal.loop-row-preserved
loop-row-preserved c =
    let others = c.args.others.now in
    let meant = value_of_number (values_seen others.values) (meaning others.default) in
    let numbers = others.numbers.items in
    let values = c.loop-row.values.items in
    let k = c.loop-row.row in
    let value = c.in_ok-value.value in
    let here : k < length numbers = omega arith in
    let there : k < length (read_in others) = omega (arith, here, length-map numbers meant) in
    record {
      null = c.loop-row.invariant.null;
      filled = ap (map meaning) c.in_ok-push.ensures.items ∙ pushed_next meaning [] values (read_in others) k value Null there
          c.loop-row.invariant.filled (c.in_ok-value.ensures ∙ c.read.ensures ∙ ap meant c.index.ensures
          ∙ sym (get_or-map meant numbers k c.index.result.now Null here));
    }
