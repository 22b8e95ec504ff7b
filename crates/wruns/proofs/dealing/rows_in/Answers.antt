use Rattle.std.proofs.Common.{◌<◌, length, ap, ◌∙◌, arith}
use Rattle.std.proofs.lemmas.List.Elements.{All-same}
use Rattle.wruns.specs.Dealing.{segment_rows}
use Rattle.wruns.proofs.DealingFacts.{refs_count}
use Rattle.wruns.proofs.dealing.rows_in.Goals as goal

pub picked-requires : goal.picked-requires
picked-requires c =
    let s = segment_rows c.args.table.now.segments.now in
    let long = ap length (c.deref.ensures.value ∙ c.in_ok-all.ensures) in
    All-same (λ i. i < length c.deref.result.now) c.deref-2.result.now c.args.numbers.items c.deref-2.ensures.value
    (λ k d h. omega (arith, c.requires k d h, long, refs_count s, c.args.table.now.all))
