use Rattle.std.proofs.Common.{◌≡◌, ◌<◌, [], length, get_or, ap, sym, arith}
use Rattle.std.specs.Borrow.{Bor}
use Rattle.std.proofs.lemmas.List.{length-map}
use Rattle.wsegment.specs.Rows.{Content}
use Rattle.wruns.specs.Dealing.{segment_rows}
use Rattle.wruns.specs.Refs.{rows_at}
use Rattle.wruns.proofs.DealingFacts.{joined_within, shared_from}
use Rattle.wruns.proofs.OrderingFacts.{mapped_at}
use Rattle.wruns.proofs.dealing.run_at.Goals as goal

pub invariant_of-keyed : goal.invariant_of-keyed
invariant_of-keyed c =
    let table = c.args.table.now in
    let segments = table.segments.now in
    let s = segment_rows segments in
    let i = c.args.number in
    let rows = (get_or segments i c.index-table-number.result).now.rows in
    let at : rows_at s i ≡ rows = mapped_at (λ (x : Bor Content). x.now.rows) segments i c.index-table-number.result [] c.requires.number in
    let h : i < length s = omega (arith, c.requires.number, length-map segments (λ (x : Bor Content). x.now.rows)) in
    record {
      shared = shared_from table.keys.now s table.codes.now i rows c.args.start h (sym at) c.requires.start table.shared;
      few = omega (arith, joined_within s i h, ap length at, c.requires.start, table.few);
    }
