use Rattle.std.proofs.Common.{◌≡◌, ◌++◌, ◌∷◌, ◌<◌, [], length, take, ap, subst, sym, ◌∙◌, arith}
use Rattle.std.specs.Borrow.{Bor}
use Rattle.std.proofs.lemmas.List.{length-map, take_more}
use Rattle.wsegment.specs.Rows.{Content}
use Rattle.wruns.specs.Dealing.{segment_rows, AreRunsOf}
use Rattle.wruns.specs.Refs.{rows_at}
use Rattle.wruns.proofs.DealingFacts.{joined_within, list_at, next_start, runs_more}
use Rattle.wruns.proofs.OrderingFacts.{mapped_at}
use Rattle.wruns.proofs.dealing.runs_of.Goals as goal

pub run_at-requires-clause-rows : goal.run_at-requires-clause-rows
run_at-requires-clause-rows c =
    let segments = c.args.table.now.segments.now in
    let s = segment_rows segments in
    let i = c.loop-i.i in
    let h : i < length s = omega (arith, c.loop-i-test.true, length-map segments (λ (x : Bor Content). x.now.rows)) in
    c.in_ok-rows.ensures.items ∙ c.deref.ensures.value ∙ list_at c.args.lists.now c.args.table.now.keys.now s i
    c.index-lists-i.result c.requires h c.index-lists-i.is

pub overflow_add-start : goal.overflow_add-start
overflow_add-start c =
    let segments = c.args.table.now.segments.now in
    let s = segment_rows segments in
    let i = c.loop-i.i in
    let h : i < length s = omega (arith, c.loop-i-test.true, length-map segments (λ (x : Bor Content). x.now.rows)) in
    omega (arith, c.loop-i.invariant.start, joined_within s i h, c.args.table.now.few, c.rows.ensures.few)

pub loop-i-preserved : goal.loop-i-preserved
loop-i-preserved c =
    let keys = c.args.table.now.keys.now in
    let segments = c.args.table.now.segments.now in
    let s = segment_rows segments in
    let i = c.loop-i.i in
    let h : i < length s = omega (arith, c.loop-i-test.true, length-map segments (λ (x : Bor Content). x.now.rows)) in
    let x = c.segment-item.result in
    let at : rows_at s i ≡ x.now.rows = mapped_at (λ (y : Bor Content). y.now.rows) segments i x [] c.loop-i-test.true
    ∙ ap (λ (y : Bor Content). y.now.rows) (sym c.segment-item.is) in
    record {
      start = omega (arith, c.loop-i.invariant.start, next_start s i h, c.rows.ensures.count, ap length at);
      runs = subst (λ l. AreRunsOf keys l c.push.new.self.items) (sym (take_more s i [] h))
          (subst (AreRunsOf keys (take i s ++ rows_at s i ∷ [])) (sym c.in_ok-push.ensures.items)
          (runs_more keys (take i s) c.loop-i.runs.items (rows_at s i) c.in_ok-run_at.field-0 c.loop-i.invariant.runs
          c.in_ok-run_at.ensures));
    }
