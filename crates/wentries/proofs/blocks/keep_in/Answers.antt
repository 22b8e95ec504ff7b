use Rattle.std.proofs.Common.{◌<◌, ◌+◌, slice_set, length, refl, sym, subst, ◌∙◌, arith, take_all}
use Rattle.std.specs.Prelude.{All}
use Rattle.std.proofs.lemmas.List.Elements.{All-same}
use Rattle.wentries.specs.Blocks.{flat}
use Rattle.wentries.specs.Keeping.{BeginWithRuns, HeldHasRun, orders_in, plain_block, rows_in}
use Rattle.wentries.proofs.AddedFacts.{added_next, blocks_added}
use Rattle.wentries.proofs.DealtFacts.{begin_all, begin_here, begin_next, rows_by_block}
use Rattle.wentries.proofs.Lists.{all_more, same_length, set_keeps}
use Rattle.wentries.proofs.blocks.keep_in.Goals as goal

pub loop-i-init : goal.loop-i-init
loop-i-init c =
    let bs = c.args.blocks.now.items in
    record {
      plain = refl;
      has = λ k d h. absurd (omega (arith, h));
      adds = refl;
      runs = subst (λ l. BeginWithRuns c.args.keys.now l c.args.runs.now) (sym (rows_by_block bs))
          (begin_all c.args.keys.now (rows_in (flat bs)) c.args.runs.now c.requires);
    }

pub keep_runs-requires : goal.keep_runs-requires
keep_runs-requires c =
    let bs = c.loop-i.blocks.items in
    let b = c.index_mut.result.now in
    let long = same_length plain_block bs c.args.blocks.now.items c.loop-i.invariant.plain in
    let lt : c.loop-i.i < length bs = omega (arith, c.loop-i-test.true, c.len-i-end.ensures, c.args.blocks.now.ok.0, long) in
    begin_here rows_in c.args.keys.now bs c.loop-i.i b b lt c.index_mut.ensures.value c.loop-i.left.now c.loop-i.invariant.runs

pub loop-i-preserved : goal.loop-i-preserved
loop-i-preserved c =
    let bs = c.loop-i.blocks.items in
    let i = c.loop-i.i in
    let new = c.keep_runs.new.self in
    let long = same_length plain_block bs c.args.blocks.now.items c.loop-i.invariant.plain in
    let lt : i < length bs = omega (arith, c.loop-i-test.true, c.len-i-end.ensures, c.args.blocks.now.ok.0, long) in
    record {
      plain = set_keeps plain_block bs i c.index_mut.result.now new c.index_mut.ensures.value c.in_ok-left.ensures.plain
          ∙ c.loop-i.invariant.plain;
      has = all_more (All (λ e. HeldHasRun c.args.keys.now e.held)) bs i new lt c.loop-i.invariant.has c.in_ok-left.ensures.has;
      adds = added_next orders_in c.args.keys.now c.args.blocks.now.items bs i c.index_mut.result.now new
          c.index_mut.ensures.value c.in_ok-left.ensures.adds c.loop-i.invariant.adds;
      runs = begin_next rows_in c.args.keys.now bs i c.index_mut.result.now new lt c.index_mut.ensures.value
          c.loop-i.left.now c.in_ok-left.left.now c.in_ok-left.ensures.left c.loop-i.invariant.runs;
    }

pub returns-in_err-left-clause-plain : goal.returns-in_err-left-clause-plain
returns-in_err-left-clause-plain c =
    set_keeps plain_block c.loop-i.blocks.items c.loop-i.i c.index_mut.result.now c.keep_runs.new.self
    c.index_mut.ensures.value c.keep_runs.ensures.plain ∙ c.loop-i.invariant.plain

pub returns-in_err-left-clause-adds : goal.returns-in_err-left-clause-adds
returns-in_err-left-clause-adds c =
    let bs = c.loop-i.blocks.items in
    let i = c.loop-i.i in
    blocks_added c.args.keys.now (i + 1) c.args.blocks.now.items (slice_set bs i c.keep_runs.new.self)
    (added_next orders_in c.args.keys.now c.args.blocks.now.items bs i c.index_mut.result.now c.keep_runs.new.self
    c.index_mut.ensures.value c.keep_runs.ensures.adds c.loop-i.invariant.adds)

pub returns-clause-adds : goal.returns-clause-adds
returns-clause-adds c =
    blocks_added c.args.keys.now c.loop-i.i c.args.blocks.now.items c.loop-i.blocks.items c.loop-i.invariant.adds

pub returns-clause-has : goal.returns-clause-has
returns-clause-has c =
    let bs = c.loop-i.blocks.items in
    let long = same_length plain_block bs c.args.blocks.now.items c.loop-i.invariant.plain in
    All-same (All (λ e. HeldHasRun c.args.keys.now e.held)) bs _
    (sym (take_all c.loop-i.i bs (omega (
      arith,
      c.loop-i-test.false,
      c.len-i-end.ensures,
      c.args.blocks.now.ok.0,
      long,
    )))) c.loop-i.invariant.has
