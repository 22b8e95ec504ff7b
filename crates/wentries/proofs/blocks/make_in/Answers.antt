use Rattle.std.proofs.Common.{◌<◌, ◌+◌, slice_set, length, sym, ◌∙◌, arith, take_all}
use Rattle.std.specs.Prelude.{All}
use Rattle.std.proofs.lemmas.List.Elements.{All-same}
use Rattle.wentries.specs.Keeping.{HeldHasRun, orders_in, plain_block}
use Rattle.wentries.proofs.AddedFacts.{added_next, blocks_added}
use Rattle.wentries.proofs.Lists.{all_more, same_length, set_keeps}
use Rattle.wentries.proofs.blocks.make_in.Goals as goal

pub loop-i-preserved : goal.loop-i-preserved
loop-i-preserved c =
    let bs = c.loop-i.blocks.items in
    let i = c.loop-i.i in
    let new = c.make_runs.new.self in
    let long = same_length plain_block bs c.args.blocks.now.items c.loop-i.invariant.plain in
    let lt : i < length bs = omega (arith, c.loop-i-test.true, c.len-i-end.ensures, c.args.blocks.now.ok.0, long) in
    record {
      plain = set_keeps plain_block bs i c.index_mut.result.now new c.index_mut.ensures.value
          c.in_ok-make_runs.ensures.plain ∙ c.loop-i.invariant.plain;
      has = all_more (All (λ e. HeldHasRun c.args.keys.now e.held)) bs i new lt c.loop-i.invariant.has c.in_ok-make_runs.ensures.has;
      adds = added_next orders_in c.args.keys.now c.args.blocks.now.items bs i c.index_mut.result.now new
          c.index_mut.ensures.value c.in_ok-make_runs.ensures.adds c.loop-i.invariant.adds;
    }

pub returns-in_err-make_runs-clause-plain : goal.returns-in_err-make_runs-clause-plain
returns-in_err-make_runs-clause-plain c =
    set_keeps plain_block c.loop-i.blocks.items c.loop-i.i c.index_mut.result.now c.make_runs.new.self
    c.index_mut.ensures.value c.make_runs.ensures.plain ∙ c.loop-i.invariant.plain

pub returns-in_err-make_runs-clause-adds : goal.returns-in_err-make_runs-clause-adds
returns-in_err-make_runs-clause-adds c =
    let bs = c.loop-i.blocks.items in
    let i = c.loop-i.i in
    blocks_added c.args.keys.now (i + 1) c.args.blocks.now.items (slice_set bs i c.make_runs.new.self)
    (added_next orders_in c.args.keys.now c.args.blocks.now.items bs i c.index_mut.result.now c.make_runs.new.self
    c.index_mut.ensures.value c.make_runs.ensures.adds c.loop-i.invariant.adds)

pub returns-clause-adds : goal.returns-clause-adds
returns-clause-adds c =
    blocks_added c.args.keys.now c.loop-i.i c.args.blocks.now.items c.loop-i.blocks.items c.loop-i.invariant.adds

pub returns-clause-has : goal.returns-clause-has
returns-clause-has c =
    let bs = c.loop-i.blocks.items in
    let long = same_length plain_block bs c.args.blocks.now.items c.loop-i.invariant.plain in
    All-same (All (λ e. HeldHasRun c.args.keys.now e.held)) bs _
    (sym (take_all c.loop-i.i bs (omega (
      arith,
      c.loop-i-test.false,
      c.len-i-end.ensures,
      c.args.blocks.now.ok.0,
      long,
    )))) c.loop-i.invariant.has
