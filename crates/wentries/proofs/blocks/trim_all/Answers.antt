use Rattle.std.proofs.Common.{◌<◌, arith, length}
use Rattle.wentries.proofs.Falls.{fall_behind, fall_start, fall_step}
use Rattle.wentries.proofs.Lows.{trimmed_step}
use Rattle.wentries.proofs.Origins.{trimmed_before, trimmed_behind}
use Rattle.wentries.proofs.blocks.trim_all.Goals as goal

pub blocks-2-init : goal.blocks-2-init
blocks-2-init c = record {
  trimmed = trimmed_before c.args.floor.now c.args.blocks.now.items c.args.start c.requires.before;
  fall = fall_start c.args.floor.now c.args.blocks.now.items c.args.start _ c.new-fall.ensures c.requires.before;
}

pub blocks-2-preserved : goal.blocks-2-preserved
blocks-2-preserved c =
    let lt : c.blocks-2.k < length c.args.blocks.now.items = omega (arith, c.blocks-2-test.true, c.requires.in_range) in
    record {
      trimmed =
          trimmed_step c.args.floor.now c.args.blocks.now.items c.blocks-2.blocks.items c.blocks-2.k c.index_mut.result.now
          c.trim-more.new.self lt c.blocks-2.invariant.trimmed
          c.index_mut.ensures.value c.trim-more.ensures.trimmed;
      fall =
          fall_step c.args.floor.now c.args.blocks.now.items c.blocks-2.blocks.items c.blocks-2.k c.index_mut.result.now
          c.blocks-2.fall c.trim-more.result _ lt c.blocks-2.invariant.trimmed c.index_mut.ensures.value
          c.blocks-2.invariant.fall c.trim-more.ensures.fall c.joined-fall.ensures.entries c.joined-fall.ensures.whole c.joined-fall.ensures.lives;
    }

pub returns-clause-trimmed : goal.returns-clause-trimmed
returns-clause-trimmed c =
    trimmed_behind c.args.floor.now c.args.blocks.now.items c.blocks-2.blocks.items c.args.end c.blocks-2.k
    (omega (arith, c.blocks-2-test.false)) c.requires.behind c.blocks-2.invariant.trimmed

pub returns-clause-fall : goal.returns-clause-fall
returns-clause-fall c =
    fall_behind c.args.floor.now c.args.blocks.now.items c.args.end c.blocks-2.k _ (omega (arith, c.blocks-2-test.false))
    c.requires.behind c.blocks-2.invariant.fall
