use Rattle.wentries.proofs.Cutting.{cut_is}
use Rattle.wentries.proofs.blocks.cut.Goals as goal

pub returns-clause-ok : goal.returns-clause-ok
returns-clause-ok c =
    cut_is c.args.blocks.now.items c.insert.new.self.items c.args.k c.index.result.now c.index_mut.result.now
    c.in_ok-later.later c.keep_half.new.self c.requires.in_range
    c.index.ensures c.in_ok-later.ensures c.in_ok-insert.ensures.items c.index_mut.ensures.value c.keep_half.ensures
