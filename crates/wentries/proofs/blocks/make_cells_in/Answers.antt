use Rattle.std.proofs.Common.{◌∙◌}
use Rattle.wentries.proofs.Lists.{set_same}
use Rattle.wentries.proofs.blocks.make_cells_in.Goals as goal

pub loop-i-preserved : goal.loop-i-preserved
loop-i-preserved c =
    set_same c.loop-i.blocks.items c.loop-i.i c.index_mut.result.now c.make_cells.new.self c.index_mut.ensures.value
    c.in_ok-make_cells.ensures ∙ c.loop-i.invariant

pub returns-in_err-make_cells : goal.returns-in_err-make_cells
returns-in_err-make_cells c =
    set_same c.loop-i.blocks.items c.loop-i.i c.index_mut.result.now c.make_cells.new.self c.index_mut.ensures.value
    c.make_cells.ensures ∙ c.loop-i.invariant
