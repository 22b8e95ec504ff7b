use Rattle.std.proofs.Common.{◌∙◌, ap}
use Rattle.wentries.specs.declared.entries.Entry.{Entry}
use Rattle.wentries.specs.declared.held.Held.{Held}
use Rattle.wentries.proofs.Lists.{set_same}
use Rattle.wentries.proofs.entries.make_cells.Goals as goal

-- an entry with what it holds
abbrev with_held : Entry → Held → Entry
with_held e h = record { name = e.name; held = h }

pub loop-i-preserved : goal.loop-i-preserved
loop-i-preserved c =
    let x = c.index_mut-entry.result.now in
    set_same c.loop-i.entries.items c.loop-i.i x (with_held x c.make_cells.new.self) c.index_mut-entry.ensures.value
    (ap (with_held x) c.in_ok-make_cells.ensures) ∙ c.loop-i.invariant

pub returns-in_err-make_cells : goal.returns-in_err-make_cells
returns-in_err-make_cells c =
    let x = c.index_mut-entry.result.now in
    set_same c.loop-i.entries.items c.loop-i.i x (with_held x c.make_cells.new.self) c.index_mut-entry.ensures.value
    (ap (with_held x) c.make_cells.ensures) ∙ c.loop-i.invariant
