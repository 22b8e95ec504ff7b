use Rattle.std.proofs.Common.{sym, arith}
use Rattle.wscope.specs.Windows.{named_windows}
use Rattle.wscope.proofs.Placed.{found_there, place_small, length_named}
use Rattle.wscope.proofs.expanding.window_of.Goals as goal

pub returns-then-place-entries : goal.returns-then-place-entries
returns-then-place-entries c = λ name e. let h = place_small name (named_windows c.args.entries.now) c.args.place e in
    let n = length_named c.args.entries.now in absurd (omega (arith, h, n))

pub returns : goal.returns
returns c = λ name e. sym (found_there name c.args.entries.now c.args.place c.index-entries-place.result e c.index-entries-place.is)
