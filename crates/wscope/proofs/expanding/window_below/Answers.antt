use Rattle.std.proofs.Common.{◌∙◌, sym, arith}
use Rattle.wscope.specs.Windows.{named_windows}
use Rattle.wscope.proofs.Placed.{early, found_there, late, place_small, length_named}
use Rattle.wscope.proofs.expanding.window_below.Goals as goal

pub returns-then-place-before : goal.returns-then-place-before
returns-then-place-before c = λ name e. sym (late name (named_windows c.args.entries.now) c.args.place c.args.before e (omega arith))

pub returns-then-place-entries : goal.returns-then-place-entries
returns-then-place-entries c = λ name e. let h = place_small name (named_windows c.args.entries.now) c.args.place e in
    let n = length_named c.args.entries.now in absurd (omega (arith, h, n))

pub returns : goal.returns
returns c = λ name e. sym (early name (named_windows c.args.entries.now) c.args.place c.args.before e (omega arith)
    ∙ found_there name c.args.entries.now c.args.place c.index-entries-place.result e c.index-entries-place.is)
