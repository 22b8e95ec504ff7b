use Rattle.std.proofs.Common.{◌∙◌, ap, Some, arith}
use Rattle.wentries.proofs.Lows.{gap_first, gap_none, place_first}
use Rattle.wentries.proofs.entries.first_from.Goals as goal

pub returns-in-Ok : goal.returns-in-Ok
returns-in-Ok c = ap (λ e. Some e) c.index-entries-i.is ∙ place_first c.args.entries.now c.args.name.now c.in-Ok.i
    c.index-entries-i.result c.in-Ok.ensures.found

pub returns-in-Err : goal.returns-in-Err
returns-in-Err c =
    ap (λ e. Some e) c.index-entries-i-in-Err.is
    ∙ gap_first c.args.entries.now c.args.name.now c.in-Err.i c.index-entries-i-in-Err.result c.in-Err.ensures.absent
    (omega (arith, c.if-i-entries.true))

pub returns-in-Err-2 : goal.returns-in-Err-2
returns-in-Err-2 c = gap_none c.args.entries.now c.args.name.now c.in-Err.i c.in-Err.ensures.absent (omega (arith, c.if-i-entries.false))
