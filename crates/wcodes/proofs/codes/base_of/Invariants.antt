use Rattle.std.proofs.Common.{◌≡◌, drop, fold, None}
use Rattle.wcodes.specs.Bases.{first_yet}
use Rattle.wcodes.specs.CodedRows.{values_seen}
use Rattle.wcodes.proofs.codes.base_of.Given as goal

abbrev pub invariant-loop-cell : goal.invariant-loop-cell
invariant-loop-cell l = fold (first_yet l.key) None (values_seen l.column) ≡ fold (first_yet l.key) l.first
    (values_seen (drop l.cell-index l.column))
