use Rattle.std.proofs.Common.{◌≡◌, ◌+◌, ◌*◌, ◌≤◌, ◌++◌, drop}
use Rattle.wslide.specs.Tree.{paired}
use Rattle.wslide.proofs.tree.pairs.Given as goal

abbrev pub invariant-loop-i : goal.invariant-loop-i
invariant-loop-i g l =
    let joined = g.F.Fold.joined l.fold in
    record {
      pairs : l.next.items ++ paired joined (drop (2 * l.i) l.level) ≡ paired joined l.level;
      not_less : g.F.Fold.count l.fn.meter ≤ g.F.Fold.count l.meter;
      joins : g.F.Fold.count l.meter ≤ g.F.Fold.count l.fn.meter + l.i;
    }
