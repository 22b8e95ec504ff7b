use Rattle.std.proofs.Common.{◌≡◌, ◌+◌, ◌*◌, ◌^◌, ◌≤◌, length, vec_len}
use Rattle.std.specs.Prelude.{All}
use Rattle.wslide.specs.Tree.{Climbs}
use Rattle.wslide.proofs.tree.FoldTree.build.Given as goal

abbrev pub invariant-levels : goal.invariant-levels
invariant-levels g l =
    let f = l.fold in
    record {
      climbs : Climbs (g.F.Fold.joined f) l.fn.parts.items l.levels.items l.level.items;
      parts : All (g.F.Fold.is_part f) l.level.items;
      halved : 2 ^ vec_len l.levels * vec_len l.level ≤ length l.fn.parts.items;
      some : vec_len l.level ≡ 0 → vec_len l.levels ≡ 0;
      not_less : g.F.Fold.count l.fn.meter ≤ g.F.Fold.count l.meter;
      joins : g.F.Fold.count l.meter + vec_len l.level ≤ g.F.Fold.count l.fn.meter + length l.fn.parts.items;
    }

abbrev pub decreases-levels : goal.decreases-levels
decreases-levels g l = vec_len l.level
