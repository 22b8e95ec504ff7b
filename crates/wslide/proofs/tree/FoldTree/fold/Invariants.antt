use Rattle.std.proofs.Common.{◌≡◌, ◌+◌, ◌*◌, ◌≤◌, length, drop, []}
use Rattle.std.specs.Prelude.{All, slice_range}
use Rattle.wslide.specs.Laws.{total}
use Rattle.wslide.specs.Tree.{Climbs, lowest, tree_parts}
use Rattle.wslide.proofs.tree.FoldTree.fold.Given as goal

abbrev pub invariant-loop-level : goal.invariant-loop-level
invariant-loop-level g l =
    let f = l.fold in
    let joined = g.F.Fold.joined f in
    let sum = total (g.F.Fold.neutral f) joined in
    let rest = drop l.level-index l.self.levels.items in
    record {
      climbs : Climbs joined (lowest rest) rest [];
      parts : All (g.F.Fold.is_part f) (lowest rest);
      ordered : l.cut.from ≤ l.cut.to;
      within : l.cut.to ≤ length (lowest rest);
      left : g.F.Fold.is_part f l.left;
      right : g.F.Fold.is_part f l.right;
      sum : joined l.left (joined (sum (slice_range (lowest rest) l.cut.from l.cut.to)) l.right)
          ≡ sum (slice_range (tree_parts l.self) l.fn.span.from l.fn.span.to);
      not_less : g.F.Fold.count l.fn.meter ≤ g.F.Fold.count l.meter;
      joins : g.F.Fold.count l.meter ≤ g.F.Fold.count l.fn.meter + 2 * l.level-index;
    }
