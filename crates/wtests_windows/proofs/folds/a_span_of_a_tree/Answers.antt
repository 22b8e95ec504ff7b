use Rattle.std.proofs.Common.{◌≡◌, ◌≤◌, length, ap, arith}
use Rattle.wslide.specs.Height.{height}
use Rattle.wslide.specs.Tree.{tree_parts}
use Rattle.wtests_windows.proofs.folds.a_span_of_a_tree.Goals as goal

pub fold-requires-clause-room : goal.fold-requires-clause-room
fold-requires-clause-room g c =
    let n = length (tree_parts c.in_ok-tree.tree) in
    let same : n ≡ length c.in_ok-parts.parts.items = ap length c.in_ok-tree.ensures.parts in
    let low : height n ≤ 63 = c.height_is_least.ensures.least n 63 (omega arith) in
    omega arith
