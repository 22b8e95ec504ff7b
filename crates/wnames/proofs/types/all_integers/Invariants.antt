use Rattle.std.proofs.Common.{◌≡◌, drop}
use Rattle.wquery.specs.Tree.{trees, views}
use Rattle.wscope.specs.Sources.{all_titled}
use Rattle.wnames.specs.Types.{all_trees, is_integer}
use Rattle.wnames.proofs.types.all_integers.Given as goal

abbrev pub invariant-list : goal.invariant-list
invariant-list l = all_trees (is_integer (all_titled l.columns)) (trees (views l.list))
    ≡ all_trees (is_integer (all_titled l.columns)) (trees (views (drop l.e-index l.list)))
