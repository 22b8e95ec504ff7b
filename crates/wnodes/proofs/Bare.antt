-- What is left of nodes in memory without those below them.
use Rattle.std.proofs.Common.{◌≡◌, List, [], ◌∷◌, length, refl, ap}
use Rattle.wquery.specs.declared.expression.Expression.{Expression}
use Rattle.wquery.specs.declared.expression.Window.{Window, out-Window}
use Rattle.wquery.specs.declared.expression.Arguments.TheFolds.{fold_out-Window}
use Rattle.wquery.specs.Tree.{Tree, NullWord, MoreTrees, Given, Reach, KeyTree, Branch, WindowTree, trees, view, view_key, view_keys}
use Rattle.wquery.specs.Tree.{view_window, views, name_bytes, arguments_step, expression_step}
use Rattle.wquery.specs.Tree.{over_step, call_step, key_step, link_step, window_step}
use Rattle.wnodes.specs.Heads.{bare_trees, left_out}

pub left_out_is : (es : List Expression) → left_out (length es) ≡ bare_trees (trees (views es))
left_out_is [] = refl
left_out_is (e ∷ es) = ap (MoreTrees NullWord) (left_out_is es)

pub window_is : (w : Window) → view_window w ≡ record {
  copied = name_bytes (out-Window w).copied;
  partition = views (out-Window w).partition.items;
  order = view_keys (out-Window w).order.items;
  frame = (out-Window w).frame;
}
unfolding view_window view view_key
window_is w = fold_out-Window Given Tree Reach Tree KeyTree Branch WindowTree arguments_step expression_step over_step
    call_step key_step link_step window_step w
