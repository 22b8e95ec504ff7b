-- A column of a query, as it is looked at.
use Rattle.std.proofs.Common.{◌≡◌, List, ap, sym, ◌∙◌, if◌then◌else◌}
use Rattle.std.specs.List.{list_any}
use Rattle.std.specs.Rc.{rc_str_bytes}
use Rattle.wquery.specs.declared.expression.Column.{Column}
use Rattle.wquery.specs.declared.expression.Expression.{Expression}
use Rattle.wquery.specs.declared.expression.Expression.TheVariants as queries
use Rattle.wquery.specs.declared.expression.Arguments.TheOpen as layer
use Rattle.wquery.specs.declared.expression.Arguments.TheFolds.{fold-Expression, fold-roll-Expression}
use Rattle.wquery.specs.Tree.{Tree, Field, Given, Reach, KeyTree, Branch, WindowTree, name_bytes, view, arguments_step}
use Rattle.wquery.specs.Tree.{expression_step, over_step, call_step, key_step, link_step, window_step}
use Rattle.wscope.specs.declared.look.Look.TheVariants.{Found, Below}
use Rattle.wscope.specs.Called.{names}
use Rattle.wnames.specs.Groups.{sees_ungrouped}

view_of_column : (c : Column) → view (queries.Column c) ≡ Field (name_bytes c.qualifier) (rc_str_bytes c.name)
unfolding view
view_of_column c = ap (fold-Expression Given Tree Reach Tree KeyTree Branch WindowTree arguments_step expression_step
    over_step call_step key_step link_step window_step) (sym (queries.rolls-Column c)) ∙ fold-roll-Expression Given Tree
    Reach Tree KeyTree Branch WindowTree arguments_step expression_step over_step call_step key_step link_step
    window_step (layer.Column c)

pub ungrouped_column : (g : List Tree) (e : Expression) (c : Column) → e ≡ queries.Column c
    → sees_ungrouped g (view e) ≡ (if list_any (names (rc_str_bytes c.name)) g then Below else Found)
ungrouped_column g e c is = ap (λ (x : Expression). sees_ungrouped g (view x)) is ∙ ap (sees_ungrouped g) (view_of_column c)
