-- What stands behind the columns of a group's row.
use Rattle.std.proofs.Common.{◌≡◌, List, ℕ, [], ◌∷◌, map, ap, sym, ◌∙◌, refl}
use Rattle.std.specs.declared.alloc.Global.{Global}
use Rattle.std.specs.declared.vec.Vec.{Vec}
use Rattle.std.specs.Rc.{rc_str_bytes}
use Rattle.wquery.specs.declared.expression.Arguments.TheVariants as given
use Rattle.wquery.specs.declared.expression.Arguments.TheOpen as layer
use Rattle.wquery.specs.declared.expression.Arguments.TheFolds.{fold-Arguments, fold-roll-Arguments}
use Rattle.wquery.specs.declared.expression.Call.{Call}
use Rattle.wquery.specs.declared.expression.Expression.{Expression}
use Rattle.wquery.specs.Tree.{Tree, Given, Everything, These, Columns, Reach, KeyTree, Branch, WindowTree, trees}
use Rattle.wquery.specs.Tree.{views, view, view_call, view_arguments, view_optional, filter_of, arguments_step}
use Rattle.wquery.specs.Tree.{expression_step, over_step, call_step, key_step, link_step, window_step}
use Rattle.wnodes.proofs.Equal.{view_of_listed, view_of_columns}
use Rattle.wnodes.proofs.Views.{view_call_is}
use Rattle.wscope.specs.Functions.{function_of}
use Rattle.wscope.specs.Types.{Titled}
use Rattle.wplan.specs.Plans.{AggregatePlan, GroupAggregate, GroupingOf}
use Rattle.wbinding.specs.Resolving.{Layout}
use Rattle.wbinding.specs.Functions.{aggregate_made, aggregated}
use Rattle.wbinding.specs.Groups.{column_place, column_places, group_called, group_call_made}

places_are : (cs : List Titled) (ts : List Tree) → map (column_place cs) ts ≡ column_places cs (trees ts)
places_are cs [] = refl
places_are cs (t ∷ ts) = ap (λ (ps : List ℕ). column_place cs t ∷ ps) (places_are cs ts)

-- a call in memory whose arguments these are
called : (l : Layout) (c : Call) (g : Given) → view_arguments c.arguments ≡ g → group_call_made l (view_call c)
    ≡ group_called l (rc_str_bytes c.name) g (filter_of (view_optional c.filter))
called l c g e = ap (group_call_made l) (view_call_is c)
    ∙ ap (λ (x : Given). group_called l (rc_str_bytes c.name) x (filter_of (view_optional c.filter))) e

aggregate_of : (l : Layout) (c : Call) (g : Given) → view_arguments c.arguments ≡ g
    → aggregate_made l (view_call c) ≡ aggregated l (function_of (rc_str_bytes c.name)) g (filter_of (view_optional c.filter))
aggregate_of l c g e = ap (aggregate_made l) (view_call_is c)
    ∙ ap (λ (x : Given). aggregated l (function_of (rc_str_bytes c.name)) x (filter_of (view_optional c.filter))) e

-- GROUPING of columns
pub grouping_called : (l : Layout) (c : Call) (v : Vec Expression Global) (us : List Expression) (ps : List ℕ)
    → c.arguments ≡ given.Columns v → us ≡ v.items → ps ≡ map (column_place l.columns) (views us)
    → GroupingOf ps ≡ group_call_made l (view_call c)
grouping_called l c v us ps ea eu ep =
    ap GroupingOf (ep ∙ ap (λ (es : List Expression). map (column_place l.columns) (views es)) eu ∙ places_are l.columns (views v.items))
    ∙ sym (called l c (Columns (trees (views v.items))) (ap view_arguments ea ∙ view_of_columns v))

-- an aggregate
pub listed_called : (l : Layout) (c : Call) (v : Vec Expression Global) (a : AggregatePlan) → c.arguments ≡ given.Listed v
    → a ≡ aggregate_made l (view_call c) → GroupAggregate a ≡ group_call_made l (view_call c)
listed_called l c v a ea h =
    let e : view_arguments c.arguments ≡ These (trees (views v.items)) = ap view_arguments ea ∙ view_of_listed v in
    ap GroupAggregate (h ∙ aggregate_of l c _ e) ∙ sym (called l c _ e)

view_of_star : view_arguments given.Star ≡ Everything
unfolding view_arguments view
view_of_star = ap (fold-Arguments Given Tree Reach Tree KeyTree Branch WindowTree arguments_step expression_step over_step
    call_step key_step link_step window_step) (sym given.rolls-Star) ∙ fold-roll-Arguments Given Tree Reach Tree KeyTree
    Branch WindowTree arguments_step expression_step over_step call_step key_step link_step window_step layer.Star

pub star_called : (l : Layout) (c : Call) (a : AggregatePlan) → c.arguments ≡ given.Star
    → a ≡ aggregate_made l (view_call c) → GroupAggregate a ≡ group_call_made l (view_call c)
star_called l c a ea h =
    let e : view_arguments c.arguments ≡ Everything = ap view_arguments ea ∙ view_of_star in
    ap GroupAggregate (h ∙ aggregate_of l c _ e) ∙ sym (called l c _ e)
