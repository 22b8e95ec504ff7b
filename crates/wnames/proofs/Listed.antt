-- Arguments that are a list.
use Rattle.std.proofs.Common.{◌≡◌, nat_le, Bool, ◌&&◌, List, ap, sym, ◌∙◌, Option, Some, None}
use Rattle.std.specs.declared.alloc.Global.{Global}
use Rattle.std.specs.declared.vec.Vec.{Vec}
use Rattle.wquery.specs.declared.expression.Arguments.{Arguments}
use Rattle.wquery.specs.declared.expression.Arguments.TheVariants as given
use Rattle.wquery.specs.declared.expression.Expression.{Expression}
use Rattle.wquery.specs.Tree.{Trees, Columns, Given, trees, views, view_arguments}
use Rattle.wscope.specs.declared.function.Function.{Function}
use Rattle.wnodes.specs.Nodes.{count_trees}
use Rattle.wscope.specs.Functions.{takes}
use Rattle.wscope.specs.Types.{Titled}
use Rattle.wnames.specs.Calls.{are_literal, is_well_given, most_grouping_columns}
use Rattle.wnames.specs.Types.{all_trees, is_value, suits_function, are_typed}
use Rattle.wnodes.proofs.Equal.{view_of_listed, view_of_columns}

pub listed_given : (a : Arguments) (f : Function) (v : Vec Expression Global) (us : List Expression) (r : Bool)
    → a ≡ given.Listed v → us ≡ v.items → r ≡ (takes f (count_trees (trees (views us))) && are_literal f (trees (views us)))
    → r ≡ is_well_given (Some f) (view_arguments a)
listed_given a f v us r ea eu er =
    er ∙ ap (λ (zs : List Expression). takes f (count_trees (trees (views zs))) && are_literal f (trees (views zs))) eu
    ∙ sym (ap (λ (x : Arguments). is_well_given (Some f) (view_arguments x)) ea ∙ ap (is_well_given (Some f)) (view_of_listed v))

-- GROUPING of not too many columns, whether or not there is a function of its name
given_columns : (f : Option Function) (g : Given) (ts : Trees) → g ≡ Columns ts
    → is_well_given f g ≡ nat_le (count_trees ts) most_grouping_columns
given_columns None g ts e = ap (is_well_given None) e
given_columns (Some f) g ts e = ap (is_well_given (Some f)) e

pub columns_given : (a : Arguments) (f : Option Function) (v : Vec Expression Global) (us : List Expression) (r : Bool)
    → a ≡ given.Columns v → us ≡ v.items → r ≡ nat_le (count_trees (trees (views us))) most_grouping_columns
    → r ≡ is_well_given f (view_arguments a)
columns_given a f v us r ea eu er =
    er ∙ ap (λ (zs : List Expression). nat_le (count_trees (trees (views zs))) most_grouping_columns) eu
    ∙ sym (given_columns f (view_arguments a) (trees (views v.items)) (ap view_arguments ea ∙ view_of_columns v))

pub listed_typed : (cs : List Titled) (a : Arguments) (f : Option Function) (v : Vec Expression Global)
    (us : List Expression) (r : Bool) → a ≡ given.Listed v → us ≡ v.items
    → r ≡ (all_trees (is_value cs) (trees (views us)) && suits_function cs f (trees (views us))) → r ≡ are_typed cs f (view_arguments a)
listed_typed cs a f v us r ea eu er =
    er ∙ ap (λ (zs : List Expression). all_trees (is_value cs) (trees (views zs)) && suits_function cs f (trees (views zs)))
    eu ∙ sym (ap (λ (x : Arguments). are_typed cs f (view_arguments x)) ea ∙ ap (are_typed cs f) (view_of_listed v))
