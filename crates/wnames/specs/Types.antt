-- The rule on types: Q14. (SQL, the type rules of `<value expression>`, `<predicate>` and `<search condition>`.)
use Rattle.std.specs.Prelude.{Bool, true, false, ◌||◌, ◌&&◌, not, List, [], ◌∷◌, Option, Some, None}
use Rattle.std.specs.List.{list_all, list_any}
use Rattle.wquery.specs.Tree.{Tree, Invoked, Trees, NoTrees, MoreTrees, Given, Everything, These, Columns}
use Rattle.wquery.specs.Tree.{Filter, Unfiltered, FilteredBy}
use Rattle.wquery.specs.Tree.{Reach, ItsGroup, ThatWindow, OwnWindow, Keys, NoKeys, MoreKeys, KeyTree, own_window}
use Rattle.wquery.specs.QueryTree.{Clauses, ItemTree, AllColumns, Computed, EntryTree}
use Rattle.wscope.specs.declared.data_type.DataType.{DataType}
use Rattle.wscope.specs.declared.data_type.DataType.TheVariants.{Integer, Text, Truth, Null}
use Rattle.wscope.specs.declared.function.Function.{Function}
use Rattle.wscope.specs.declared.function.Function.TheVariants as functions
use Rattle.wscope.specs.declared.signature.Takes.{Takes}
use Rattle.wscope.specs.declared.signature.Takes.TheVariants.{Any, Truths, Integers, Alike, Arguments}
use Rattle.wnodes.specs.Children.{children_of}
use Rattle.wscope.specs.Functions.{function_of}
use Rattle.wscope.specs.Signature.{signature_of}
use Rattle.wscope.specs.Types.{Titled, type_of, is_truth, fits_integer, fits_text, agree}
use Rattle.wscope.specs.Scope.{some_anywhere, is_output}
use Rattle.wscope.specs.Finding.{finds}

-- a truth
abbrev pub is_condition : List Titled → Tree → Bool
is_condition cs t = is_truth (type_of cs t)

-- no truth
abbrev pub is_value : List Titled → Tree → Bool
is_value cs t = not (is_truth (type_of cs t))

-- an integer or null
abbrev pub is_integer : List Titled → Tree → Bool
is_integer cs t = fits_integer (type_of cs t)

-- a text or null
abbrev pub is_text : List Titled → Tree → Bool
is_text cs t = fits_text (type_of cs t)

-- of the type that is asked, where null is an integer and a text
abbrev pub is_of : List Titled → DataType → Tree → Bool
is_of cs Integer t = is_integer cs t
is_of cs Text t = is_text cs t
is_of cs Truth t = is_condition cs t
is_of cs Null t = is_integer cs t && is_text cs t

-- all of them pass
abbrev pub all_trees : (Tree → Bool) → Trees → Bool
all_trees holds NoTrees = true
all_trees holds (MoreTrees t ts) = holds t && all_trees holds ts

abbrev pub all_keys : (Tree → Bool) → Keys → Bool
all_keys holds NoKeys = true
all_keys holds (MoreKeys t descending nulls more) = holds t && all_keys holds more

-- PARTITION BY entries and keys are no truths
abbrev pub is_window_typed : List Titled → Reach → Bool
is_window_typed cs ItsGroup = true
is_window_typed cs (ThatWindow name) = true
is_window_typed cs (OwnWindow copied partition order frame) = all_trees (is_value cs) partition && all_keys (is_value cs) order

-- FILTER takes a truth
abbrev pub is_filter_typed : List Titled → Filter → Bool
is_filter_typed cs Unfiltered = true
is_filter_typed cs (FilteredBy t) = is_condition cs t

-- a value and the default of lag or lead have one type or null
abbrev pub has_fit_default : List Titled → Trees → Bool
has_fit_default cs (MoreTrees v (MoreTrees k (MoreTrees d more))) = agree (type_of cs v ∷ type_of cs d ∷ [])
has_fit_default cs _ = true

-- what a function asks of its arguments beside that they are no truths: sum takes integers
abbrev pub suits_function : List Titled → Option Function → Trees → Bool
suits_function cs (Some functions.Sum) ts = all_trees (is_integer cs) ts
suits_function cs (Some functions.Lag) ts = has_fit_default cs ts
suits_function cs (Some functions.Lead) ts = has_fit_default cs ts
suits_function cs f ts = true

abbrev pub are_typed : List Titled → Option Function → Given → Bool
are_typed cs f Everything = true
are_typed cs f (Columns ts) = true
are_typed cs f (These ts) = all_trees (is_value cs) ts && suits_function cs f ts

-- a call: its arguments, FILTER and window; what is no call has none
abbrev pub is_call_typed : List Titled → Tree → Bool
is_call_typed cs (Invoked name given filter reach) =
    are_typed cs (function_of name) given && (is_filter_typed cs filter && is_window_typed cs reach)
is_call_typed cs _ = true

-- the operands right below a node are what is asked of them
abbrev pub has_fit_operands : List Titled → Takes → Tree → Bool
has_fit_operands cs Any t = true
has_fit_operands cs Truths t = list_all (is_condition cs) (children_of t)
has_fit_operands cs Integers t = list_all (is_integer cs) (children_of t)
has_fit_operands cs Alike t = list_all (is_integer cs) (children_of t) || list_all (is_text cs) (children_of t)
has_fit_operands cs Arguments t = is_call_typed cs t

-- operands of another type than their operator or function takes, as the signature of the form says it
abbrev pub is_ill_typed : List Titled → Tree → Bool
is_ill_typed cs t = not (has_fit_operands cs (signature_of t).takes t)

-- what WHERE or HAVING says is no truth
abbrev pub is_no_condition : List Titled → Option Tree → Bool
is_no_condition cs None = false
is_no_condition cs (Some t) = not (is_condition cs t)

abbrev pub is_truth_item : List Titled → ItemTree → Bool
is_truth_item cs AllColumns = false
is_truth_item cs (Computed t alias) = not (is_value cs t)

abbrev pub is_truth_key : List Titled → List ItemTree → KeyTree → Bool
is_truth_key cs items k = not (is_output cs items k.expression) && not (is_value cs k.expression)

abbrev pub is_truth_entry : List Titled → EntryTree → Bool
is_truth_entry cs e = not (is_window_typed cs (own_window e.window))

-- Q14: an operand, an argument, a condition, an item or a key of a type that does not fit
abbrev pub breaks_types : List Titled → Clauses → Bool
breaks_types cs c =
    some_anywhere cs c (finds (is_ill_typed cs)) || (is_no_condition cs c.condition || (is_no_condition cs c.having
    || (list_any (is_truth_item cs) c.items || (list_any (is_truth_entry cs) c.windows || list_any (is_truth_key cs c.items) c.order))))
