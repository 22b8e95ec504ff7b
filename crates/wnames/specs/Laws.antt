-- What the rule on types says of each form that asks something of its operands.
use Rattle.std.specs.Prelude.{◌≡◌, ℕ, Bool, true, ◌||◌, ◌&&◌, not, List, [], ◌∷◌}
use Rattle.wquery.specs.declared.expression.ChainKind.{ChainKind}
use Rattle.wquery.specs.declared.expression.ChainKind.TheVariants.{Disjunction, Conjunction, Sum, Product}
use Rattle.wquery.specs.declared.expression.Comparison.{Comparison}
use Rattle.wquery.specs.Tree.{Tree, Invoked, Negated, Signed, Joined, Compared, Within, Among, Trees, Given, Filter, Reach}
use Rattle.wquery.specs.Tree.{Links, NoLinks, Further}
use Rattle.wscope.specs.Functions.{function_of}
use Rattle.wscope.specs.Types.{Titled, type_of, agree}
use Rattle.wnames.specs.Types.{all_trees, are_typed, is_condition, is_filter_typed, is_ill_typed, is_integer, is_text}
use Rattle.wnames.specs.Types.{is_window_typed}

-- all operands behind the first of a chain pass
abbrev pub all_links : (Tree → Bool) → Links → Bool
all_links holds NoLinks = true
all_links holds (Further front operator t) = all_links holds front && holds t

-- the operands of a chain: truths of AND and OR, integers of sums and products
abbrev pub suits : List Titled → ChainKind → Tree → Bool
suits cs Disjunction t = is_condition cs t
suits cs Conjunction t = is_condition cs t
suits cs Sum t = is_integer cs t
suits cs Product t = is_integer cs t

-- the rule, form by form
pub record OperandsAsked : Type 0 where
  pub of_not : (cs : List Titled) (t : Tree) → is_ill_typed cs (Negated t) ≡ not (is_condition cs t)
  pub of_sign : (cs : List Titled) (minus : Bool) (t : Tree) → is_ill_typed cs (Signed minus t) ≡ not (is_integer cs t)
  pub of_chain : (cs : List Titled) (kind : ChainKind) (first : Tree) (links : Links)
      → is_ill_typed cs (Joined kind first links) ≡ not (suits cs kind first && all_links (suits cs kind) links)
  pub of_comparison : (cs : List Titled) (comparison : Comparison) (l r : Tree)
      → is_ill_typed cs (Compared comparison l r) ≡ not (agree (type_of cs l ∷ type_of cs r ∷ []))
  pub of_between : (cs : List Titled) (negated : Bool) (t l h : Tree)
      → is_ill_typed cs (Within negated t l h) ≡ not (agree (type_of cs t ∷ type_of cs l ∷ type_of cs h ∷ []))
  pub of_in : (cs : List Titled) (negated : Bool) (t : Tree) (list : Trees) → is_ill_typed cs (Among negated t list)
      ≡ not ((is_integer cs t && all_trees (is_integer cs) list) || (is_text cs t && all_trees (is_text cs) list))
  pub of_call : (cs : List Titled) (name : List ℕ) (given : Given) (filter : Filter) (reach : Reach)
      → is_ill_typed cs (Invoked name given filter reach)
      ≡ not (are_typed cs (function_of name) given && (is_filter_typed cs filter && is_window_typed cs reach))
