-- The rule on types, form by form: what is said of the nodes right below a node is said of each operand.
use Rattle.std.proofs.Common.{◌≡◌, Bool, ◌&&◌, ◌||◌, not, List, [], ◌∷◌, refl, ap, ap₂, ◌∙◌}
use Rattle.std.specs.List.{list_all}
use Rattle.std.proofs.lemmas.List.Folds.{list_all-append}
use Rattle.wquery.specs.declared.expression.ChainKind.{ChainKind}
use Rattle.wquery.specs.declared.expression.ChainKind.TheVariants.{Disjunction, Conjunction, Sum, Product}
use Rattle.wquery.specs.Tree.{Tree, Negated, Signed, Joined, Among, Trees, NoTrees, MoreTrees, Links, NoLinks, Further}
use Rattle.wnodes.proofs.Fronts.{and_true}
use Rattle.wnodes.specs.Nodes.{found_links, found_trees}
use Rattle.wnodes.specs.Children.{standing}
use Rattle.wscope.specs.Types.{Titled}
use Rattle.wnames.specs.Types.{all_trees, is_condition, is_ill_typed, is_integer, is_text}
use Rattle.wnames.specs.Laws.{OperandsAsked, all_links, suits}

in_trees : (holds : Tree → Bool) (ts : Trees) → list_all holds (found_trees standing ts) ≡ all_trees holds ts
in_trees holds NoTrees = refl
in_trees holds (MoreTrees t ts) = ap (λ (b : Bool). holds t && b) (in_trees holds ts)

in_links : (holds : Tree → Bool) (links : Links) → list_all holds (found_links standing links) ≡ all_links holds links
in_links holds NoLinks = refl
in_links holds (Further front operator t) =
    list_all-append holds (found_links standing front) (t ∷ []) ∙ ap₂ (λ (a b : Bool). a && b) (in_links holds front) (and_true (holds t))

pub of_not : (cs : List Titled) (t : Tree) → is_ill_typed cs (Negated t) ≡ not (is_condition cs t)
of_not cs t = ap not (and_true (is_condition cs t))

pub of_sign : (cs : List Titled) (minus : Bool) (t : Tree) → is_ill_typed cs (Signed minus t) ≡ not (is_integer cs t)
of_sign cs minus t = ap not (and_true (is_integer cs t))

pub of_chain : (cs : List Titled) (kind : ChainKind) (first : Tree) (links : Links)
    → is_ill_typed cs (Joined kind first links) ≡ not (suits cs kind first && all_links (suits cs kind) links)
of_chain cs Disjunction t links = ap (λ (b : Bool). not (is_condition cs t && b)) (in_links (is_condition cs) links)
of_chain cs Conjunction t links = ap (λ (b : Bool). not (is_condition cs t && b)) (in_links (is_condition cs) links)
of_chain cs Sum t links = ap (λ (b : Bool). not (is_integer cs t && b)) (in_links (is_integer cs) links)
of_chain cs Product t links = ap (λ (b : Bool). not (is_integer cs t && b)) (in_links (is_integer cs) links)

pub of_in : (cs : List Titled) (negated : Bool) (t : Tree) (list : Trees) → is_ill_typed cs (Among negated t list)
    ≡ not ((is_integer cs t && all_trees (is_integer cs) list) || (is_text cs t && all_trees (is_text cs) list))
of_in cs negated t list = ap₂ (λ (a b : Bool). not ((is_integer cs t && a) || (is_text cs t && b))) (in_trees (is_integer cs) list)
    (in_trees (is_text cs) list)

pub operands_asked : OperandsAsked
operands_asked = record {
  of_not = of_not;
  of_sign = of_sign;
  of_chain = of_chain;
  of_comparison = λ cs comparison l r. refl;
  of_between = λ cs negated t l h. refl;
  of_in = of_in;
  of_call = λ cs name given filter reach. refl;
}
