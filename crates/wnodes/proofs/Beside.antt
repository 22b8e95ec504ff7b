-- Nodes that stand side by side, and what is below a node.
use Rattle.std.proofs.Common.{◌≡◌, ◌++◌, List, [], ◌∷◌, refl, ap, sym, ◌∙◌, append_assoc, add_assoc, arith}
use Rattle.std.proofs.lemmas.List.{append-nil}
use Rattle.wquery.specs.declared.expression.Call.{Call}
use Rattle.wquery.specs.Tree.{Tree, Links, NoLinks, Further, Branch, Reach, linked, view_call, view_arguments}
use Rattle.wquery.specs.Tree.{view_optional, view_optional_over, filter_of, reach_of}
use Rattle.wnodes.proofs.Views.{view_call_is}
use Rattle.wnodes.specs.Nodes.{Findings, found, found_below, found_links, found_given, found_filter, found_reach}
use Rattle.wnodes.specs.Children.{standing, children_of, children_in, found_all, operands, sizing}
use Rattle.wnodes.proofs.Related.{Relates, related_below, related_reach}

linked_on : (front : Links) (bs : List Branch) → found_links standing (linked front bs) ≡ found_links standing front ++ operands bs
linked_on front [] = sym (append-nil (found_links standing front))
linked_on front (b ∷ bs) = linked_on (Further front b.operator b.operand) bs ∙ append_assoc (found_links standing front)
    (b.operand ∷ []) (operands bs)

pub linked_all : (bs : List Branch) → found_links standing (linked NoLinks bs) ≡ operands bs
linked_all bs = linked_on NoLinks bs

pub call_children : (c : Call) → children_of (view_call c) ≡ found_given standing (view_arguments c.arguments)
    ++ (found_filter standing (filter_of (view_optional c.filter)) ++ found_reach standing (reach_of (view_optional_over c.over)))
call_children c = ap children_of (view_call_is c)

-- putting together in any way, from the left or from the right, with none that adds nothing
pub record IsJoined {M : Type 0} (f : Findings M) : Type 0 where
  pub left : (m : M) → f.both f.none m ≡ m
  pub right : (m : M) → f.both m f.none ≡ m
  pub three : (l m n : M) → f.both (f.both l m) n ≡ f.both l (f.both m n)

module _ {M : Type 0} (f : Findings M) (j : IsJoined f) where
  all_behind : (ts us : List Tree) → found_all f (ts ++ us) ≡ f.both (found_all f ts) (found_all f us)
  all_behind [] us = sym (j.left (found_all f us))
  all_behind (t ∷ ts) us = ap (f.both (found f t)) (all_behind ts us) ∙ sym (j.three (found f t) (found_all f ts) (found_all f us))

  all_related : Relates (λ (m : M) (ts : List Tree) (n : M). m ≡ found_all f ts) f standing f
  all_related = record {
    none = refl;
    both = λ l m ts us n o a b. ap (λ (x : M). f.both x m) a ∙ ap (f.both (found_all f ts)) b ∙ sym (all_behind ts us);
    at = λ t a. sym (j.right (found f t));
  }

  -- what is below a node is its children with all below them
  pub below_all : (t : Tree) → found_below f t ≡ found_all f (children_of t)
  below_all t = related_below _ f standing f all_related t

  pub reach_all : (r : Reach) → found_reach f r ≡ found_all f (children_in r)
  reach_all r = related_reach _ f standing f all_related r

pub sizes_joined : IsJoined sizing
sizes_joined = record { left = λ m. omega arith; right = λ m. omega arith; three = λ l m n. add_assoc l m n }

-- the size of what is below a node
pub size_below : (t : Tree) (ts : List Tree) → ts ≡ children_of t → found_below sizing t ≡ found_all sizing ts
size_below t ts e = below_all sizing sizes_joined t ∙ ap (found_all sizing) (sym e)
