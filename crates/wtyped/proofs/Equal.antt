-- Equal expressions are one over a row, and equal calls one function over one window: no meaning depends on what equality
-- looks through.
use Rattle.std.proofs.Common.{◌≡◌, Bool, true, ◌&&◌, ℕ, zero, suc, ◌+◌, List, [], ◌∷◌, Option, Some, None, refl, ap, ap₂, ◌∙◌}
use Rattle.std.specs.Prelude.{nat_eq, if◌then◌else◌}
use Rattle.std.specs.Str.{bytes_eq}
use Rattle.wquery.specs.declared.frame.Frame.{Frame}
use Rattle.wquery.specs.declared.frame.FrameExclusion.{FrameExclusion}
use Rattle.wquery.specs.declared.frame.FrameExclusion.TheVariants as exclusions
use Rattle.wquery.specs.Tree.{Tree, Numeral, Field, Invoked, Negated, Signed, Joined, Compared, NullTest, Within, Among}
use Rattle.wquery.specs.Tree.{Trees, NoTrees, MoreTrees, Links, NoLinks, Further, Given, Everything, These, Columns, Filter}
use Rattle.wquery.specs.Tree.{Unfiltered, FilteredBy, Reach, ItsGroup, OwnWindow, Keys, NoKeys, MoreKeys, same_kind}
use Rattle.wnodes.specs.Bounds.{end_of}
use Rattle.wnodes.specs.Sameness.{are_same, are_same_given, are_same_keys, are_same_links, comparison_number}
use Rattle.wnodes.specs.Sameness.{exclusion_number, is_same, is_same_filter, is_same_reach, mode_number, nulls_number}
use Rattle.wnodes.specs.Sameness.{operator_number, same_bool, same_bound, same_copied, same_frame}
use Rattle.wscope.specs.declared.function.Function.{Function}
use Rattle.wscope.specs.declared.function.Function.TheVariants as functions
use Rattle.wscope.specs.Functions.{function_of}
use Rattle.wscope.specs.Types.{Titled}
use Rattle.wscope.specs.Windows.{NamedWindow, keys_or, or_none, expand, window_named}
use Rattle.wdistinct.specs.Places.{place_of_same}
use Rattle.wnodes.specs.Plain.{plain, plain_exclusion, plain_filter, plain_frame, plain_given, plain_keys}
use Rattle.wnodes.specs.Plain.{plain_links, plain_number, plain_reach, plain_trees, same_equiv}
use Rattle.wplan.specs.Formula as row
use Rattle.wplan.specs.Formula.{Formula}
use Rattle.wplan.specs.Plans as plans
use Rattle.wplan.specs.Plans.{WindowPlan}
use Rattle.wbinding.specs.Functions.{aggregate_function, aggregated, argument, call_function, filter_made}
use Rattle.wbinding.specs.Functions.{function_made, literal_of, number_or, tree_at}
use Rattle.wbinding.specs.Groups.{column_place, column_places, group_call_made, group_called}
use Rattle.wbinding.specs.Resolving.{Layout, resolved, resolved_links, resolved_trees, width}
use Rattle.wresolve.specs.Selecting.{frame_made, key_made, keys_made, or_no_others, own_window, place_over, trees_made, window_made}
use Rattle.wtyped.specs.Calls.{EqualIsOne}
use Rattle.wtyped.proofs.Alike.{one_of}

-- equality

looked_frame : (f g : Option Frame) → same_frame (plain_frame f) g ≡ same_frame f g
looked_frame (Some f) (Some g) =
    λ i. nat_eq (mode_number f.mode) (mode_number g.mode)
    && (same_bound f.start g.start && (same_bound (end_of f) (end_of g) && nat_eq (plain_number f.exclusion i)
    (exclusion_number g.exclusion)))
looked_frame _ _ = refl

mutual
  looked : (t u : Tree) → is_same (plain t) u ≡ is_same t u
  looked (Invoked a g f r) (Invoked b h k q) = λ i. bytes_eq a b && (looked_given g h i && (looked_filter f k i && looked_reach r q i))
  looked (Negated t) (Negated u) = looked t u
  looked (Signed a t) (Signed b u) = λ i. same_bool a b && looked t u i
  looked (Joined a t ts) (Joined b u us) = λ i. same_kind a b && (looked t u i && looked_links ts us i)
  looked (Compared a t v) (Compared b u w) = λ i. nat_eq (comparison_number a) (comparison_number b) && (looked t u i && looked v w i)
  looked (NullTest a t) (NullTest b u) = λ i. same_bool a b && looked t u i
  looked (Within a t v m) (Within b u n o) = λ i. same_bool a b && (looked t u i && (looked v n i && looked m o i))
  looked (Among a t ts) (Among b u us) = λ i. same_bool a b && (looked t u i && looked_trees ts us i)
  looked _ _ = refl

  looked_trees : (ts us : Trees) → are_same (plain_trees ts) us ≡ are_same ts us
  looked_trees (MoreTrees t ts) (MoreTrees u us) = λ i. looked t u i && looked_trees ts us i
  looked_trees _ _ = refl

  looked_links : (ts us : Links) → are_same_links (plain_links ts) us ≡ are_same_links ts us
  looked_links (Further ts a t) (Further us b u) =
      λ i. looked_links ts us i && (nat_eq (operator_number a) (operator_number b) && looked t u i)
  looked_links _ _ = refl

  looked_given : (g h : Given) → are_same_given (plain_given g) h ≡ are_same_given g h
  looked_given (These ts) (These us) = looked_trees ts us
  looked_given (Columns ts) (Columns us) = looked_trees ts us
  looked_given _ _ = refl

  looked_filter : (f k : Filter) → is_same_filter (plain_filter f) k ≡ is_same_filter f k
  looked_filter (FilteredBy t) (FilteredBy u) = looked t u
  looked_filter _ _ = refl

  looked_reach : (r q : Reach) → is_same_reach (plain_reach r) q ≡ is_same_reach r q
  looked_reach (OwnWindow a ts ks f) (OwnWindow b us js g) =
      λ i. same_copied a b && (looked_trees ts us i && (looked_keys ks js i && looked_frame f g i))
  looked_reach _ _ = refl

  looked_keys : (ks js : Keys) → are_same_keys (plain_keys ks) js ≡ are_same_keys ks js
  looked_keys (MoreKeys t a m ks) (MoreKeys u b n js) =
      λ i. looked t u i && (same_bool a b && (nat_eq (nulls_number m) (nulls_number n) && looked_keys ks js i))
  looked_keys _ _ = refl

place : (calls : List Tree) (t : Tree) → place_of_same calls (plain t) ≡ place_of_same calls t
place [] t = refl
place (c ∷ cs) t =
    ap₂ (λ (b : Bool) (n : ℕ). if b then zero else suc n) (same_equiv.symm c (plain t) ∙ looked t c ∙ same_equiv.symm t c) (place cs t)

-- expressions

mutual
  value : (l : Layout) (t : Tree) → resolved l (plain t) ≡ resolved l t
  value l (Invoked name given filter reach) = ap (λ (n : ℕ). row.At (width l + n)) (place l.calls (Invoked name given filter reach))
  value l (Negated t) = ap row.Negation (value l t)
  value l (Signed minus t) = ap (row.Signed minus) (value l t)
  value l (Joined kind t links) = chain l (resolved l (plain t)) (resolved l t) (value l t) links
  value l (Compared comparison t u) = ap₂ (row.Compared comparison) (value l t) (value l u)
  value l (NullTest negated t) = ap (row.NullTest negated) (value l t)
  value l (Within negated t low high) = λ i. row.Within negated (value l t i) (value l low i) (value l high i)
  value l (Among negated t list) = ap₂ (row.Among negated) (value l t) (among l list)
  value l _ = refl

  among : (l : Layout) (ts : Trees) → resolved_trees l (plain_trees ts) ≡ resolved_trees l ts
  among l NoTrees = refl
  among l (MoreTrees t ts) = ap₂ row.MoreFormulas (value l t) (among l ts)

  chain : (l : Layout) (f g : Formula) → f ≡ g → (links : Links) → resolved_links l f (plain_links links) ≡ resolved_links l g links
  chain l f g e NoLinks = e
  chain l f g e (Further front operator t) = ap₂ (row.Applied operator) (chain l f g e front) (value l t)

pub values : (l : Layout) (t u : Tree) → is_same t u ≡ true → resolved l t ≡ resolved l u
values l t u e = one_of (resolved l) (value l) t u e

-- windows

parts : (l : Layout) (ts : Trees) → trees_made l (plain_trees ts) ≡ trees_made l ts
parts l NoTrees = refl
parts l (MoreTrees t ts) = ap₂ (λ (f : Formula) (fs : List Formula). f ∷ fs) (value l t) (parts l ts)

keys : (l : Layout) (ks : Keys) → keys_made l (plain_keys ks) ≡ keys_made l ks
keys l NoKeys = refl
keys l (MoreKeys t descending nulls more) = λ i. key_made (value l t i) descending nulls ∷ keys l more i

own_or : (l : Layout) (ks copied : Keys) → keys_made l (keys_or (plain_keys ks) copied) ≡ keys_made l (keys_or ks copied)
own_or l NoKeys copied = refl
own_or l (MoreKeys t descending nulls more) copied = keys l (MoreKeys t descending nulls more)

exclusion : (e : Option FrameExclusion) → or_no_others (plain_exclusion e) ≡ or_no_others e
exclusion (Some exclusions.NoOthers) = refl
exclusion _ = refl

frame : (f : Option Frame) → frame_made (plain_frame f) ≡ frame_made f
frame None = refl
frame (Some f) = λ i. record { mode = f.mode; start = f.start; end = end_of f; exclusion = exclusion f.exclusion i }

expanded : (l : Layout) (ws : List NamedWindow) (copied : Option (List ℕ)) (ts : Trees) (ks : Keys) (f : Option Frame)
    → window_made l (expand ws copied (plain_trees ts) (plain_keys ks) (plain_frame f)) ≡ window_made l (expand ws copied ts ks f)
expanded l ws None ts ks f = λ i. record { partition = parts l ts i; keys = keys l ks i; frame = frame f i }
expanded l ws (Some name) ts ks f =
    λ i. record {
      partition = trees_made l (or_none (window_named ws name)).partition;
      keys =
          own_or l ks (or_none (window_named ws name)).order i;
      frame = frame f i;
    }

own : (l : Layout) (ws : List NamedWindow) (t : Tree) → own_window l ws (plain t) ≡ own_window l ws t
own l ws (Invoked name given filter (OwnWindow copied ts ks f)) = ap (λ (w : WindowPlan). w ∷ []) (expanded l ws copied ts ks f)
own l ws _ = refl

over : (ws : List NamedWindow) (next : ℕ) (t : Tree) → place_over ws next (plain t) ≡ place_over ws next t
over ws next (Invoked name given filter ItsGroup) = refl
over ws next _ = refl

-- arguments

at : (n : ℕ) (ts : Trees) → tree_at n (plain_trees ts) ≡ plain (tree_at n ts)
at n NoTrees = refl
at zero (MoreTrees t ts) = refl
at (suc n) (MoreTrees t ts) = at n ts

plain_argument : (n : ℕ) (g : Given) → argument n (plain_given g) ≡ plain (argument n g)
plain_argument n (These ts) = at n ts
plain_argument n _ = refl

-- what is read of an argument
read : {X : Type 0} (f : Tree → X) → ((t : Tree) → f (plain t) ≡ f t) → (n : ℕ) (g : Given)
    → f (argument n (plain_given g)) ≡ f (argument n g)
read f same n g = ap f (plain_argument n g) ∙ same (argument n g)

number : (d : ℕ) (t : Tree) → number_or d (plain t) ≡ number_or d t
number d (Numeral n) = refl
number d _ = refl

literal : (t : Tree) → literal_of (plain t) ≡ literal_of t
literal (Signed true (Numeral n)) = refl
literal _ = refl

filtered : (l : Layout) (f : Filter) → filter_made l (plain_filter f) ≡ filter_made l f
filtered l Unfiltered = refl
filtered l (FilteredBy t) = ap Some (value l t)

kind : (x : Option Function) (g : Given) → aggregate_function x (plain_given g) ≡ aggregate_function x g
kind (Some functions.Sum) g = refl
kind (Some functions.Min) g = refl
kind (Some functions.Max) g = refl
kind _ Everything = refl
kind _ _ = refl

aggregate : (l : Layout) (x : Option Function) (g : Given) (f : Filter) → aggregated l x (plain_given g) (plain_filter f)
    ≡ aggregated l x g f
aggregate l x g f = λ i. record { function = kind x g i; argument = read (resolved l) (value l) 0 g i; filter = filtered l f i }

function : (l : Layout) (x : Option Function) (g : Given) (f : Filter)
    → function_made l x (plain_given g) (plain_filter f) ≡ function_made l x g f
function l (Some functions.RowNumber) g f = refl
function l (Some functions.Rank) g f = refl
function l (Some functions.DenseRank) g f = refl
function l (Some functions.Ntile) g f = ap plans.Tile (read (number_or 1) (number 1) 0 g)
function l (Some functions.Lag) g f =
    λ i. plans.Lag (read (resolved l) (value l) 0 g i) (read (number_or 1) (number 1) 1 g i) (read literal_of literal 2 g i)
function l (Some functions.Lead) g f =
    λ i. plans.Lead (read (resolved l) (value l) 0 g i) (read (number_or 1) (number 1) 1 g i) (read literal_of literal 2 g i)
function l (Some functions.FirstValue) g f = ap plans.FirstValue (read (resolved l) (value l) 0 g)
function l (Some functions.LastValue) g f = ap plans.LastValue (read (resolved l) (value l) 0 g)
function l (Some functions.NthValue) g f = ap₂ plans.NthValue (read (resolved l) (value l) 0 g) (read (number_or 1) (number 1) 1 g)
function l x g f = ap plans.Aggregated (aggregate l x g f)

call : (l : Layout) (t : Tree) → call_function l (plain t) ≡ call_function l t
call l (Invoked name given filter reach) = function l (function_of name) given filter
call l _ = refl

column : (cs : List Titled) (t : Tree) → column_place cs (plain t) ≡ column_place cs t
column cs (Field qualifier name) = refl
column cs _ = refl

columns : (cs : List Titled) (ts : Trees) → column_places cs (plain_trees ts) ≡ column_places cs ts
columns cs NoTrees = refl
columns cs (MoreTrees t ts) = ap₂ (λ (p : ℕ) (ps : List ℕ). p ∷ ps) (column cs t) (columns cs ts)

given_group : (l : Layout) (name : List ℕ) (g : Given) (f : Filter) → group_called l name (plain_given g) (plain_filter f)
    ≡ group_called l name g f
given_group l name (Columns ts) f = ap plans.GroupingOf (columns l.columns ts)
given_group l name g f = ap plans.GroupAggregate (aggregate l (function_of name) g f)

group_call : (l : Layout) (t : Tree) → group_call_made l (plain t) ≡ group_call_made l t
group_call l (Invoked name given filter reach) = given_group l name given filter
group_call l _ = refl

pub equal_is_one : EqualIsOne
equal_is_one l ws next t u e = record {
  value = values l t u e;
  group_call = one_of (group_call_made l) (group_call l) t u e;
  function = one_of (call_function l) (call l) t u e;
  window = one_of (own_window l ws) (own l ws) t u e;
  place = one_of (place_over ws next) (over ws next) t u e;
}
