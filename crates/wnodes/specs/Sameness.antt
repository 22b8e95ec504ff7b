-- When two expressions of a query are one. A column is the same where its name is, since a name that is used is that
-- of one column. (SQL, `<value expression>`: what two expressions have in common beside their spelling.)
use Rattle.std.specs.Prelude.{ℕ, Bool, true, false, ◌&&◌, List, Option, Some, None, nat_eq}
use Rattle.std.specs.Str.{bytes_eq}
use Rattle.wquery.specs.declared.expression.Operator.{Operator}
use Rattle.wquery.specs.declared.expression.Operator.TheVariants.{Or, And, Plus, Minus, Times}
use Rattle.wquery.specs.declared.expression.Comparison.{Comparison}
use Rattle.wquery.specs.declared.expression.Comparison.TheVariants.{Equal, NotEqual, Less, LessOrEqual, Greater, GreaterOrEqual}
use Rattle.wquery.specs.declared.expression.NullOrder.{NullOrder}
use Rattle.wquery.specs.declared.expression.NullOrder.TheVariants.{First, Last}
use Rattle.wquery.specs.declared.frame.Frame.{Frame}
use Rattle.wquery.specs.declared.frame.FrameMode.{FrameMode}
use Rattle.wquery.specs.declared.frame.FrameMode.TheVariants.{Rows, Range, Groups}
use Rattle.wquery.specs.declared.frame.FrameBound.{FrameBound}
use Rattle.wquery.specs.declared.frame.FrameBound.TheVariants.{Preceding, Following}
use Rattle.wquery.specs.declared.frame.FrameExclusion.{FrameExclusion}
use Rattle.wquery.specs.declared.frame.FrameExclusion.TheVariants.{CurrentRow, Group, Ties, NoOthers}
use Rattle.wquery.specs.Tree.{Tree, NullWord, Numeral, Quoted, Field, Invoked, Negated, Signed, Joined, Compared, NullTest, Within, Among}
use Rattle.wquery.specs.Tree.{Trees, NoTrees, MoreTrees, Links, NoLinks, Further, Given, Everything, These, Columns, Filter, Unfiltered}
use Rattle.wquery.specs.Tree.{FilteredBy, Reach, ItsGroup, ThatWindow, OwnWindow, Keys, NoKeys, MoreKeys, Branch, KeyTree, same_kind}
use Rattle.wnodes.specs.Bounds.{place_of_bound, end_of}

abbrev pub same_bool : Bool → Bool → Bool
same_bool true b = b
same_bool false true = false
same_bool false false = true

abbrev pub operator_number : Operator → ℕ
operator_number Or = 0
operator_number And = 1
operator_number Plus = 2
operator_number Minus = 3
operator_number Times = 4

abbrev pub comparison_number : Comparison → ℕ
comparison_number Equal = 0
comparison_number NotEqual = 1
comparison_number Less = 2
comparison_number LessOrEqual = 3
comparison_number Greater = 4
comparison_number GreaterOrEqual = 5

-- a place of nulls that is stated is not the same as one that is not
abbrev pub nulls_number : Option NullOrder → ℕ
nulls_number None = 0
nulls_number (Some First) = 1
nulls_number (Some Last) = 2

abbrev pub mode_number : FrameMode → ℕ
mode_number Rows = 0
mode_number Range = 1
mode_number Groups = 2

abbrev pub offset_in : FrameBound → ℕ
offset_in (Preceding n) = n
offset_in (Following n) = n
offset_in _ = 0

abbrev pub same_bound : FrameBound → FrameBound → Bool
same_bound a b = nat_eq (place_of_bound a) (place_of_bound b) && nat_eq (offset_in a) (offset_in b)

-- EXCLUDE NO OTHERS is the same as nothing
abbrev pub exclusion_number : Option FrameExclusion → ℕ
exclusion_number None = 0
exclusion_number (Some NoOthers) = 0
exclusion_number (Some CurrentRow) = 1
exclusion_number (Some Group) = 2
exclusion_number (Some Ties) = 3

-- CURRENT ROW is the same as an end that is left out; no frame is the same as no other
abbrev pub same_frame : Option Frame → Option Frame → Bool
same_frame None None = true
same_frame (Some f) (Some g) =
    nat_eq (mode_number f.mode) (mode_number g.mode)
    && (same_bound f.start g.start && (same_bound (end_of f) (end_of g) && nat_eq (exclusion_number f.exclusion)
    (exclusion_number g.exclusion)))
same_frame _ _ = false

abbrev pub same_copied : Option (List ℕ) → Option (List ℕ) → Bool
same_copied None None = true
same_copied (Some a) (Some b) = bytes_eq a b
same_copied _ _ = false

abbrev mutual
  pub is_same : Tree → Tree → Bool
  is_same NullWord NullWord = true
  is_same (Numeral n) (Numeral m) = nat_eq n m
  is_same (Quoted a) (Quoted b) = bytes_eq a b
  is_same (Field p a) (Field q b) = bytes_eq a b
  is_same (Invoked a given filter reach) (Invoked b given2 filter2 reach2) =
      bytes_eq a b && (are_same_given given given2 && (is_same_filter filter filter2 && is_same_reach reach reach2))
  is_same (Negated t) (Negated u) = is_same t u
  is_same (Signed a t) (Signed b u) = same_bool a b && is_same t u
  is_same (Joined a t ts) (Joined b u us) = same_kind a b && (is_same t u && are_same_links ts us)
  is_same (Compared a t v) (Compared b u w) = nat_eq (comparison_number a) (comparison_number b) && (is_same t u && is_same v w)
  is_same (NullTest a t) (NullTest b u) = same_bool a b && is_same t u
  is_same (Within a t l h) (Within b u m i) = same_bool a b && (is_same t u && (is_same l m && is_same h i))
  is_same (Among a t ts) (Among b u us) = same_bool a b && (is_same t u && are_same ts us)
  is_same _ _ = false

  pub are_same : Trees → Trees → Bool
  are_same NoTrees NoTrees = true
  are_same (MoreTrees t ts) (MoreTrees u us) = is_same t u && are_same ts us
  are_same _ _ = false

  pub are_same_links : Links → Links → Bool
  are_same_links NoLinks NoLinks = true
  are_same_links (Further ts a t) (Further us b u) = are_same_links ts us && (nat_eq (operator_number a) (operator_number b) && is_same t u)
  are_same_links _ _ = false

  pub are_same_given : Given → Given → Bool
  are_same_given Everything Everything = true
  are_same_given (These ts) (These us) = are_same ts us
  are_same_given (Columns ts) (Columns us) = are_same ts us
  are_same_given _ _ = false

  pub is_same_filter : Filter → Filter → Bool
  is_same_filter Unfiltered Unfiltered = true
  is_same_filter (FilteredBy t) (FilteredBy u) = is_same t u
  is_same_filter _ _ = false

  -- `OVER w` is not the same as `OVER (w)`
  pub is_same_reach : Reach → Reach → Bool
  is_same_reach ItsGroup ItsGroup = true
  is_same_reach (ThatWindow a) (ThatWindow b) = bytes_eq a b
  is_same_reach (OwnWindow a ts ks f) (OwnWindow b us js g) = same_copied a b && (are_same ts us && (are_same_keys ks js && same_frame f g))
  is_same_reach _ _ = false

  -- ASC is the same as nothing
  pub are_same_keys : Keys → Keys → Bool
  are_same_keys NoKeys NoKeys = true
  are_same_keys (MoreKeys t a m ts) (MoreKeys u b n us) =
      is_same t u && (same_bool a b && (nat_eq (nulls_number m) (nulls_number n) && are_same_keys ts us))
  are_same_keys _ _ = false

-- an operator with the operand behind it
abbrev pub is_same_branch : Branch → Branch → Bool
is_same_branch a b = nat_eq (operator_number a.operator) (operator_number b.operator) && is_same a.operand b.operand

abbrev pub is_same_key : KeyTree → KeyTree → Bool
is_same_key a b = is_same a.expression b.expression && (same_bool a.descending b.descending && nat_eq (nulls_number a.nulls)
    (nulls_number b.nulls))
