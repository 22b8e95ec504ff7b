-- When two expressions over a row are written alike, and when two windows order rows alike: expressions that are written alike
-- are of one formula. Two of one formula can be written apart, as a chain of which the first operand is a chain.
use Rattle.std.specs.Prelude.{ℕ, ℤ, Bool, true, false, ◌&&◌, List, nat_eq}
use Rattle.std.proofs.Math.Bool.{beq}
use Rattle.std.specs.Cmp.Lexicographic.{pointwise}
use Rattle.std.specs.Ordering.{int_eq}
use Rattle.std.specs.Rc.{rc_str_bytes}
use Rattle.std.specs.Str.{bytes_eq}
use Rattle.wvalues.specs.Meaning.{Meaning}
use Rattle.wvalues.specs.Sameness.{same_meaning}
use Rattle.wvalues.specs.declared.key.SortKey.{SortKey}
use Rattle.wquery.specs.declared.expression.Operator.{Operator}
use Rattle.wquery.specs.contracts.expression.Operator.{the_type as operators}
use Rattle.wquery.specs.declared.expression.Comparison.{Comparison}
use Rattle.wquery.specs.contracts.expression.Comparison.{the_type as comparisons}
use denote.Enum.Bare.{sameb}
use Rattle.wplan.specs.declared.expr.Expr.{Expr, out-Expr}
use Rattle.wplan.specs.declared.expr.Further.{Further, out-Further}
use Rattle.wplan.specs.declared.expr.Expr.TheOpen as layer
use Rattle.wplan.specs.declared.expr.Expr.TheFolds.{fold-Expr, fold-Further}
use Rattle.wplan.specs.Parts.{Parts}
use Rattle.wplan.specs.declared.resolved.ResolvedKey.{ResolvedKey}
use Rattle.wplan.specs.declared.resolved.ResolvedWindow.{ResolvedWindow}

abbrev pub same_operator : Operator → Operator → Bool
same_operator = sameb operators

abbrev pub same_comparison : Comparison → Comparison → Bool
same_comparison = sameb comparisons

abbrev pub same_sort_key : SortKey → SortKey → Bool
same_sort_key a b = nat_eq a.col b.col && (beq a.desc b.desc && beq a.nulls_first b.nulls_first)

-- each passes the test of its place, and neither list is longer
abbrev pub pass_all : List (Expr → Bool) → List Expr → Bool
pass_all = pointwise (λ same x. same x)

abbrev pub links_pass : List (Further → Bool) → List Further → Bool
links_pass = pointwise (λ same x. same x)

-- whether an expression is of this kind, and its parts pass these tests
abbrev pub is_null_word : Parts → Bool
is_null_word layer.Null = true
is_null_word _ = false

abbrev pub is_number : ℤ → Parts → Bool
is_number n (layer.Number m) = int_eq n m
is_number n _ = false

abbrev pub is_text : List ℕ → Parts → Bool
is_text bytes (layer.Text text) = bytes_eq bytes (rc_str_bytes text)
is_text bytes _ = false

abbrev pub is_place : ℕ → Parts → Bool
is_place place (layer.Place other) = nat_eq place other
is_place place _ = false

abbrev pub is_negation : (Expr → Bool) → Parts → Bool
is_negation same (layer.Not x) = same x.value
is_negation same _ = false

abbrev pub is_sign : Bool → (Expr → Bool) → Parts → Bool
is_sign minus same (layer.Sign other x) = beq minus other && same x.value
is_sign minus same _ = false

abbrev pub is_chain : (Expr → Bool) → List (Further → Bool) → Parts → Bool
is_chain same links (layer.Chain x others) = same x.value && links_pass links others.items
is_chain same links _ = false

abbrev pub is_comparison : Comparison → (Expr → Bool) → (Expr → Bool) → Parts → Bool
is_comparison comparison left right (layer.Compare other x y) = same_comparison comparison other && (left x.value && right y.value)
is_comparison comparison left right _ = false

abbrev pub is_null_test : Bool → (Expr → Bool) → Parts → Bool
is_null_test negated same (layer.IsNull other x) = beq negated other && same x.value
is_null_test negated same _ = false

abbrev pub is_range_test : Bool → (Expr → Bool) → (Expr → Bool) → (Expr → Bool) → Parts → Bool
is_range_test negated same low high (layer.Between other x y z) = beq negated other && (same x.value && (low y.value && high z.value))
is_range_test negated same low high _ = false

abbrev pub is_list_test : Bool → (Expr → Bool) → List (Expr → Bool) → Parts → Bool
is_list_test negated same list (layer.In other x others) = beq negated other && (same x.value && pass_all list others.items)
is_list_test negated same list _ = false

abbrev pub is_constants_test : Bool → (Expr → Bool) → List Meaning → Parts → Bool
is_constants_test negated same list (layer.InConstants other x others) = beq negated other && (same x.value && pointwise same_meaning list others)
is_constants_test negated same list _ = false

abbrev pub same_step : layer.Expr-F (Expr → Bool) (Further → Bool) → Expr → Bool
same_step layer.Null e = is_null_word (out-Expr e)
same_step (layer.Number n) e = is_number n (out-Expr e)
same_step (layer.Text text) e = is_text (rc_str_bytes text) (out-Expr e)
same_step (layer.Place place) e = is_place place (out-Expr e)
same_step (layer.Not x) e = is_negation x.value (out-Expr e)
same_step (layer.Sign minus x) e = is_sign minus x.value (out-Expr e)
same_step (layer.Chain x links) e = is_chain x.value links.items (out-Expr e)
same_step (layer.Compare comparison x y) e = is_comparison comparison x.value y.value (out-Expr e)
same_step (layer.IsNull negated x) e = is_null_test negated x.value (out-Expr e)
same_step (layer.Between negated x low high) e = is_range_test negated x.value low.value high.value (out-Expr e)
same_step (layer.In negated x list) e = is_list_test negated x.value list.items (out-Expr e)
same_step (layer.InConstants negated x list) e = is_constants_test negated x.value list (out-Expr e)

abbrev pub same_link_step : layer.Further-F (Expr → Bool) (Further → Bool) → Further → Bool
same_link_step l further = same_operator l.operator (out-Further further).operator && l.operand (out-Further further).operand

-- whether two expressions are written alike, part by part
unfoldable pub is_same : Expr → Expr → Bool
is_same e = fold-Expr (Expr → Bool) (Further → Bool) same_step same_link_step e

unfoldable pub is_same_link : Further → Further → Bool
is_same_link l = fold-Further (Expr → Bool) (Further → Bool) same_step same_link_step l

abbrev pub is_same_key : ResolvedKey → ResolvedKey → Bool
is_same_key a b = same_sort_key a.order b.order && is_same a.value b.value

-- whether two windows order rows alike, whatever their frames: their partition values and keys are written alike
unfoldable pub is_same_order : ResolvedWindow → ResolvedWindow → Bool
is_same_order a b = pointwise is_same a.partition.items b.partition.items && pointwise is_same_key a.keys.items b.keys.items
