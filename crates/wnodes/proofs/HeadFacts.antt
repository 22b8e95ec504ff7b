-- Heads are equal just where what they say is the same, and are hashed by what they say.
use Rattle.std.proofs.Common.{◌≡◌, ℕ, zero, suc, Bool, true, false, ◌&&◌, Option, Some, None, refl, sym, ap, ◌∙◌, ◌++◌}
use Rattle.std.specs.Prelude.{nat_eq}
use Rattle.std.specs.Bool.{one_answer}
use Rattle.std.specs.Cmp.{unsigned_Decides}
use Rattle.std.specs.Option.{option_eq}
use Rattle.std.specs.Hash as fed
use Rattle.std.specs.Rc.{rc_str_bytes}
use Rattle.std.specs.Str.{bytes_eq}
use mathlib.Core.Bool.{beq}
use Rattle.std.specs.declared.alloc.Global.{Global}
use Rattle.std.specs.declared.rc.RcStr.{RcStr}
use Rattle.wquery.specs.declared.expression.ChainKind.{ChainKind}
use Rattle.wquery.specs.declared.expression.ChainKind.TheVariants.{Disjunction, Conjunction, Sum, Product}
use Rattle.wquery.specs.declared.expression.Comparison.{Comparison}
use Rattle.wquery.specs.declared.expression.Comparison.TheVariants.{Equal, NotEqual, Less, LessOrEqual, Greater, GreaterOrEqual}
use Rattle.wquery.specs.Tree.{name_bytes, same_kind}
use Rattle.wnodes.specs.declared.head.Head.{Head}
use Rattle.wnodes.specs.declared.head.Head.TheVariants as heads
use Rattle.wnodes.specs.declared.head.GivenHead.{GivenHead}
use Rattle.wnodes.specs.declared.head.GivenHead.TheVariants as given
use Rattle.wnodes.specs.declared.head.OverHead.{OverHead}
use Rattle.wnodes.specs.declared.head.OverHead.TheVariants as over
use Rattle.wquery.specs.contracts.expression.ChainKindPartialEq.TheImpl as kind
use Rattle.wquery.specs.contracts.expression.ComparisonPartialEq.TheImpl as comparison
use Rattle.wquery.specs.contracts.expression.ChainKindHash.TheImpl as kind_hash
use Rattle.wquery.specs.contracts.expression.ComparisonHash.TheImpl as comparison_hash
use Rattle.wnodes.specs.contracts.head.HeadHash.TheImpl as head_hash
use Rattle.wnodes.specs.contracts.head.GivenHeadHash.TheImpl as given_hash
use Rattle.wnodes.specs.contracts.head.OverHeadHash.TheImpl as over_hash
use Rattle.wnodes.specs.contracts.head.HeadPartialEq.TheImpl as head
use Rattle.wnodes.specs.contracts.head.GivenHeadPartialEq.TheImpl as given_head
use Rattle.wnodes.specs.contracts.head.OverHeadPartialEq.TheImpl as over_head
use Rattle.wnodes.specs.Sameness.{is_same, are_same, are_same_given, is_same_filter, is_same_reach, same_bool, same_copied}
use Rattle.wnodes.specs.Sameness.{are_same_keys, are_same_links, comparison_number, same_frame}
use Rattle.wnodes.specs.Heads.{left_out, said, said_filter, said_given, said_keys, said_links, said_over}
use Rattle.wnodes.specs.Nodes.{count_trees}
use Rattle.wnodes.specs.Hashed.{kind_number, written, written_filter, written_frame, written_given, written_keys, written_links}
use Rattle.wnodes.specs.Hashed.{written_reach}
use Rattle.wnodes.proofs.Fronts.{and_true}

left_same : (n : ℕ) → are_same (left_out n) (left_out n) ≡ true
left_same zero = refl
left_same (suc n) = left_same n

left_one : (m n : ℕ) → are_same (left_out m) (left_out n) ≡ true → m ≡ n
left_one zero zero e = refl
left_one (suc m) (suc n) e = ap suc (left_one m n e)
left_one zero (suc n) e = cc
left_one (suc m) zero e = cc

counts : (m n : ℕ) → nat_eq m n ≡ are_same (left_out m) (left_out n)
counts m n = one_answer (nat_eq m n) (are_same (left_out m) (left_out n)) (unsigned_Decides m n)
    (left_one m n, λ e. ap (λ k. are_same (left_out m) (left_out k)) (sym e) ∙ left_same m)

flags : (a b : Bool) → beq a b ≡ same_bool a b
flags true true = refl
flags true false = refl
flags false true = refl
flags false false = refl

copies : (a b : Option (RcStr Global)) → option_eq (λ (x y : RcStr Global). bytes_eq (rc_str_bytes x) (rc_str_bytes y)) a b
    ≡ same_copied (name_bytes a) (name_bytes b)
copies None None = refl
copies (Some a) (Some b) = refl
copies None (Some b) = refl
copies (Some a) None = refl

filters : (a b : Bool) → beq a b ≡ is_same_filter (said_filter a) (said_filter b)
filters true true = refl
filters true false = refl
filters false true = refl
filters false false = refl

kinds : (a b : ChainKind) → kind.ghosts.eq a b ≡ same_kind a b
kinds Disjunction Disjunction = refl
kinds Conjunction Conjunction = refl
kinds Sum Sum = refl
kinds Product Product = refl
kinds _ _ = refl

comparisons : (a b : Comparison) → comparison.ghosts.eq a b ≡ nat_eq (comparison_number a) (comparison_number b)
comparisons Equal Equal = refl
comparisons NotEqual NotEqual = refl
comparisons Less Less = refl
comparisons LessOrEqual LessOrEqual = refl
comparisons Greater Greater = refl
comparisons GreaterOrEqual GreaterOrEqual = refl
comparisons _ _ = refl

givens : (a b : GivenHead) → given_head.ghosts.eq a b ≡ are_same_given (said_given a) (said_given b)
givens given.Star given.Star = refl
givens (given.Listed m) (given.Listed n) = counts m n
givens (given.Columns m) (given.Columns n) = counts m n
givens _ _ = refl

overs : (a b : OverHead) → over_head.ghosts.eq a b ≡ is_same_reach (said_over a) (said_over b)
overs over.Group over.Group = refl
overs (over.Named a) (over.Named b) = refl
overs (over.Windowed a m j f) (over.Windowed b n k g) = λ i. copies a.now b.now i && (counts m n i
    && (are_same_keys (said_keys j.keys.now) (said_keys k.keys.now) && same_frame f.frame.now g.frame.now))
overs _ _ = refl

pub heads_same : (a b : Head) → head.ghosts.eq a b ≡ is_same (said a) (said b)
heads_same heads.Null heads.Null = refl
heads_same (heads.Number m) (heads.Number n) = refl
heads_same (heads.Text a) (heads.Text b) = refl
heads_same (heads.Column a) (heads.Column b) = refl
heads_same (heads.Call a g f o) (heads.Call b h k q) =
    λ i. bytes_eq (rc_str_bytes a.now) (rc_str_bytes b.now) && (givens g h i && (filters f k i && overs o q i))
heads_same heads.Not heads.Not = refl
heads_same (heads.Sign a) (heads.Sign b) = flags a b ∙ sym (and_true (same_bool a b))
heads_same (heads.Chain k a) (heads.Chain l b) = λ i. kinds k l i && are_same_links (said_links a.links.now) (said_links b.links.now)
heads_same (heads.Compare a) (heads.Compare b) = comparisons a b ∙ sym (and_true (nat_eq (comparison_number a) (comparison_number b)))
heads_same (heads.IsNull a) (heads.IsNull b) = flags a b ∙ sym (and_true (same_bool a b))
heads_same (heads.Between a) (heads.Between b) = flags a b ∙ sym (and_true (same_bool a b))
heads_same (heads.In a m) (heads.In b n) = λ i. flags a b i && counts m n i
heads_same _ _ = refl

-- what heads are hashed by

left_counted : (n : ℕ) → n ≡ count_trees (left_out n)
left_counted zero = refl
left_counted (suc n) = ap suc (left_counted n)

kinds_written : (k : ChainKind) → kind_hash.ghosts.hash_input k ≡ fed.usize (kind_number k)
kinds_written Disjunction = refl
kinds_written Conjunction = refl
kinds_written Sum = refl
kinds_written Product = refl

comparisons_written : (c : Comparison) → comparison_hash.ghosts.hash_input c ≡ fed.usize (comparison_number c)
comparisons_written Equal = refl
comparisons_written NotEqual = refl
comparisons_written Less = refl
comparisons_written LessOrEqual = refl
comparisons_written Greater = refl
comparisons_written GreaterOrEqual = refl

givens_written : (g : GivenHead) → given_hash.ghosts.hash_input g ≡ written_given (said_given g)
givens_written given.Star = refl
givens_written (given.Listed n) = λ i. fed.usize 1 ++ fed.usize (left_counted n i)
givens_written (given.Columns n) = λ i. fed.usize 2 ++ fed.usize (left_counted n i)

filters_written : (b : Bool) → fed.bool b ≡ written_filter (said_filter b)
filters_written true = refl
filters_written false = refl

copies_written : (a : Option (RcStr Global)) → fed.option (λ (x : RcStr Global). fed.str (rc_str_bytes x)) a
    ≡ fed.option fed.str (name_bytes a)
copies_written None = refl
copies_written (Some a) = refl

overs_written : (o : OverHead) → over_hash.ghosts.hash_input o ≡ written_reach (said_over o)
overs_written over.Group = refl
overs_written (over.Named a) = refl
overs_written (over.Windowed a n k f) = λ i. fed.usize 2 ++ (copies_written a.now i ++ (fed.usize (left_counted n i)
    ++ (written_keys (said_keys k.keys.now) ++ written_frame f.frame.now)))

pub heads_written : (h : Head) → head_hash.ghosts.hash_input h ≡ written (said h)
heads_written heads.Null = refl
heads_written (heads.Number n) = refl
heads_written (heads.Text a) = refl
heads_written (heads.Column a) = refl
heads_written (heads.Call a g f o) =
    λ i. fed.usize 4 ++ (fed.str (rc_str_bytes a.now) ++ (givens_written g i ++ (filters_written f i ++ overs_written o i)))
heads_written heads.Not = refl
heads_written (heads.Sign a) = refl
heads_written (heads.Chain k a) = λ i. fed.usize 7 ++ (kinds_written k i ++ written_links (said_links a.links.now))
heads_written (heads.Compare a) = λ i. fed.usize 8 ++ comparisons_written a i
heads_written (heads.IsNull a) = refl
heads_written (heads.Between a) = refl
heads_written (heads.In a n) = λ i. fed.usize 11 ++ (fed.bool a ++ fed.usize (left_counted n i))
