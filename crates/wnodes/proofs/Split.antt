-- Two expressions are equal where they say the same themselves and the nodes below them are equal one by one.
use Rattle.std.proofs.Common.{◌≡◌, suc, ◌+◌, Bool, true, false, ◌&&◌, List, [], ◌∷◌, ◌++◌, length, refl, sym, ap, ap₂, ◌∙◌, true≢false}
use Rattle.std.proofs.Common.{arith}
use Rattle.std.proofs.lemmas.List.{length-append}
use Rattle.std.specs.Prelude.{nat_eq}
use Rattle.std.specs.Str.{bytes_eq}
use Rattle.wquery.specs.Tree.{Tree, NullWord, Numeral, Quoted, Field, Invoked, Negated, Signed, Joined, Compared, NullTest, Within}
use Rattle.wquery.specs.Tree.{Among, Trees, NoTrees, MoreTrees, Links, NoLinks, Further, Given, Everything, These, Columns, Filter}
use Rattle.wquery.specs.Tree.{Unfiltered, FilteredBy, Reach, ItsGroup, ThatWindow, OwnWindow, Keys, NoKeys, MoreKeys, same_kind}
use Rattle.wnodes.specs.Sameness.{is_same, are_same, are_same_links, are_same_given, is_same_filter, is_same_reach, are_same_keys}
use Rattle.wnodes.specs.Sameness.{comparison_number, nulls_number, operator_number, same_bool, same_copied, same_frame}
use Rattle.wnodes.specs.Nodes.{found_trees, found_links, found_given, found_filter, found_reach, found_keys}
use Rattle.wnodes.specs.Children.{children_of, standing}
use Rattle.wnodes.specs.Heads.{all_same, bare, bare_trees, bare_links, bare_given, bare_filter, bare_keys, bare_reach}
use Rattle.wnodes.proofs.Fronts.{and_false, and_true}

-- tests put in another order

and_assoc : (a b c : Bool) → (a && (b && c)) ≡ ((a && b) && c)
and_assoc true b c = refl
and_assoc false b c = refl

one : (m s : Bool) → (m && s) ≡ ((m && true) && (s && true))
one true s = sym (and_true s)
one false s = refl

two : (m s t : Bool) → (m && (s && t)) ≡ ((m && true) && (s && (t && true)))
two true s t = ap (λ b. s && b) (sym (and_true t))
two false s t = refl

three : (m s t u : Bool) → (m && (s && (t && u))) ≡ ((m && true) && (s && (t && (u && true))))
three true s t u = ap (λ b. s && (t && b)) (sym (and_true u))
three false s t u = refl

swap : (s b a : Bool) → (s && (b && a)) ≡ (b && (s && a))
swap true b a = refl
swap false true a = refl
swap false false a = refl

sorted : (s d n b a : Bool) → (s && (d && (n && (b && a)))) ≡ ((d && (n && b)) && (s && a))
sorted true true true b a = refl
sorted true true false b a = refl
sorted true false n b a = refl
sorted false true true true a = refl
sorted false true true false a = refl
sorted false true false b a = refl
sorted false false n b a = refl

-- nodes behind others

behind : (ts us vs ws : List Tree) → length ts ≡ length us → all_same (ts ++ vs) (us ++ ws) ≡ (all_same ts us && all_same vs ws)
behind [] [] vs ws e = refl
behind (t ∷ ts) (u ∷ us) vs ws e =
    let less : length ts ≡ length us = omega (arith, e) in
    ap (λ b. is_same t u && b) (behind ts us vs ws less) ∙ and_assoc (is_same t u) (all_same ts us) (all_same vs ws)
behind [] (u ∷ us) vs ws e = absurd (omega (arith, e))
behind (t ∷ ts) [] vs ws e = absurd (omega (arith, e))

-- lists that say the same are as long

trees_long : (ts us : Trees) → are_same (bare_trees ts) (bare_trees us) ≡ true
    → length (found_trees standing ts) ≡ length (found_trees standing us)
trees_long NoTrees NoTrees e = refl
trees_long (MoreTrees t ts) (MoreTrees u us) e = ap suc (trees_long ts us e)
trees_long _ _ e = absurd (true≢false (sym e))

given_long : (g h : Given) → are_same_given (bare_given g) (bare_given h) ≡ true
    → length (found_given standing g) ≡ length (found_given standing h)
given_long Everything Everything e = refl
given_long (These ts) (These us) e = trees_long ts us e
given_long (Columns ts) (Columns us) e = trees_long ts us e
given_long _ _ e = absurd (true≢false (sym e))

filter_long : (f k : Filter) → is_same_filter (bare_filter f) (bare_filter k) ≡ true
    → length (found_filter standing f) ≡ length (found_filter standing k)
filter_long Unfiltered Unfiltered e = refl
filter_long (FilteredBy t) (FilteredBy u) e = refl
filter_long _ _ e = absurd (true≢false (sym e))

both : (a b : Bool) → (a && b) ≡ true → (a ≡ true) × (b ≡ true)
both true b h = (refl, h)
both false b h = absurd (true≢false (sym h))

links_long : (ts us : Links) → are_same_links (bare_links ts) (bare_links us) ≡ true
    → length (found_links standing ts) ≡ length (found_links standing us)
links_long NoLinks NoLinks e = refl
links_long (Further f a t) (Further g b u) e =
    let less = links_long f g (both (are_same_links (bare_links f) (bare_links g)) _ e).0 in
    length-append (found_links standing f) (t ∷ []) ∙ ap (λ n. n + 1) less ∙ sym (length-append (found_links standing g) (u ∷ []))
links_long _ _ e = absurd (true≢false (sym e))

-- lists

split_trees : (ts us : Trees) → are_same ts us ≡ (are_same (bare_trees ts) (bare_trees us)
    && all_same (found_trees standing ts) (found_trees standing us))
split_trees NoTrees NoTrees = refl
split_trees (MoreTrees t ts) (MoreTrees u us) = ap (λ b. is_same t u && b) (split_trees ts us)
    ∙ swap (is_same t u) (are_same (bare_trees ts) (bare_trees us)) (all_same (found_trees standing ts) (found_trees standing us))
split_trees _ _ = refl

split_keys : (ks js : Keys) → are_same_keys ks js ≡ (are_same_keys (bare_keys ks) (bare_keys js)
    && all_same (found_keys standing ks) (found_keys standing js))
split_keys NoKeys NoKeys = refl
split_keys (MoreKeys t a m ks) (MoreKeys u b n js) =
    ap (λ rest. is_same t u && (same_bool a b && (nat_eq (nulls_number m) (nulls_number n) && rest))) (split_keys ks js)
    ∙ sorted (is_same t u) (same_bool a b) (nat_eq (nulls_number m) (nulls_number n)) (are_same_keys (bare_keys ks) (bare_keys js))
    (all_same (found_keys standing ks) (found_keys standing js))
split_keys _ _ = refl

link_more : (b a m s x : Bool) → (b ≡ true → x ≡ (a && (s && true))) → ((b && a) && (m && s)) ≡ ((b && (m && true)) && x)
link_more true true true s x h = sym (and_true s) ∙ sym (h refl)
link_more true true false s x h = refl
link_more true false true s x h = sym (h refl)
link_more true false false s x h = refl
link_more false a m s x h = refl

split_links : (ts us : Links) → are_same_links ts us ≡ (are_same_links (bare_links ts) (bare_links us)
    && all_same (found_links standing ts) (found_links standing us))
split_links NoLinks NoLinks = refl
split_links (Further f a t) (Further g b u) =
    ap (λ front. front && (nat_eq (operator_number a) (operator_number b) && is_same t u)) (split_links f g)
    ∙ link_more (are_same_links (bare_links f) (bare_links g)) (all_same (found_links standing f) (found_links standing g))
    (nat_eq (operator_number a) (operator_number b)) (is_same t u) _
    (λ e. behind (found_links standing f) (found_links standing g) (t ∷ []) (u ∷ []) (links_long f g e))
split_links _ _ = refl

split_given : (g h : Given) → are_same_given g h ≡ (are_same_given (bare_given g) (bare_given h)
    && all_same (found_given standing g) (found_given standing h))
split_given Everything Everything = refl
split_given (These ts) (These us) = split_trees ts us
split_given (Columns ts) (Columns us) = split_trees ts us
split_given _ _ = refl

split_filter : (f k : Filter) → is_same_filter f k ≡ (is_same_filter (bare_filter f) (bare_filter k)
    && all_same (found_filter standing f) (found_filter standing k))
split_filter Unfiltered Unfiltered = refl
split_filter (FilteredBy t) (FilteredBy u) = sym (and_true (is_same t u))
split_filter _ _ = refl

window_more : (c bt at bk ak f x : Bool) → (bt ≡ true → x ≡ (at && ak))
    → (c && ((bt && at) && ((bk && ak) && f))) ≡ ((c && (bt && (bk && f))) && x)
window_more false bt at bk ak f x h = refl
window_more true false at bk ak f x h = refl
window_more true true at true ak true x h = ap (λ b. at && b) (and_true ak) ∙ sym (h refl)
window_more true true true true ak false x h = and_false ak
window_more true true false true ak false x h = refl
window_more true true true false ak f x h = refl
window_more true true false false ak f x h = refl

split_reach : (r q : Reach) → is_same_reach r q ≡ (is_same_reach (bare_reach r) (bare_reach q)
    && all_same (found_reach standing r) (found_reach standing q))
split_reach ItsGroup ItsGroup = refl
split_reach (ThatWindow a) (ThatWindow b) = sym (and_true (bytes_eq a b))
split_reach (OwnWindow a ts ks f) (OwnWindow b us js g) =
    ap₂ (λ parts order. same_copied a b && (parts && (order && same_frame f g))) (split_trees ts us) (split_keys ks js)
    ∙ window_more (same_copied a b) (are_same (bare_trees ts) (bare_trees us)) (all_same (found_trees standing ts)
    (found_trees standing us))
    (are_same_keys (bare_keys ks) (bare_keys js)) (all_same (found_keys standing ks) (found_keys standing js))
    (same_frame f g) _ (λ e. behind (found_trees standing ts) (found_trees standing us) (found_keys standing ks)
    (found_keys standing js) (trees_long ts us e))
split_reach _ _ = refl

call_more : (c b1 a1 b2 a2 b3 a3 x : Bool) → (b1 ≡ true → b2 ≡ true → x ≡ (a1 && (a2 && a3)))
    → (c && ((b1 && a1) && ((b2 && a2) && (b3 && a3)))) ≡ ((c && (b1 && (b2 && b3))) && x)
call_more false b1 a1 b2 a2 b3 a3 x h = refl
call_more true false a1 b2 a2 b3 a3 x h = refl
call_more true true true false a2 b3 a3 x h = refl
call_more true true false false a2 b3 a3 x h = refl
call_more true true a1 true a2 true a3 x h = sym (h refl refl)
call_more true true true true true false a3 x h = refl
call_more true true true true false false a3 x h = refl
call_more true true false true a2 false a3 x h = refl

chain_more : (k s b a : Bool) → (k && (s && (b && a))) ≡ ((k && b) && (s && a))
chain_more true s b a = swap s b a
chain_more false s b a = refl

pub split : (t u : Tree) → is_same t u ≡ (is_same (bare t) (bare u) && all_same (children_of t) (children_of u))
split NullWord NullWord = refl
split (Numeral m) (Numeral n) = sym (and_true _)
split (Quoted a) (Quoted b) = sym (and_true _)
split (Field p a) (Field q b) = sym (and_true _)
split (Invoked a g f r) (Invoked b h k q) =
    (λ i. bytes_eq a b && (split_given g h i && (split_filter f k i && split_reach r q i)))
    ∙ call_more (bytes_eq a b) (are_same_given (bare_given g) (bare_given h)) (all_same (found_given standing g) (found_given standing h))
    (is_same_filter (bare_filter f) (bare_filter k)) (all_same (found_filter standing f) (found_filter standing k))
    (is_same_reach (bare_reach r) (bare_reach q)) (all_same (found_reach standing r) (found_reach standing q)) _
    (λ d e. behind (found_given standing g) (found_given standing h) (found_filter standing f ++ found_reach standing r)
    (found_filter standing k ++ found_reach standing q) (given_long g h d)
    ∙ ap (λ b. all_same (found_given standing g) (found_given standing h) && b) (behind (found_filter standing f)
    (found_filter standing k) (found_reach standing r) (found_reach standing q) (filter_long f k e)))
split (Negated t) (Negated u) = sym (and_true (is_same t u))
split (Signed a t) (Signed b u) = one (same_bool a b) (is_same t u)
split (Joined a t ts) (Joined b u us) = ap (λ links. same_kind a b && (is_same t u && links)) (split_links ts us)
    ∙ chain_more (same_kind a b) (is_same t u) (are_same_links (bare_links ts) (bare_links us)) (all_same (found_links standing ts)
    (found_links standing us))
split (Compared a t v) (Compared b u w) = two (nat_eq (comparison_number a) (comparison_number b)) (is_same t u) (is_same v w)
split (NullTest a t) (NullTest b u) = one (same_bool a b) (is_same t u)
split (Within a t l m) (Within b u n o) = three (same_bool a b) (is_same t u) (is_same l n) (is_same m o)
split (Among a t ts) (Among b u us) = ap (λ list. same_bool a b && (is_same t u && list)) (split_trees ts us)
    ∙ chain_more (same_bool a b) (is_same t u) (are_same (bare_trees ts) (bare_trees us)) (all_same (found_trees standing ts)
    (found_trees standing us))
split _ _ = refl

-- nodes as they are read in memory: a head and the nodes below of each

nodes_same : (t u a b : Tree) (ts us : List Tree) → a ≡ bare t → b ≡ bare u → ts ≡ children_of t → us ≡ children_of u
    → (is_same a b && all_same ts us) ≡ is_same t u
nodes_same t u a b ts us head-t head-u below-t below-u =
    (λ i. is_same (head-t i) (head-u i) && all_same (below-t i) (below-u i)) ∙ sym (split t u)

-- where the heads are the same
pub same_then : (t u a b : Tree) (ts us : List Tree) (h r : Bool) → a ≡ bare t → b ≡ bare u → ts ≡ children_of t → us ≡ children_of u
    → h ≡ is_same a b → h ≡ true → r ≡ all_same ts us → r ≡ is_same t u
same_then t u a b ts us h r head-t head-u below-t below-u is so rest =
    rest ∙ ap (λ (x : Bool). x && all_same ts us) (sym so ∙ is) ∙ nodes_same t u a b ts us head-t head-u below-t below-u

-- where they are not
pub same_else : (t u a b : Tree) (ts us : List Tree) (h : Bool) → a ≡ bare t → b ≡ bare u → ts ≡ children_of t → us ≡ children_of u
    → h ≡ is_same a b → h ≡ false → h ≡ is_same t u
same_else t u a b ts us h head-t head-u below-t below-u is so =
    so ∙ ap (λ (x : Bool). x && all_same ts us) (sym so ∙ is) ∙ nodes_same t u a b ts us head-t head-u below-t below-u
