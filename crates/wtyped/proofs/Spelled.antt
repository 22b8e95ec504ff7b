-- What is read from a text has the shapes of the grammar.
use Rattle.std.proofs.Common.{◌≡◌, Bool, true, false, not, ◌&&◌, ◌||◌, ℕ, zero, suc, nat_lt, ◌^◌}
use Rattle.std.proofs.Common.{List, [], ◌∷◌, ◌++◌, map, Option, Some, refl, sym, ap, ap₂, ◌∙◌}
use Rattle.std.specs.Prelude.{if◌then◌else◌}
use Rattle.std.specs.List.{flat_map, list_all, list_any}
use Rattle.std.proofs.lemmas.Bool.{or_parts, or_from, and_from, not-false, lt-ltb}
use Rattle.std.proofs.lemmas.List.Folds.{list_all-append}
use Rattle.wlexer.specs.declared.keyword.Keyword.{Keyword}
use Rattle.wlexer.specs.declared.bytes.Stretch.TheVariants as stretches
use Rattle.wlexer.specs.Token.{PlacedToken, TokenMeaning, NumberToken}
use Rattle.wlexer.specs.Spelling as spelling
use Rattle.wlexer.specs.Lexing.{LexesFirst, no_token, next_token}
use Rattle.wquery.specs.declared.expression.ChainKind.{ChainKind}
use Rattle.wquery.specs.declared.expression.ChainKind.TheVariants.{Disjunction, Conjunction, Sum, Product}
use Rattle.wquery.specs.declared.expression.Operator.{Operator}
use Rattle.wquery.specs.declared.frame.FrameBound.{FrameBound}
use Rattle.wquery.specs.Lefts.{chain_kind}
use Rattle.wquery.specs.Tree.{Tree, KeyTree, WindowTree, Numeral, Invoked, Joined, Further, NoLinks, Links, Given, Filter}
use Rattle.wquery.specs.Tree.{Reach, trees, keys, own_window, grouping_of, same_kind, is_chain, lengthened, joined}
use Rattle.wquery.specs.GroupElements.{Entry, Element, entry_columns}
use Rattle.wquery.specs.QueryTree.{QueryTree, SourceTree, ItemTree, EntryTree, AllColumns, Computed, query_of}
use Rattle.wtokens.specs.Words.{number_of}
use Rattle.wtokens.specs.Notation.{Tokens, Row, One, Listed, Chain, As}
use Rattle.wexpressions.specs.Grammar as grammar
use Rattle.wexpressions.specs.Grammar.{Rank, ChainRank, NegationRank, SignRank, sign_over, negation_over}
use Rattle.wexpressions.specs.Grammar.{operand_over, row_over, deeper, condition, column}
use Rattle.wexpressions.proofs.Gives as rows
use Rattle.wexpressions.proofs.Gives.{Are, one_gives, after_gives, then_gives, done_gives, perhaps_gives, either_gives, room_gives}
use Rattle.wexpressions.proofs.Gives.{as_gives, closed_gives, listed_gives, chain_gives, joined_holds, none_gives, weaker}
use Rattle.wexpressions.proofs.Heights.{same_self}
use Rattle.wparser.specs.Queries as queries
use Rattle.wparser.specs.Queries.{Spells, clauses, deeper_query, query_over}
use Rattle.wscope.specs.declared.look.Look.TheVariants.{Found, Below}
use Rattle.wscope.specs.Finding.{finds}
use Rattle.wscope.specs.Scope.{some_entry, some_item, some_option}
use Rattle.wscope.specs.Seeking.{found_or, some_node, some_tree, some_link, some_given, some_filter, some_reach, some_key}
use Rattle.wtyped.specs.Shapes.{are_fields, are_links, are_of_kind, is_field, is_given, is_key_misshapen}
use Rattle.wtyped.specs.Shapes.{is_misshapen, is_shaped, is_shaped_source}
use Rattle.wtyped.specs.Spelled.{SpelledIsShaped}
use Rattle.wtyped.proofs.Walks.{open_find}
use Rattle.wnodes.specs.Plain.{kinds}

-- tokens whose numbers are short enough
abbrev IsShort : TokenMeaning → Type 0
IsShort (NumberToken n) = nat_lt n (2 ^ 95) ≡ true
IsShort _ = Unit {0}

-- what a row reads from them
abbrev Gives : {X : Type 0} → (X → Type 0) → Row X → Type 0
Gives B P = rows.Gives IsShort B P

any_one : {X : Type 0} {says : TokenMeaning → Option X} → Gives (λ (x : X). Unit {0}) (One says)
any_one = one_gives (λ t x s e. tt)

abbrev All : {X : Type 0} → (X → Type 0) → List X → Type 0
All B [] = Unit {0}
All B (x ∷ xs) = B x × All B xs

all_give : {X : Type 0} {B : X → Type 0} {P : Row X} → Gives B P → Gives (All B) (Listed P)
all_give {B = B} u = listed_gives (All B) tt (λ x xs a b. (a, b)) u

abbrev Any : {X : Type 0} → X → Type 0
Any x = Unit {0}

as_any : {X Y : Type 0} {f : X → Y} {P : Row X} → Gives Any P → Gives Any (As f P)
as_any u = as_gives Any u (λ x a. tt)

-- chains

abbrev Fine : Tree → Type 0
Fine t = some_node (finds is_misshapen) t ≡ false

linked : (k : ChainKind) (links : Links) → are_links k links ≡ true → are_of_kind k links ≡ true
linked k NoLinks e = refl
linked k (Further front operator t) e = e

make_find : (b x : Bool) → b ≡ false → x ≡ false → found_or (if b then Found else Below) x ≡ false
make_find true x e f = e
make_find false x e f = f

same_operator : (operator : Operator) (k : ChainKind) → chain_kind operator ≡ k → same_kind (chain_kind operator) k ≡ true
same_operator operator k e = ap (same_kind (chain_kind operator)) (sym e) ∙ same_self (chain_kind operator)

joined_new : (k : ChainKind) (t : Tree) (operator : Operator) (o : Tree) → chain_kind operator ≡ k → Fine t → Fine o
    → Fine (Joined k t (Further NoLinks operator o))
joined_new k t operator o e a b =
    make_find (not (true && same_kind (chain_kind operator) k)) (some_node (finds is_misshapen) t
    || (false || some_node (finds is_misshapen) o)) (ap not (same_operator operator k e))
    (or_from _ _ a b)

joined_more : (k j : ChainKind) (f : Tree) (links : Links) (operator : Operator) (o : Tree) → same_kind j k ≡ true
    → chain_kind operator ≡ k → Fine (Joined j f links) → Fine o → Fine (Joined j f (Further links operator o))
joined_more k j f links operator o same e a b =
    let p = open_find (not (are_links j links)) (some_node (finds is_misshapen) f || some_link (finds is_misshapen) links) a in
    let q = or_parts _ _ p.1 in
    make_find (not (are_of_kind j links && same_kind (chain_kind operator) j)) (some_node (finds is_misshapen) f
    || (some_link (finds is_misshapen) links || some_node (finds is_misshapen) o))
    (ap not (and_from _ _ (linked j links (not-false _ p.0)) (same_operator operator j (e ∙ sym (kinds j k same)))))
    (or_from _ _ q.0 (or_from _ _ q.1 b))

lengthened_fine : (k : ChainKind) (t : Tree) (operator : Operator) (o : Tree) → is_chain k t ≡ true → chain_kind operator ≡ k → Fine t
    → Fine o → Fine (lengthened t operator o)
lengthened_fine k (Joined j f links) operator o c e a b = joined_more k j f links operator o c e a b
lengthened_fine k _ operator o c e a b = a

joined_fine : (k : ChainKind) (t : Tree) (operator : Operator) (o : Tree) → chain_kind operator ≡ k → Fine t → Fine o
    → Fine (joined k t operator o)
joined_fine k t operator o e a b = joined_holds Fine k t operator o (λ is. lengthened_fine k t operator o is e a b)
    (λ is. joined_new k t operator o e a b)

fine_chain : {kind : ChainKind} {P : Row Tree} → Gives Fine P → Gives Fine (Chain kind P)
fine_chain {kind = kind} u = chain_gives Fine (λ t a. a) (joined_fine kind) u

-- lists

fine_trees : (ts : List Tree) → All Fine ts → some_tree (finds is_misshapen) (trees ts) ≡ false
fine_trees [] a = refl
fine_trees (t ∷ ts) a = or_from _ _ a.0 (fine_trees ts a.1)

abbrev FineKey : KeyTree → Type 0
FineKey k = Fine k.expression

fine_keys : (ks : List KeyTree) → All FineKey ks → some_key (finds is_misshapen) (keys ks) ≡ false
fine_keys [] a = refl
fine_keys (k ∷ ks) a =
    or_from _ _ a.0 (fine_keys ks a.1)

-- frames, names and other parts

toward_any : {b c : FrameBound} → Gives Any (grammar.toward b c)
toward_any = either_gives (after_gives (done_gives tt)) (after_gives (done_gives tt))

bound_any : Gives Any grammar.bound
bound_any =
    either_gives (after_gives toward_any) (either_gives (after_gives (after_gives (done_gives tt)))
    (then_gives Any any_one (λ n a. toward_any)))

extent_any : Gives Any grammar.extent
extent_any = either_gives (after_gives (then_gives Any bound_any (λ b a. after_gives (as_any bound_any)))) (as_any bound_any)

exclusion_any : Gives Any grammar.exclusion
exclusion_any =
    either_gives (after_gives (after_gives (done_gives tt))) (either_gives (after_gives (done_gives tt))
    (either_gives (after_gives (done_gives tt)) (after_gives (after_gives (done_gives tt)))))

frame_any : Gives Any grammar.frame
frame_any =
    then_gives Any any_one (λ m a. then_gives Any extent_any
    (λ e b. then_gives Any (perhaps_gives tt (as_any (after_gives exclusion_any))) (λ x c. done_gives tt)))

-- expressions

key_gives : {C : Row Tree} → Gives Fine C → Gives FineKey (grammar.key C)
key_gives u =
    then_gives Fine u (λ e a. then_gives Any (perhaps_gives tt any_one)
    (λ d b. then_gives Any (perhaps_gives tt (as_any (after_gives any_one))) (λ n c. done_gives a)))

abbrev FineWindow : WindowTree → Type 0
FineWindow w = some_reach (finds is_misshapen) (own_window w) ≡ false

order_gives : {C : Row Tree} → Gives Fine C → Gives (All FineKey) (grammar.order C)
order_gives u = perhaps_gives tt (after_gives (after_gives (all_give (key_gives u))))

window_gives : {C : Row Tree} → Gives Fine C → Gives FineWindow (grammar.window C)
window_gives u =
    then_gives Any (perhaps_gives tt (as_any any_one))
    (λ copied i. then_gives (All Fine) (perhaps_gives tt (after_gives (after_gives (all_give u)))) (λ p a.
    then_gives (All FineKey) (order_gives u) (λ o b. then_gives Any (perhaps_gives tt (as_any frame_any)) (λ f j.
    done_gives (or_from _ _ (fine_trees p a) (fine_keys o b))))))

inside_gives : {n : ℕ} {C : Row Tree} → Gives Fine C → Gives FineWindow (grammar.window_inside n C)
inside_gives u = either_gives (after_gives (done_gives refl)) (room_gives (closed_gives (window_gives u)))

abbrev FineReach : Reach → Type 0
FineReach r = some_reach (finds is_misshapen) r ≡ false

reach_gives : {n : ℕ} {C : Row Tree} → Gives Fine C → Gives FineReach (grammar.optional_over n C)
reach_gives u =
    perhaps_gives refl (after_gives (either_gives (as_gives Any any_one (λ x a. refl))
    (after_gives (as_gives FineWindow (inside_gives u) (λ w a. a)))))

abbrev FineGiven : Given → Type 0
FineGiven g = (some_given (finds is_misshapen) g ≡ false) × ((name : List ℕ) (f : Filter) (r : Reach) → is_given name g f r ≡ true)

arguments_gives : {n : ℕ} {C : Row Tree} → Gives Fine C → Gives FineGiven (grammar.arguments n C)
arguments_gives u =
    either_gives (after_gives (done_gives (refl, λ name f r. refl)))
    (either_gives (after_gives (room_gives (after_gives (done_gives (refl, λ name f r. refl)))))
    (as_gives (All Fine) (closed_gives (all_give u)) (λ l a. (fine_trees l a, λ name f r. refl))))

abbrev FineFilter : Filter → Type 0
FineFilter f = some_filter (finds is_misshapen) f ≡ false

filter_gives : {C : Row Tree} → Gives Fine C → Gives FineFilter (grammar.optional_filter C)
filter_gives u = perhaps_gives refl (after_gives (after_gives (after_gives (as_gives Fine (closed_gives u) (λ e a. a)))))

call_fine : (name : List ℕ) (g : Given) (f : Filter) (r : Reach) → FineGiven g → FineFilter f → FineReach r → Fine (Invoked name g f r)
call_fine name g f r a b c =
    make_find (not (is_given name g f r)) (some_given (finds is_misshapen) g || (some_filter (finds is_misshapen) f
    || some_reach (finds is_misshapen) r)) (ap not (a.1 name f r))
    (or_from _ _ a.0 (or_from _ _ b c))

call_gives : {n : ℕ} {C : Row Tree} {name : List ℕ} → Gives Fine C → Gives Fine (grammar.call n C name)
call_gives {name = name} u =
    then_gives FineGiven (arguments_gives u) (λ g a. then_gives FineFilter (filter_gives u)
    (λ f b. then_gives FineReach (reach_gives u) (λ r c. done_gives (call_fine name g f r a b c))))

named_gives : {n : ℕ} {C : Row Tree} {name : List ℕ} → Gives Fine C → Gives Fine (grammar.column_or_call n C name)
named_gives u = perhaps_gives refl (either_gives (after_gives (as_gives Any any_one (λ x a. refl))) (after_gives (call_gives u)))

abbrev IsField : Tree → Type 0
IsField t = (is_field t ≡ true) × Fine t

column_gives : Gives IsField column
column_gives = then_gives Any any_one (λ x a. perhaps_gives (refl, refl) (after_gives (as_gives Any any_one (λ y b. (refl, refl)))))

field_trees : (ts : List Tree) → All IsField ts → (are_fields (trees ts) ≡ true) × (some_tree (finds is_misshapen) (trees ts) ≡ false)
field_trees [] a = (refl, refl)
field_trees (t ∷ ts) a =
    let r = field_trees ts a.1 in
    (and_from _ _ a.0.0 r.0, or_from _ _ a.0.1 r.1)

grouping_fine : (ts : List Tree) → All IsField ts → Fine (grouping_of ts)
grouping_fine ts a =
    let r = field_trees ts a in
    make_find (not (are_fields (trees ts) && true)) (some_tree (finds is_misshapen) (trees ts) || (false || false))
    (ap not (and_from _ _ r.0 refl)) (or_from _ _ r.1 refl)

grouping_call_gives : {n : ℕ} → Gives Fine (grammar.grouping_call n)
grouping_call_gives =
    after_gives (as_gives (All IsField) (room_gives (closed_gives (all_give column_gives))) (λ l a. grouping_fine l a))

abbrev IsSmall : ℕ → Type 0
IsSmall n = nat_lt n (2 ^ 95) ≡ true

number_said : (t : TokenMeaning) (n : ℕ) → IsShort t → number_of t ≡ Some n → IsSmall n
number_said (NumberToken m) n s e = let is : m ≡ n = cc in ap (λ (x : ℕ). nat_lt x (2 ^ 95)) (sym is) ∙ s
number_said _ n s e = cc

numeral_fine : (n : ℕ) → IsSmall n → Fine (Numeral n)
numeral_fine n s = make_find (not (nat_lt n (2 ^ 95))) false (ap not s) refl

primary_gives : {n : ℕ} {C : Row Tree} → Gives Fine C → Gives Fine (grammar.primary n C)
primary_gives u =
    either_gives (as_gives IsSmall (one_gives number_said) numeral_fine) (either_gives (as_gives Any any_one (λ x a. refl))
    (either_gives (after_gives (done_gives refl))
    (either_gives (then_gives Any any_one (λ x a. named_gives u)) (either_gives (after_gives grouping_call_gives)
    (after_gives (closed_gives u))))))

sign_gives : {U P : Row Tree} → Gives Fine U → Gives Fine P → Gives Fine (grammar.sign_row U P)
sign_gives u p = either_gives (then_gives Any any_one (λ m a. as_gives Fine u (λ e b. b))) p

test_gives : {A U : Row Tree} {e : Tree} {b : Bool} → Fine e → Gives Fine A → Gives Fine U → Gives Fine (grammar.range_test A U e b)
test_gives {e = e} i a u =
    either_gives (after_gives (then_gives Fine a (λ low x. after_gives (as_gives Fine a (λ high y. or_from _ _ i (or_from _ _ x y))))))
    (after_gives (after_gives (as_gives (All Fine) (closed_gives (all_give u)) (λ l x. or_from _ _ i (fine_trees l x)))))

not_any : Gives Any grammar.optional_not
not_any = perhaps_gives tt (after_gives (done_gives tt))

range_gives : {A U : Row Tree} → Gives Fine A → Gives Fine U → Gives Fine (grammar.range_row A U)
range_gives a u = then_gives Fine a (λ e i. perhaps_gives i (then_gives Any not_any (λ b j. test_gives i a u)))

comparison_gives : {R : Row Tree} → Gives Fine R → Gives Fine (grammar.comparison_row R)
comparison_gives r =
    then_gives Fine r (λ l i. perhaps_gives i (then_gives Any any_one (λ c j. as_gives Fine r (λ x k. or_from _ _ i k))))

null_gives : {R : Row Tree} → Gives Fine R → Gives Fine (grammar.test_row R)
null_gives r = then_gives Fine r (λ e i. perhaps_gives i (after_gives (then_gives Any not_any (λ b j. after_gives (done_gives i)))))

module _ (n : ℕ) (U : Rank → Row Tree) (u : (rank : Rank) → Gives Fine (U rank)) where
  signs_give : Gives Fine (sign_over n U)
  signs_give = sign_gives (u SignRank) (primary_gives (u (ChainRank Disjunction)))

  negations_give : Gives Fine (negation_over n U)
  negations_give =
      either_gives (after_gives (as_gives Fine (u NegationRank) (λ e a. a)))
      (null_gives (comparison_gives (range_gives (fine_chain (fine_chain signs_give)) (u (ChainRank Sum)))))

  operands_give : (kind : ChainKind) → Gives Fine (operand_over n U kind)
  operands_give Disjunction = fine_chain negations_give
  operands_give Conjunction = negations_give
  operands_give Sum = fine_chain signs_give
  operands_give Product = signs_give

  row_gives : (rank : Rank) → Gives Fine (row_over n U rank)
  row_gives (ChainRank kind) = fine_chain (operands_give kind)
  row_gives NegationRank = negations_give
  row_gives SignRank = signs_give

deeper_gives : (n : ℕ) (rank : Rank) → Gives Fine (deeper n rank)
unfolding deeper
deeper_gives zero rank = none_gives (λ y ts rest p. p)
deeper_gives (suc n) rank = row_gives n (deeper n) (deeper_gives n) rank

conditions_give : (n : ℕ) → Gives Fine (condition n)
conditions_give n = row_gives n (deeper n) (deeper_gives n) (ChainRank Disjunction)

-- queries

abbrev FineItem : ItemTree → Type 0
FineItem AllColumns = Unit {0}
FineItem (Computed t alias) = Fine t

alias_any : Gives Any queries.required_alias
alias_any = then_gives Any (perhaps_gives tt (after_gives (done_gives tt))) (λ b a. any_one)

item_gives : (n : ℕ) → Gives FineItem (queries.item n)
item_gives n =
    either_gives (after_gives (done_gives tt)) (then_gives Fine (conditions_give n)
    (λ e a. as_gives Any (perhaps_gives tt (as_any alias_any)) (λ x b. a)))

fine_items : (is : List ItemTree) → All FineItem is → some_item (finds is_misshapen) is ≡ false
fine_items [] a = refl
fine_items (AllColumns ∷ is) a = fine_items is a.1
fine_items (Computed t alias ∷ is) a =
    or_from _ _ a.0 (fine_items is a.1)

abbrev FineOption : Option Tree → Type 0
FineOption t = some_option (finds is_misshapen) t ≡ false

clause_gives : (k : Keyword) (n : ℕ) → Gives FineOption (queries.clause k n)
clause_gives k n = perhaps_gives refl (as_gives Fine (after_gives (conditions_give n)) (λ e a. a))

abbrev AreFields : List Tree → Type 0
AreFields ts = list_all is_field ts ≡ true

fields : (ts : List Tree) → All IsField ts → AreFields ts
fields [] a = refl
fields (t ∷ ts) a = and_from _ _ a.0.0 (fields ts a.1)

fields_behind : (xs ys : List Tree) → AreFields xs → AreFields ys → AreFields (xs ++ ys)
fields_behind xs ys a b = list_all-append is_field xs ys ∙ ap₂ (λ x y. x && y) a b

flat_all : {X : Type 0} (f : X → List Tree) (xs : List X) → All (λ x. AreFields (f x)) xs → AreFields (flat_map f xs)
flat_all f [] a = refl
flat_all f (x ∷ xs) a = fields_behind (f x) (flat_map f xs) a.0 (flat_all f xs a.1)

lone_gives : Gives AreFields queries.lone_column
lone_gives = as_gives IsField column_gives (λ c a. and_from _ _ a.0 refl)

closed_columns : {n : ℕ} → Gives AreFields (grammar.columns_closed n)
closed_columns = weaker (λ y a. fields y a) (room_gives (closed_gives (all_give column_gives)))

part_gives : (n : ℕ) → Gives AreFields (queries.part n)
part_gives n = either_gives lone_gives (after_gives closed_columns)

parts_give : (n : ℕ) → Gives (All AreFields) (queries.parts n)
parts_give n = after_gives (room_gives (closed_gives (all_give (part_gives _))))

abbrev FineEntry : Entry Tree → Type 0
FineEntry e = AreFields (entry_columns e)

lone_entry_gives : (n : ℕ) → Gives FineEntry (queries.lone_entry n)
lone_entry_gives n =
    either_gives (after_gives (as_gives (All AreFields) (parts_give n) (λ ps a. flat_all (λ part. part) ps a)))
    (either_gives (after_gives (as_gives (All AreFields) (parts_give n) (λ ps a. flat_all (λ part. part) ps a)))
    (as_gives AreFields lone_gives (λ c a. a)))

set_gives : (n : ℕ) → Gives FineEntry (queries.set n)
set_gives n =
    either_gives (lone_entry_gives n) (after_gives
    (as_gives AreFields (either_gives (after_gives (done_gives refl)) closed_columns) (λ c a. a)))

abbrev FineElement : Element Tree → Type 0
FineElement e = AreFields (flat_map entry_columns e)

sets_give : (n : ℕ) → Gives FineElement (queries.sets n)
sets_give n = after_gives (after_gives (room_gives (closed_gives (weaker (λ y a. flat_all entry_columns y a) (all_give (set_gives _))))))

element_gives : (n : ℕ) → Gives FineElement (queries.element n)
element_gives n =
    either_gives (after_gives (sets_give n)) (as_gives FineEntry (lone_entry_gives n) (λ e a. fields_behind (entry_columns e) [] a refl))

grouping_gives : (n : ℕ) → Gives (All FineElement) (queries.grouping n)
grouping_gives n = perhaps_gives tt (after_gives (after_gives (all_give (element_gives n))))

abbrev FineNamed : EntryTree → Type 0
FineNamed e = FineWindow e.window

entry_gives : (n : ℕ) → Gives FineNamed (queries.entry n)
entry_gives n =
    then_gives Any any_one (λ name i. after_gives
    (after_gives (as_gives FineWindow (inside_gives (deeper_gives n (ChainRank Disjunction))) (λ w a. a))))

fine_entries : (es : List EntryTree) → All FineNamed es → some_entry (finds is_misshapen) es ≡ false
fine_entries [] a = refl
fine_entries (e ∷ es) a =
    or_from _ _ a.0 (fine_entries es a.1)

fine_order : (ks : List KeyTree) → All FineKey ks → list_any is_key_misshapen ks ≡ false
fine_order [] a = refl
fine_order (k ∷ ks) a = or_from _ _ a.0 (fine_order ks a.1)

count_any : {k : Keyword} → Gives Any (queries.count k)
count_any = perhaps_gives tt (as_any (after_gives any_one))

limits_any : Gives Any queries.limits
limits_any =
    perhaps_gives tt (either_gives (after_gives (then_gives Any any_one (λ n a. as_any count_any)))
    (after_gives (then_gives Any any_one (λ n a. as_any count_any))))

abbrev Shaped : QueryTree → Type 0
Shaped q = is_shaped q ≡ true

abbrev ShapedSource : SourceTree → Type 0
ShapedSource s = is_shaped_source s ≡ true

query_fine : (is : List ItemTree) (s : SourceTree) (condition : Option Tree) (g : List (Element Tree)) (having : Option Tree)
    (ws : List EntryTree) (o : List KeyTree) (l : Option ℕ × Option ℕ)
    → All FineItem is → ShapedSource s → FineOption condition → All FineElement g → FineOption having → All FineNamed ws → All FineKey o
    → Shaped (query_of is s condition g having ws o l)
query_fine is s condition g having ws o l a b c d e f h =
    and_from _ _
    (and_from _ _ (flat_all (flat_map entry_columns) g d)
    (ap not (or_from _ _ (fine_items is a) (or_from _ _ c (or_from _ _ e (or_from _ _ (fine_entries ws f) (fine_order o h))))))) b

clauses_give : (n : ℕ) (is : List ItemTree) (s : SourceTree) → All FineItem is → ShapedSource s → Gives Shaped (clauses n is s)
clauses_give n is s a b =
    then_gives FineOption (clause_gives _ n) (λ condition c. then_gives (All FineElement) (grouping_gives n)
    (λ g d. then_gives FineOption (clause_gives _ n) (λ having e.
    then_gives (All FineNamed) (perhaps_gives tt (after_gives (all_give (entry_gives n))))
    (λ ws f. then_gives (All FineKey) (order_gives (conditions_give n)) (λ o h.
    then_gives Any limits_any (λ l i. done_gives (query_fine is s condition g having ws o l a b c d e f h)))))))

source_gives : {U : Row QueryTree} → Gives Shaped U → Gives ShapedSource (queries.source U)
source_gives u =
    either_gives (then_gives Any any_one (λ x i. as_gives Any (perhaps_gives tt (as_any alias_any)) (λ y j. refl)))
    (after_gives (then_gives Shaped (closed_gives u) (λ q a. as_gives Any alias_any (λ x i. a))))

query_gives : (n : ℕ) {U : Row QueryTree} → Gives Shaped U → Gives Shaped (query_over n U)
query_gives n u =
    after_gives (then_gives (All FineItem) (all_give (item_gives n))
    (λ is a. after_gives (then_gives ShapedSource (source_gives u) (λ s b. clauses_give n is s a b))))

queries_give : (n : ℕ) → Gives Shaped (deeper_query n)
unfolding deeper_query
queries_give zero = none_gives (λ y ts rest p. p)
queries_give (suc n) = query_gives n (queries_give n)

spelled : (q : QueryTree) (ts : Tokens) → Are IsShort ts → Spells q ts → Shaped q
spelled q ts s p =
    ((then_gives Shaped (query_gives 64 (queries_give 64))
    (λ x a. then_gives Any (perhaps_gives tt (after_gives (done_gives tt))) (λ b i. done_gives a))).gives q ts [] s p).0

-- tokens of a text

short_token : (text left : List ℕ) (t : TokenMeaning) → spelling.Spelled text t left → IsShort t
short_token text left t (spelling.keyword_word k is) = tt
short_token text left t (spelling.name_word k is short) = tt
short_token text left t (spelling.quoted_name k is some short) = tt
short_token text left t (spelling.quoted_text k is) = tt
short_token text left t (spelling.digits {b =
    b} {text = more} k below stop) = lt-ltb (spelling.number_of (spelling.front stretches.Digits (b ∷ more))) (2 ^ 95) below
short_token text left t (spelling.symbol_pair k is) = tt
short_token text left t (spelling.single_symbol k is none) = tt

short_tokens : (size : ℕ) (text rest : List ℕ) (ts : List PlacedToken) → LexesFirst size text ts rest
    → Are IsShort (map (λ (t : PlacedToken). t.meaning) ts)
short_tokens size text rest ts (no_token s) = tt
short_tokens size text rest ts (next_token {here =
    here} {after = left} {token = token} {tokens = tokens} s p from to more) =
    (short_token here left token.meaning p, short_tokens size left rest tokens more)

pub spelled_is_shaped : SpelledIsShaped
spelled_is_shaped text tokens q lexed spells =
    spelled q (map (λ (t : PlacedToken). t.meaning) tokens) (short_tokens _ text [] tokens lexed) spells
