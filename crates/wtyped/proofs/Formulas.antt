-- An expression in which no node is ill typed and each cell has its column's type resolves to one of its type.
use Rattle.std.proofs.Common.{◌≡◌, ◌⊎◌, inl, inr, Bool, true, false, not, ◌&&◌, ◌||◌, ℕ, pos, ◌^◌, nat_lt}
use Rattle.std.proofs.Common.{List, [], ◌∷◌, Option, Some, refl, sym, ap, ap₂, ◌∙◌, true≢false}
use Rattle.std.specs.Prelude.{if◌then◌else◌}
use Rattle.std.specs.List.{list_all}
use Rattle.std.proofs.lemmas.Bool.{or_cases, or_parts, and_parts, not-false}
use Rattle.wquery.specs.declared.expression.ChainKind.{ChainKind}
use Rattle.wquery.specs.declared.expression.ChainKind.TheVariants.{Disjunction, Conjunction, Sum, Product}
use Rattle.wquery.specs.declared.expression.Operator.{Operator}
use Rattle.wquery.specs.declared.expression.Operator.TheVariants.{Or, And, Plus, Minus, Times}
use Rattle.wquery.specs.Lefts.{chain_kind}
use Rattle.wquery.specs.Tree.{Tree, NullWord, Numeral, Quoted, Field, Invoked, Negated, Signed, Joined, Compared, NullTest}
use Rattle.wquery.specs.Tree.{Within, Among, Trees, NoTrees, MoreTrees, Links, NoLinks, Further, same_kind}
use Rattle.wvalues.specs.Meaning as meanings
use Rattle.wscope.specs.declared.data_type.DataType.{DataType}
use Rattle.wscope.specs.declared.data_type.DataType.TheVariants.{Integer, Text, Truth, Null}
use Rattle.wscope.specs.declared.look.Look.{Look}
use Rattle.wscope.specs.declared.look.Look.TheVariants.{Found, Closed, Below}
use Rattle.wscope.specs.Seeking.{found_or, some_below, some_link, some_node, some_tree}
use Rattle.wscope.specs.Types.{Titled, agree, chain_type, fits_integer, fits_text, type_of, is_truth}
use Rattle.wnames.specs.Types.{all_trees, is_ill_typed, is_integer, is_text}
use Rattle.wnames.specs.Laws.{all_links, suits}
use Rattle.wnames.proofs.Operands.{of_chain, of_in, of_not, of_sign}
use Rattle.wplan.specs.Formula.{Formula}
use Rattle.wbinding.specs.Resolving.{Layout, resolved, resolved_links, resolved_trees}
use Rattle.wtyped.specs.Typing.{beside, beside_all, common, constant_type, formula_type, gives}
use Rattle.wtyped.specs.Typing.{has, is_number, judged, takes, valued, where_holds}
use Rattle.wtyped.specs.Shapes.{are_links, are_of_kind, is_misshapen}
use Rattle.wtyped.proofs.Walks.{open_find}
use Rattle.wtyped.proofs.Types.{Passes, fits, has_type}

abbrev pub same_type : DataType → DataType → Bool
same_type Integer Integer = true
same_type Text Text = true
same_type Truth Truth = true
same_type Null Null = true
same_type _ _ = false

one_type : (a b : DataType) → same_type a b ≡ true → a ≡ b
one_type Integer Integer e = refl
one_type Text Text e = refl
one_type Truth Truth e = refl
one_type Null Null e = refl
one_type _ _ e = absurd (true≢false (sym e))

pub self_type : (a : DataType) → same_type a a ≡ true
self_type Integer = refl
self_type _ = refl

-- whether a column or a call has the type of its cell
abbrev pub is_typed_cell : Layout → List DataType → Tree → Bool
is_typed_cell l ts n = has (same_type (type_of l.columns n)) (formula_type ts (resolved l n))

pub cell_typed : (l : Layout) (ts : List DataType) (n : Tree) → is_typed_cell l ts n ≡ true
    → formula_type ts (resolved l n) ≡ Some (type_of l.columns n)
cell_typed l ts n e =
    let p = has_type (same_type (type_of l.columns n)) (formula_type ts (resolved l n)) e in
    p.is ∙ ap Some (sym (one_type _ p.type p.passes))

pub typed_cell : (l : Layout) (ts : List DataType) (n : Tree) → formula_type ts (resolved l n) ≡ Some (type_of l.columns n)
    → is_typed_cell l ts n ≡ true
typed_cell l ts n e = ap (has (same_type (type_of l.columns n))) e ∙ self_type (type_of l.columns n)

-- a node of another type or shape
abbrev pub is_unfit : List Titled → Tree → Bool
is_unfit cs n = is_ill_typed cs n || is_misshapen n

abbrev pub find : Bool → Look
find b = if b then Found else Below

abbrev pub shut : Bool → Look
shut b = if b then Closed else Found

-- a node that does not fit; what a call is given is another row's matter
abbrev pub sees_misfit : Layout → List DataType → Tree → Look
sees_misfit l ts (Field qualifier name) = find (not (is_typed_cell l ts (Field qualifier name)))
sees_misfit l ts (Invoked name given filter reach) = shut (is_typed_cell l ts (Invoked name given filter reach))
sees_misfit l ts n = find (is_unfit l.columns n)

shut_look : (b x : Bool) → found_or (shut b) x ≡ false → b ≡ true
shut_look true x e = refl
shut_look false x e = absurd (true≢false e)

-- the rule on types and the types of rows mean one thing
pub number_is : (t : DataType) → fits_integer t ≡ true → is_number t ≡ true
number_is Integer e = refl
number_is Null e = refl
number_is _ e = absurd (true≢false (sym e))

abbrev suits_type : ChainKind → DataType → Bool
suits_type Disjunction t = is_truth t
suits_type Conjunction t = is_truth t
suits_type Sum t = fits_integer t
suits_type Product t = fits_integer t

suited : (cs : List Titled) (kind : ChainKind) (t : Tree) → suits cs kind t ≡ true → suits_type kind (type_of cs t) ≡ true
suited cs Disjunction t e = e
suited cs _ t e = e

chain_suits : (kind : ChainKind) → suits_type kind (chain_type kind) ≡ true
chain_suits Disjunction = refl
chain_suits _ = refl

pub held_one : (p : DataType → Bool) (u : DataType) (o : Option DataType) (t : DataType) → o ≡ Some t → p t ≡ true
    → where_holds (has p o) u ≡ Some u
held_one p u o t e s = ap (λ (b : Bool). where_holds b u) (ap (has p) e ∙ s)

held_two : (p : DataType → Bool) (u : DataType) (o q : Option DataType) (a b : DataType) → o ≡ Some a → q ≡ Some b → p a ≡ true → p b ≡ true
    → where_holds (has p o && has p q) u ≡ Some u
held_two p u o q a b e f s t = ap₂ (λ (x y : Bool). where_holds (x && y) u) (ap (has p) e ∙ s) (ap (has p) f ∙ t)

applied : (operator : Operator) (kind : ChainKind) (o p : Option DataType) (a b : DataType) → same_kind (chain_kind operator) kind ≡ true
    → o ≡ Some a → p ≡ Some b → suits_type kind a ≡ true → suits_type kind b ≡ true
    → where_holds (has (takes operator) o && has (takes operator) p) (gives operator) ≡ Some (chain_type kind)
applied Or Disjunction o p a b k e f s t = held_two is_truth Truth o p a b e f s t
applied And Conjunction o p a b k e f s t = held_two is_truth Truth o p a b e f s t
applied Plus Sum o p a b k e f s t = held_two is_number Integer o p a b e f (number_is a s) (number_is b t)
applied Minus Sum o p a b k e f s t = held_two is_number Integer o p a b e f (number_is a s) (number_is b t)
applied Times Product o p a b k e f s t = held_two is_number Integer o p a b e f (number_is a s) (number_is b t)
applied _ _ o p a b k e f s t = absurd (true≢false (sym k))

-- types that agree have one in common
join : (k a b : DataType) → fits k a ≡ true → fits k b ≡ true → Passes (fits k) (common a b)
join Integer Integer Integer f g = record { type = Integer; is = refl; passes = refl }
join Integer Integer Null f g = record { type = Integer; is = refl; passes = refl }
join Integer Null Integer f g = record { type = Integer; is = refl; passes = refl }
join Integer Null Null f g = record { type = Null; is = refl; passes = refl }
join Text Text Text f g = record { type = Text; is = refl; passes = refl }
join Text Text Null f g = record { type = Text; is = refl; passes = refl }
join Text Null Text f g = record { type = Text; is = refl; passes = refl }
join Text Null Null f g = record { type = Null; is = refl; passes = refl }
join Integer Integer _ f g = absurd (true≢false (sym g))
join Integer Null _ f g = absurd (true≢false (sym g))
join Text Text _ f g = absurd (true≢false (sym g))
join Text Null _ f g = absurd (true≢false (sym g))
join _ _ b f g = absurd (true≢false (sym f))

beside_join : (k a b : DataType) (o p : Option DataType) → o ≡ Some a → p ≡ Some b → fits k a ≡ true → fits k b ≡ true
    → Passes (fits k) (beside o p)
beside_join k a b o p e f g h =
    let j = join k a b g h in record { type = j.type; is = ap₂ (λ (x y : Option DataType). beside x y) e f ∙ j.is; passes = j.passes }

pub record Agrees (ts : List DataType) : Type 0 where
  pub kind : DataType
  pub fit : list_all (fits kind) ts ≡ true

pub agreed : (ts : List DataType) → agree ts ≡ true → Agrees ts
agreed ts e = go (or_cases (list_all fits_integer ts) (list_all fits_text ts) e)
  where
    go : (list_all fits_integer ts ≡ true) ⊎ (list_all fits_text ts ≡ true) → Agrees ts
    go (inl a) = record { kind = Integer; fit = a }
    go (inr b) = record { kind = Text; fit = b }

pub two : (o p : Option DataType) (a b : DataType) → agree (a ∷ b ∷ []) ≡ true → o ≡ Some a → p ≡ Some b → Passes (λ t. true) (beside o p)
two o p a b e f g =
    let k = agreed (a ∷ b ∷ []) e in
    let x = and_parts _ _ k.fit in
    let j = beside_join k.kind _ _ _ _ f g x.0 (and_parts _ _ x.1).0 in
    record { type = j.type; is = j.is; passes = refl }

three : (o p q : Option DataType) (a b c : DataType) → agree (a ∷ b ∷ c ∷ []) ≡ true → o ≡ Some a → p ≡ Some b → q ≡ Some c
    → Passes (λ t. true) (beside (beside o p) q)
three o p q a b c e f g h =
    let k = agreed (a ∷ b ∷ c ∷ []) e in
    let x = and_parts _ _ k.fit in
    let y = and_parts _ _ x.1 in
    let j = beside_join k.kind _ _ _ _ f g x.0 y.0 in
    let i = beside_join k.kind j.type c (beside o p) q j.is h j.passes (and_parts _ _ y.1).0 in
    record { type = i.type; is = i.is; passes = refl }

truth_of : (o : Option DataType) → Passes (λ t. true) o → judged o ≡ Some Truth
truth_of o p = ap judged p.is

-- a value's type
value_of : (k t : DataType) → fits k t ≡ true → valued (Some t) ≡ Some t
value_of Integer Truth e = absurd (true≢false (sym e))
value_of _ Truth e = absurd (true≢false (sym e))
value_of k _ e = refl

-- what stands in a list has one type
one_kind : (cs : List Titled) (t : Tree) (us : Trees) (o : Option DataType)
    → ((is_integer cs t && all_trees (is_integer cs) us) || (is_text cs t && all_trees (is_text cs) us)) ≡ true
    → ((k : DataType) → fits k (type_of cs t) ≡ true → all_trees (λ u. fits k (type_of cs u)) us ≡ true → Passes (λ u. true) o)
    → Passes (λ u. true) o
one_kind cs t us o e all = go (or_cases (is_integer cs t && all_trees (is_integer cs) us) (is_text cs t && all_trees (is_text cs) us) e)
  where
    go : ((is_integer cs t && all_trees (is_integer cs) us) ≡ true) ⊎ ((is_text cs t && all_trees (is_text cs) us) ≡ true)
        → Passes (λ u. true) o
    go (inl i) = let p = and_parts _ _ i in all Integer p.0 p.1
    go (inr i) = let p = and_parts _ _ i in all Text p.0 p.1

numeral : (b : Bool) → (false || not b) ≡ false → (n : ℕ)
    → Some (constant_type (if b then meanings.Int (pos n) else meanings.Null)) ≡ Some Integer
numeral true f n = refl
numeral false f n = absurd (true≢false f)

mutual
  pub typed : (l : Layout) (ts : List DataType) (t : Tree) → some_node (sees_misfit l ts) t ≡ false
      → formula_type ts (resolved l t) ≡ Some (type_of l.columns t)
  typed l ts NullWord e = refl
  typed l ts (Numeral n) e = numeral (nat_lt n (2 ^ 95)) (open_find (false || not (nat_lt n (2 ^ 95))) false e).0 n
  typed l ts (Quoted text) e = refl
  typed l ts (Field qualifier name) e =
      cell_typed l ts (Field qualifier name) (not-false _ (open_find (not (is_typed_cell l ts (Field qualifier name))) false e).0)
  typed l ts (Invoked name given filter reach) e =
      cell_typed l ts (Invoked name given filter reach) (shut_look (is_typed_cell l ts (Invoked name given filter reach))
      (some_below (sees_misfit l ts) (Invoked name given filter reach)) e)
  typed l ts (Negated t) e =
      let o = open_find (is_unfit l.columns (Negated t)) (some_node (sees_misfit l ts) t) e in
      held_one is_truth Truth _ _ (typed l ts t o.1) (not-false _ (sym (of_not l.columns t) ∙ (or_parts _ _ o.0).0))
  typed l ts (Signed minus t) e =
      let o = open_find (is_unfit l.columns (Signed minus t)) (some_node (sees_misfit l ts) t) e in
      held_one is_number Integer _ _ (typed l ts t o.1)
      (number_is (type_of l.columns t) (not-false _ (sym (of_sign l.columns minus t) ∙ (or_parts _ _ o.0).0)))
  typed l ts (Joined kind t links) e =
      let o = open_find (is_unfit l.columns (Joined kind t links)) (some_node (sees_misfit l ts) t
      || some_link (sees_misfit l ts) links) e in
      let u = or_parts _ _ o.0 in
      let s = and_parts _ _ (not-false _ (sym (of_chain l.columns kind t links) ∙ u.0)) in
      let below = or_parts _ _ o.1 in
      chain l ts kind links _ _ (typed l ts t below.0) (suited l.columns kind t s.0) s.1 (not-false _ u.1) below.1
  typed l ts (Compared comparison t u) e =
      let o = open_find (is_unfit l.columns (Compared comparison t u)) (some_node (sees_misfit l ts) t
      || some_node (sees_misfit l ts) u) e in
      let a = not-false _ (or_parts _ _ o.0).0 in
      let below = or_parts _ _ o.1 in
      truth_of _ (two _ _ _ _ a (typed l ts t below.0) (typed l ts u below.1))
  typed l ts (NullTest negated t) e =
      let o = open_find (is_unfit l.columns (NullTest negated t)) (some_node (sees_misfit l ts) t) e in ap judged (typed l ts t o.1)
  typed l ts (Within negated t u v) e =
      let o = open_find (is_unfit l.columns (Within negated t u v)) (some_node (sees_misfit l ts) t
      || (some_node (sees_misfit l ts) u || some_node (sees_misfit l ts) v)) e in
      let a = not-false _ (or_parts _ _ o.0).0 in
      let below = or_parts _ _ o.1 in
      let behind = or_parts _ _ below.1 in
      truth_of _ (three _ _ _ _ _ _ a (typed l ts t below.0) (typed l ts u behind.0) (typed l ts v behind.1))
  typed l ts (Among negated t list) e =
      let o = open_find (is_unfit l.columns (Among negated t list)) (some_node (sees_misfit l ts) t
      || some_tree (sees_misfit l ts) list) e in
      let one = not-false _ (sym (of_in l.columns negated t list) ∙ (or_parts _ _ o.0).0) in
      let below = or_parts _ _ o.1 in
      let first = typed l ts t below.0 in
      truth_of (beside_all ts (valued (formula_type ts (resolved l t))) (resolved_trees l list))
      (one_kind l.columns t list (beside_all ts (valued (formula_type ts (resolved l t))) (resolved_trees l list)) one
      (λ k a b. all_listed l ts list k (valued (formula_type ts (resolved l t))) (type_of l.columns t) (ap valued first
      ∙ value_of k (type_of l.columns t) a) a b below.1))

  front_typed : (l : Layout) (ts : List DataType) (kind : ChainKind) (links : Links) (f : Formula) (a : DataType)
      → formula_type ts f ≡ Some a → suits_type kind a ≡ true
      → all_links (suits l.columns kind) links ≡ true → are_of_kind kind links ≡ true → some_link (sees_misfit l ts) links ≡ false
      → Passes (suits_type kind) (formula_type ts (resolved_links l f links))
  front_typed l ts kind NoLinks f a is s all of_kind e = record { type = a; is = is; passes = s }
  front_typed l ts kind (Further front operator t) f a is s all of_kind e =
      let k = and_parts _ _ of_kind in
      let x = and_parts _ _ all in
      let y = or_parts _ _ e in
      let p = front_typed l ts kind front f a is s x.0 k.0 y.0 in
      record {
        type = chain_type kind;
        is = applied operator kind _ _ _ _ k.1 p.is (typed l ts t y.1) p.passes
            (suited l.columns kind t x.1);
        passes = chain_suits kind;
      }

  chain : (l : Layout) (ts : List DataType) (kind : ChainKind) (links : Links) (f : Formula) (a : DataType) → formula_type ts f ≡ Some a
      → suits_type kind a ≡ true
      → all_links (suits l.columns kind) links ≡ true → are_links kind links ≡ true → some_link (sees_misfit l ts) links ≡ false
      → formula_type ts (resolved_links l f links) ≡ Some (chain_type kind)
  chain l ts kind NoLinks f a is s all of_kind e = absurd (true≢false (sym of_kind))
  chain l ts kind (Further front operator t) f a is s all of_kind e =
      let k = and_parts _ _ of_kind in
      let x = and_parts _ _ all in
      let y = or_parts _ _ e in
      let p = front_typed l ts kind front f a is s x.0 k.0 y.0 in
      applied operator kind _ _ _ _ k.1 p.is (typed l ts t y.1) p.passes (suited l.columns kind t x.1)

  all_listed : (l : Layout) (ts : List DataType) (us : Trees) (k : DataType) (o : Option DataType) (a : DataType) → o ≡ Some a
      → fits k a ≡ true → all_trees (λ u. fits k (type_of l.columns u)) us ≡ true → some_tree (sees_misfit l ts) us ≡ false
      → Passes (λ u. true) (beside_all ts o (resolved_trees l us))
  all_listed l ts NoTrees k o a is f all e = record { type = a; is = is; passes = refl }
  all_listed l ts (MoreTrees t us) k o a is f all e =
      let x = and_parts _ _ all in
      let y = or_parts _ _ e in
      let j = beside_join k _ _ _ _ is (typed l ts t y.0) f x.0 in
      all_listed l ts us k (beside o (formula_type ts (resolved l t))) j.type j.is j.passes x.1 y.1
