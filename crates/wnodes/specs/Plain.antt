-- Equality of expressions is an equivalence: two are equal just where they are one without what equality looks through.
use Rattle.std.proofs.Common.{◌≡◌, ℕ, Bool, true, false, ◌&&◌, List, Option, Some, None, refl, sym, ap, ◌∙◌, true≢false}
use Rattle.std.specs.Prelude.{nat_eq}
use Rattle.std.specs.Bool.{Decides, one_answer}
use Rattle.std.specs.Str.{bytes_eq}
use Rattle.std.specs.Cmp.{IsEquivalence, unsigned_Decides}
use Rattle.std.specs.Cmp.Lexicographic.{bytes_decides}
use Rattle.wquery.specs.declared.expression.ChainKind.{ChainKind}
use Rattle.wquery.specs.declared.expression.ChainKind.TheVariants.{Disjunction, Conjunction, Sum, Product}
use Rattle.wquery.specs.declared.expression.Operator.{Operator}
use Rattle.wquery.specs.declared.expression.Operator.TheVariants.{Or, And, Plus, Minus, Times}
use Rattle.wquery.specs.declared.expression.Comparison.{Comparison}
use Rattle.wquery.specs.declared.expression.Comparison.TheVariants.{Equal, NotEqual, Less, LessOrEqual, Greater, GreaterOrEqual}
use Rattle.wquery.specs.declared.expression.NullOrder.{NullOrder}
use Rattle.wquery.specs.declared.expression.NullOrder.TheVariants.{First, Last}
use Rattle.wquery.specs.declared.frame.Frame.{Frame}
use Rattle.wquery.specs.declared.frame.FrameMode.{FrameMode}
use Rattle.wquery.specs.declared.frame.FrameMode.TheVariants.{Rows, Range, Groups}
use Rattle.wquery.specs.declared.frame.FrameBound.{FrameBound}
use Rattle.wquery.specs.declared.frame.FrameBound.TheVariants as bounds
use Rattle.wquery.specs.declared.frame.FrameExclusion.{FrameExclusion}
use Rattle.wquery.specs.declared.frame.FrameExclusion.TheVariants as exclusions
use Rattle.wquery.specs.Tree.{Tree, NullWord, Numeral, Quoted, Field, Invoked, Negated, Signed, Joined, Compared, NullTest, Within}
use Rattle.wquery.specs.Tree.{Among, Trees, NoTrees, MoreTrees, Links, NoLinks, Further, Given, Everything, These, Columns, Filter}
use Rattle.wquery.specs.Tree.{Unfiltered, FilteredBy, Reach, ItsGroup, ThatWindow, OwnWindow, Keys, NoKeys, MoreKeys, same_kind}
use Rattle.wnodes.specs.Bounds.{end_of}
use Rattle.wnodes.specs.Sameness.{is_same, are_same, are_same_links, are_same_given, is_same_filter, is_same_reach}
use Rattle.wnodes.specs.Sameness.{are_same_keys, same_bool, same_bound, same_copied, same_frame, operator_number}
use Rattle.wnodes.specs.Sameness.{comparison_number, nulls_number, mode_number, exclusion_number}

-- tests that hold together

both : (a b : Bool) → (a && b) ≡ true → (a ≡ true) × (b ≡ true)
both true b h = (refl, h)
both false b h = absurd (true≢false (sym h))

joint : (a b : Bool) → a ≡ true → b ≡ true → (a && b) ≡ true
joint true b h k = k
joint false b h k = h

-- marks

pub equal_numbers : (m n : ℕ) → nat_eq m n ≡ true → m ≡ n
equal_numbers m n = (unsigned_Decides m n).0

one_number : (m n : ℕ) → m ≡ n → nat_eq m n ≡ true
one_number m n = (unsigned_Decides m n).1

pub equal_names : (a b : List ℕ) → bytes_eq a b ≡ true → a ≡ b
equal_names a b = (bytes_decides a b).0

one_name : (a b : List ℕ) → a ≡ b → bytes_eq a b ≡ true
one_name a b = (bytes_decides a b).1

pub flags : (a b : Bool) → same_bool a b ≡ true → a ≡ b
flags true b h = sym h
flags false true h = cc
flags false false h = refl

one_flag : (a b : Bool) → a ≡ b → same_bool a b ≡ true
one_flag true b h = sym h
one_flag false true h = cc
one_flag false false h = refl

pub kinds : (a b : ChainKind) → same_kind a b ≡ true → a ≡ b
kinds Disjunction Disjunction h = refl
kinds Conjunction Conjunction h = refl
kinds Sum Sum h = refl
kinds Product Product h = refl
kinds _ _ h = cc

one_kind : (a b : ChainKind) → a ≡ b → same_kind a b ≡ true
one_kind Disjunction Disjunction h = refl
one_kind Conjunction Conjunction h = refl
one_kind Sum Sum h = refl
one_kind Product Product h = refl
one_kind _ _ h = cc

pub operators : (a b : Operator) → nat_eq (operator_number a) (operator_number b) ≡ true → a ≡ b
operators Or Or h = refl
operators And And h = refl
operators Plus Plus h = refl
operators Minus Minus h = refl
operators Times Times h = refl
operators _ _ h = cc

pub comparisons : (a b : Comparison) → nat_eq (comparison_number a) (comparison_number b) ≡ true → a ≡ b
comparisons Equal Equal h = refl
comparisons NotEqual NotEqual h = refl
comparisons Less Less h = refl
comparisons LessOrEqual LessOrEqual h = refl
comparisons Greater Greater h = refl
comparisons GreaterOrEqual GreaterOrEqual h = refl
comparisons _ _ h = cc

pub nulls : (a b : Option NullOrder) → nat_eq (nulls_number a) (nulls_number b) ≡ true → a ≡ b
nulls None None h = refl
nulls (Some First) (Some First) h = refl
nulls (Some Last) (Some Last) h = refl
nulls None (Some First) h = cc
nulls None (Some Last) h = cc
nulls (Some First) None h = cc
nulls (Some Last) None h = cc
nulls (Some First) (Some Last) h = cc
nulls (Some Last) (Some First) h = cc

-- frames

pub modes : (a b : FrameMode) → nat_eq (mode_number a) (mode_number b) ≡ true → a ≡ b
modes Rows Rows h = refl
modes Range Range h = refl
modes Groups Groups h = refl
modes _ _ h = cc

pub bounds_one : (a b : FrameBound) → same_bound a b ≡ true → a ≡ b
bounds_one bounds.UnboundedPreceding bounds.UnboundedPreceding h = refl
bounds_one (bounds.Preceding m) (bounds.Preceding n) h = ap bounds.Preceding (equal_numbers m n h)
bounds_one bounds.CurrentRow bounds.CurrentRow h = refl
bounds_one (bounds.Following m) (bounds.Following n) h = ap bounds.Following (equal_numbers m n h)
bounds_one bounds.UnboundedFollowing bounds.UnboundedFollowing h = refl
bounds_one _ _ h = cc

own_bound : (a : FrameBound) → same_bound a a ≡ true
own_bound bounds.UnboundedPreceding = refl
own_bound (bounds.Preceding n) = one_number n n refl
own_bound bounds.CurrentRow = refl
own_bound (bounds.Following n) = one_number n n refl
own_bound bounds.UnboundedFollowing = refl

abbrev pub plain_exclusion : Option FrameExclusion → Option FrameExclusion
plain_exclusion (Some exclusions.NoOthers) = None
plain_exclusion e = e

exclusions_one : (a b : Option FrameExclusion) → nat_eq (exclusion_number a) (exclusion_number b) ≡ true
    → plain_exclusion a ≡ plain_exclusion b
exclusions_one None None h = refl
exclusions_one None (Some exclusions.NoOthers) h = refl
exclusions_one (Some exclusions.NoOthers) None h = refl
exclusions_one (Some exclusions.NoOthers) (Some exclusions.NoOthers) h = refl
exclusions_one (Some exclusions.CurrentRow) (Some exclusions.CurrentRow) h = refl
exclusions_one (Some exclusions.Group) (Some exclusions.Group) h = refl
exclusions_one (Some exclusions.Ties) (Some exclusions.Ties) h = refl
exclusions_one _ _ h = cc

pub plain_number : (a : Option FrameExclusion) → exclusion_number (plain_exclusion a) ≡ exclusion_number a
plain_number None = refl
plain_number (Some exclusions.NoOthers) = refl
plain_number (Some exclusions.CurrentRow) = refl
plain_number (Some exclusions.Group) = refl
plain_number (Some exclusions.Ties) = refl

abbrev pub plain_frame : Option Frame → Option Frame
plain_frame None = None
plain_frame (Some f) = Some (record { mode = f.mode; start = f.start; end = Some (end_of f); exclusion = plain_exclusion f.exclusion })

pub to_frame : (f g : Option Frame) → same_frame f g ≡ true → plain_frame f ≡ plain_frame g
to_frame None None h = refl
to_frame (Some f) (Some g) h =
    let m = both (nat_eq (mode_number f.mode) (mode_number g.mode)) (same_bound f.start g.start
    && (same_bound (end_of f) (end_of g) && nat_eq (exclusion_number f.exclusion) (exclusion_number g.exclusion))) h in
    let s = both (same_bound f.start g.start) (same_bound (end_of f) (end_of g) && nat_eq (exclusion_number f.exclusion)
    (exclusion_number g.exclusion)) m.1 in
    let e = both (same_bound (end_of f) (end_of g)) (nat_eq (exclusion_number f.exclusion) (exclusion_number g.exclusion)) s.1 in
    λ i. Some (record {
      mode = modes f.mode g.mode m.0 i;
      start = bounds_one f.start g.start s.0 i;
      end =
          Some (bounds_one (end_of f) (end_of g) e.0 i);
      exclusion = exclusions_one f.exclusion g.exclusion e.1 i;
    })
to_frame None (Some g) h = cc
to_frame (Some f) None h = cc

abbrev frame_or : Frame → Option Frame → Frame
frame_or f None = f
frame_or f (Some g) = g

from_frame : (f g : Option Frame) → plain_frame f ≡ plain_frame g → same_frame f g ≡ true
from_frame None None h = refl
from_frame (Some f) (Some g) h =
    let mode : f.mode ≡ g.mode = ap (λ (o : Option Frame). (frame_or f o).mode) h in
    let start : f.start ≡ g.start = ap (λ (o : Option Frame). (frame_or f o).start) h in
    let ends : end_of f ≡ end_of g = ap (λ (o : Option Frame). end_of (frame_or f o)) h in
    let exclusion : plain_exclusion f.exclusion ≡ plain_exclusion g.exclusion = ap (λ (o : Option Frame). (frame_or f o).exclusion) h in
    joint _ _ (one_number _ _ (ap mode_number mode)) (joint _ _ (ap (same_bound f.start) (sym start) ∙ own_bound f.start)
    (joint _ _ (ap (same_bound (end_of f)) (sym ends) ∙ own_bound (end_of f))
    (one_number _ _ (sym (plain_number f.exclusion) ∙ ap exclusion_number exclusion ∙ plain_number g.exclusion))))
from_frame None (Some g) h = cc
from_frame (Some f) None h = cc

pub to_copied : (a b : Option (List ℕ)) → same_copied a b ≡ true → a ≡ b
to_copied None None h = refl
to_copied (Some a) (Some b) h = ap Some (equal_names a b h)
to_copied None (Some b) h = cc
to_copied (Some a) None h = cc

one_copied : (a b : Option (List ℕ)) → a ≡ b → same_copied a b ≡ true
one_copied None None h = refl
one_copied (Some a) (Some b) h = one_name a b (cc)
one_copied None (Some b) h = cc
one_copied (Some a) None h = cc

-- an expression without what equality looks through

abbrev mutual
  pub plain : Tree → Tree
  plain NullWord = NullWord
  plain (Numeral n) = Numeral n
  plain (Quoted text) = Quoted text
  plain (Field qualifier name) = Field None name
  plain (Invoked name given filter reach) = Invoked name (plain_given given) (plain_filter filter) (plain_reach reach)
  plain (Negated t) = Negated (plain t)
  plain (Signed minus t) = Signed minus (plain t)
  plain (Joined kind t links) = Joined kind (plain t) (plain_links links)
  plain (Compared comparison l r) = Compared comparison (plain l) (plain r)
  plain (NullTest negated t) = NullTest negated (plain t)
  plain (Within negated t l h) = Within negated (plain t) (plain l) (plain h)
  plain (Among negated t list) = Among negated (plain t) (plain_trees list)

  pub plain_trees : Trees → Trees
  plain_trees NoTrees = NoTrees
  plain_trees (MoreTrees t ts) = MoreTrees (plain t) (plain_trees ts)

  pub plain_links : Links → Links
  plain_links NoLinks = NoLinks
  plain_links (Further front operator t) = Further (plain_links front) operator (plain t)

  pub plain_given : Given → Given
  plain_given Everything = Everything
  plain_given (These ts) = These (plain_trees ts)
  plain_given (Columns ts) = Columns (plain_trees ts)

  pub plain_filter : Filter → Filter
  plain_filter Unfiltered = Unfiltered
  plain_filter (FilteredBy t) = FilteredBy (plain t)

  pub plain_reach : Reach → Reach
  plain_reach ItsGroup = ItsGroup
  plain_reach (ThatWindow name) = ThatWindow name
  plain_reach (OwnWindow copy partition order frame) = OwnWindow copy (plain_trees partition) (plain_keys order) (plain_frame frame)

  pub plain_keys : Keys → Keys
  plain_keys NoKeys = NoKeys
  plain_keys (MoreKeys t descending nulls more) = MoreKeys (plain t) descending nulls (plain_keys more)

mutual
  pub to : (t u : Tree) → is_same t u ≡ true → plain t ≡ plain u
  to NullWord NullWord h = refl
  to (Numeral m) (Numeral n) h = ap Numeral (equal_numbers m n h)
  to (Quoted a) (Quoted b) h = ap Quoted (equal_names a b h)
  to (Field p a) (Field q b) h = ap (Field None) (equal_names a b h)
  to (Invoked a g f r) (Invoked b h k q) e =
      let x = both (bytes_eq a b) (are_same_given g h && (is_same_filter f k && is_same_reach r q)) e in
      let y = both (are_same_given g h) (is_same_filter f k && is_same_reach r q) x.1 in
      let z = both (is_same_filter f k) (is_same_reach r q) y.1 in
      λ i. Invoked (equal_names a b x.0 i) (to_given g h y.0 i) (to_filter f k z.0 i) (to_reach r q z.1 i)
  to (Negated t) (Negated u) h = ap Negated (to t u h)
  to (Signed a t) (Signed b u) h =
      let x = both (same_bool a b) (is_same t u) h in
      λ i. Signed (flags a b x.0 i) (to t u x.1 i)
  to (Joined a t ts) (Joined b u us) h =
      let x = both (same_kind a b) (is_same t u && are_same_links ts us) h in
      let y = both (is_same t u) (are_same_links ts us) x.1 in
      λ i. Joined (kinds a b x.0 i) (to t u y.0 i) (to_links ts us y.1 i)
  to (Compared a t v) (Compared b u w) h =
      let x = both (nat_eq (comparison_number a) (comparison_number b)) (is_same t u && is_same v w) h in
      let y = both (is_same t u) (is_same v w) x.1 in
      λ i. Compared (comparisons a b x.0 i) (to t u y.0 i) (to v w y.1 i)
  to (NullTest a t) (NullTest b u) h =
      let x = both (same_bool a b) (is_same t u) h in
      λ i. NullTest (flags a b x.0 i) (to t u x.1 i)
  to (Within a t l m) (Within b u n o) h =
      let x = both (same_bool a b) (is_same t u && (is_same l n && is_same m o)) h in
      let y = both (is_same t u) (is_same l n && is_same m o) x.1 in
      let z = both (is_same l n) (is_same m o) y.1 in
      λ i. Within (flags a b x.0 i) (to t u y.0 i) (to l n z.0 i) (to m o z.1 i)
  to (Among a t ts) (Among b u us) h =
      let x = both (same_bool a b) (is_same t u && are_same ts us) h in
      let y = both (is_same t u) (are_same ts us) x.1 in
      λ i. Among (flags a b x.0 i) (to t u y.0 i) (to_trees ts us y.1 i)
  to _ _ h = cc

  to_trees : (ts us : Trees) → are_same ts us ≡ true → plain_trees ts ≡ plain_trees us
  to_trees NoTrees NoTrees h = refl
  to_trees (MoreTrees t ts) (MoreTrees u us) h =
      let x = both (is_same t u) (are_same ts us) h in
      λ i. MoreTrees (to t u x.0 i) (to_trees ts us x.1 i)
  to_trees _ _ h = cc

  pub to_links : (ts us : Links) → are_same_links ts us ≡ true → plain_links ts ≡ plain_links us
  to_links NoLinks NoLinks h = refl
  to_links (Further ts a t) (Further us b u) h =
      let x = both (are_same_links ts us) (nat_eq (operator_number a) (operator_number b) && is_same t u) h in
      let y = both (nat_eq (operator_number a) (operator_number b)) (is_same t u) x.1 in
      λ i. Further (to_links ts us x.0 i) (operators a b y.0 i) (to t u y.1 i)
  to_links _ _ h = cc

  to_given : (g h : Given) → are_same_given g h ≡ true → plain_given g ≡ plain_given h
  to_given Everything Everything e = refl
  to_given (These ts) (These us) e = ap These (to_trees ts us e)
  to_given (Columns ts) (Columns us) e = ap Columns (to_trees ts us e)
  to_given _ _ e = cc

  to_filter : (f g : Filter) → is_same_filter f g ≡ true → plain_filter f ≡ plain_filter g
  to_filter Unfiltered Unfiltered h = refl
  to_filter (FilteredBy t) (FilteredBy u) h = ap FilteredBy (to t u h)
  to_filter _ _ h = cc

  to_reach : (r q : Reach) → is_same_reach r q ≡ true → plain_reach r ≡ plain_reach q
  to_reach ItsGroup ItsGroup h = refl
  to_reach (ThatWindow a) (ThatWindow b) h = ap ThatWindow (equal_names a b h)
  to_reach (OwnWindow a ts ks f) (OwnWindow b us js g) h =
      let x = both (same_copied a b) (are_same ts us && (are_same_keys ks js && same_frame f g)) h in
      let y = both (are_same ts us) (are_same_keys ks js && same_frame f g) x.1 in
      let z = both (are_same_keys ks js) (same_frame f g) y.1 in
      λ i. OwnWindow (to_copied a b x.0 i) (to_trees ts us y.0 i) (to_keys ks js z.0 i) (to_frame f g z.1 i)
  to_reach _ _ h = cc

  pub to_keys : (ks js : Keys) → are_same_keys ks js ≡ true → plain_keys ks ≡ plain_keys js
  to_keys NoKeys NoKeys h = refl
  to_keys (MoreKeys t a m ts) (MoreKeys u b n us) h =
      let x = both (is_same t u) (same_bool a b && (nat_eq (nulls_number m) (nulls_number n) && are_same_keys ts us)) h in
      let y = both (same_bool a b) (nat_eq (nulls_number m) (nulls_number n) && are_same_keys ts us) x.1 in
      let z = both (nat_eq (nulls_number m) (nulls_number n)) (are_same_keys ts us) y.1 in
      λ i. MoreKeys (to t u x.0 i) (flags a b y.0 i) (nulls m n z.0 i) (to_keys ts us z.1 i)
  to_keys _ _ h = cc

mutual
  from : (t u : Tree) → plain t ≡ plain u → is_same t u ≡ true
  from NullWord NullWord h = refl
  from (Numeral m) (Numeral n) h = one_number m n (cc)
  from (Quoted a) (Quoted b) h = one_name a b (cc)
  from (Field p a) (Field q b) h = one_name a b (cc)
  from (Invoked a g f r) (Invoked b h k q) e =
      joint _ _ (one_name a b (cc)) (joint _ _ (from_given g h (cc)) (joint _ _ (from_filter f k (cc)) (from_reach r q (cc))))
  from (Negated t) (Negated u) h = from t u (cc)
  from (Signed a t) (Signed b u) h = joint _ _ (one_flag a b (cc)) (from t u (cc))
  from (Joined a t ts) (Joined b u us) h = joint _ _ (one_kind a b (cc)) (joint _ _ (from t u (cc)) (from_links ts us (cc)))
  from (Compared a t v) (Compared b u w) h = joint _ _ (one_number _ _ (ap comparison_number (cc)))
      (joint _ _ (from t u (cc)) (from v w (cc)))
  from (NullTest a t) (NullTest b u) h = joint _ _ (one_flag a b (cc)) (from t u (cc))
  from (Within a t l m) (Within b u n o) h =
      joint _ _ (one_flag a b (cc)) (joint _ _ (from t u (cc)) (joint _ _ (from l n (cc)) (from m o (cc))))
  from (Among a t ts) (Among b u us) h = joint _ _ (one_flag a b (cc)) (joint _ _ (from t u (cc)) (from_trees ts us (cc)))
  from _ _ h = cc

  from_trees : (ts us : Trees) → plain_trees ts ≡ plain_trees us → are_same ts us ≡ true
  from_trees NoTrees NoTrees h = refl
  from_trees (MoreTrees t ts) (MoreTrees u us) h = joint _ _ (from t u (cc)) (from_trees ts us (cc))
  from_trees _ _ h = cc

  from_links : (ts us : Links) → plain_links ts ≡ plain_links us → are_same_links ts us ≡ true
  from_links NoLinks NoLinks h = refl
  from_links (Further ts a t) (Further us b u) h =
      let o : a ≡ b = cc in
      joint _ _ (from_links ts us (cc)) (joint _ _ (one_number _ _ (ap operator_number o)) (from t u (cc)))
  from_links _ _ h = cc

  from_given : (g h : Given) → plain_given g ≡ plain_given h → are_same_given g h ≡ true
  from_given Everything Everything e = refl
  from_given (These ts) (These us) e = from_trees ts us (cc)
  from_given (Columns ts) (Columns us) e = from_trees ts us (cc)
  from_given _ _ e = cc

  from_filter : (f g : Filter) → plain_filter f ≡ plain_filter g → is_same_filter f g ≡ true
  from_filter Unfiltered Unfiltered h = refl
  from_filter (FilteredBy t) (FilteredBy u) h = from t u (cc)
  from_filter _ _ h = cc

  from_reach : (r q : Reach) → plain_reach r ≡ plain_reach q → is_same_reach r q ≡ true
  from_reach ItsGroup ItsGroup h = refl
  from_reach (ThatWindow a) (ThatWindow b) h = one_name a b (cc)
  from_reach (OwnWindow a ts ks f) (OwnWindow b us js g) h =
      joint _ _ (one_copied a b (cc)) (joint _ _ (from_trees ts us (cc)) (joint _ _ (from_keys ks js (cc)) (from_frame f g (cc))))
  from_reach _ _ h = cc

  from_keys : (ks js : Keys) → plain_keys ks ≡ plain_keys js → are_same_keys ks js ≡ true
  from_keys NoKeys NoKeys h = refl
  from_keys (MoreKeys t a m ts) (MoreKeys u b n us) h =
      let o : m ≡ n = cc in
      joint _ _ (from t u (cc)) (joint _ _ (one_flag a b (cc)) (joint _ _ (one_number _ _ (ap nulls_number o)) (from_keys ts us (cc))))
  from_keys _ _ h = cc

-- what is one just where two values are one without what equality looks through
by_plain : {A B : Type 0} (same : A → A → Bool) (strip : A → B) → ((x y : A) → Decides (same x y) (strip x ≡ strip y)) → IsEquivalence same
by_plain same strip decides = record {
  refl = λ x. (decides x x).1 refl;
  symm = λ x y. one_answer (same x y) (same y x) (decides x y)
      (λ e. sym ((decides y x).0 e), λ e. (decides y x).1 (sym e));
  congr = λ x y z e. one_answer (same x z) (same y z)
      (λ f. sym ((decides x y).0 e) ∙ (decides x z).0 f, λ p. (decides x z).1 ((decides x y).0 e ∙ p)) (decides y z);
}

pub same_equiv : IsEquivalence is_same
same_equiv = by_plain is_same plain (λ t u. (to t u, from t u))

pub links_equiv : IsEquivalence are_same_links
links_equiv = by_plain are_same_links plain_links (λ t u. (to_links t u, from_links t u))

pub keys_equiv : IsEquivalence are_same_keys
keys_equiv = by_plain are_same_keys plain_keys (λ t u. (to_keys t u, from_keys t u))

pub frames_equiv : IsEquivalence same_frame
frames_equiv = by_plain same_frame plain_frame (λ f g. (to_frame f g, from_frame f g))
