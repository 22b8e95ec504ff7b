-- Messages of a stream that are handled one after the other.
use Rattle.std.proofs.Common.{◌≡◌, ℕ, zero, suc, ◌+◌, ◌<◌, ◌≤◌, Bool, true, false, List, [], ◌∷◌, ◌++◌, ◌||◌}
use Rattle.std.proofs.Common.{cond, None, map, take, length, Result, Ok, Err, IfOk, OnOk, OnErr, ◌⊎◌, inl, inr}
use Rattle.std.proofs.Common.{refl, sym, ap, ◌∙◌, subst, arith, append_assoc, append-nil, length-append}
use Rattle.std.specs.List.{flat_map, AllByRecursion}
use Rattle.std.specs.FinMap.{get}
use Rattle.wlines.specs.Sent.{Sent, Says}
use Rattle.wlines.proofs.Saying.{says_nothing, says_more}
use Rattle.wvalues.specs.Names.{NameParts}
use Rattle.wsegment.specs.Declaration.{Declaration}
use Rattle.wset.specs.Views.{View, IsSettled, is_below, join, join_told}
use Rattle.wset.specs.Items.{Item, SegmentItem, RetirementItem, FloorItem, view_of}
use Rattle.wset.proofs.Joining.{join_laws, same_view, get-join, with_none}
use Rattle.wset.proofs.Union.{below-view_of, get-view_of}
use Rattle.wstream.specs.Messages.{IsMessage, IsOpen, IsBad, message_text}
use Rattle.wstore.specs.Replies.{Line, TookLine, WasLine, FloorLine, RefusedLine, SpentLine, line_item, line_items, line_text, fed_text}
use Rattle.wstore.specs.History.{LineAnswers, LinesAnswer}
use Rattle.wstore.specs.Nodes.{NodeState, IsTold, Handles, HandlesLines, HandlesAll, handled_view}
use Rattle.wstore.specs.Feeding.{IsTextOf, SendsAll, SendsPart}
use Rattle.wstore.specs.declared.node.Reply.{Reply}
use Rattle.wstore.specs.declared.node.Reply.TheVariants as replies

-- ---- fronts

pub on_ok_then : {A E : Type 0} (r : Result A E) (P Q : Type 0) → (P → Q) → OnOk r P → OnOk r Q
on_ok_then (Ok x) P Q f h = f h
on_ok_then (Err e) P Q f h = tt

pub on_err_then : {A E : Type 0} (r : Result A E) (P Q : Type 0) → (P → Q) → OnErr r P → OnErr r Q
on_err_then (Ok x) P Q f h = tt
on_err_then (Err e) P Q f h = f h

pub if_ok_then : {A E : Type 0} (r : Result A E) (P : A → Type 0) → ((x : A) → r ≡ Ok x → P x) → IfOk r P
if_ok_then (Ok x) P f = f x refl
if_ok_then (Err e) P f = tt

take_behind : (xs ys : List ℕ) (n : ℕ) → take (length xs + n) (xs ++ ys) ≡ xs ++ take n ys
take_behind [] ys n =
    let e : length {A = ℕ} [] + n ≡ n = omega arith in
    ap (λ k. take k ys) e
take_behind (x ∷ xs) ys n =
    let e : length (x ∷ xs) + n ≡ suc (length xs + n) = omega arith in
    ap (λ k. take k (x ∷ (xs ++ ys))) e ∙ ap (λ l. x ∷ l) (take_behind xs ys n)

front_take : (n : ℕ) (xs ys : List ℕ) → take (length (take n xs)) (xs ++ ys) ≡ take n xs
front_take zero xs ys = refl
front_take (suc n) [] ys = refl
front_take (suc n) (x ∷ xs) ys = ap (λ l. x ∷ l) (front_take n xs ys)

pub front_first : (a b : Sent) (xs ys : List ℕ) → ((n : ℕ) × Says a b (take n xs)) → (n : ℕ) × Says a b (take n (xs ++ ys))
front_first a b xs ys w = (length (take w.0 xs), subst (Says a b) (sym (front_take w.0 xs ys)) w.1)

pub front_behind : (a b c : Sent) (xs ys : List ℕ) → Says a b xs → ((n : ℕ) × Says b c (take n ys)) → (n : ℕ) × Says a c (take n (xs ++ ys))
front_behind a b c xs ys k w = (length xs + w.0, subst (Says a c) (sym (take_behind xs ys w.0)) (says_more a b c xs (take w.0 ys) k w.1))

-- ---- one line more

pub record SoFar (old new : NodeState) (held new_held : Sent) (count : ℕ) : Type 0 where
  pub lines : List Line
  pub handles : HandlesLines old lines new
  pub appends : Says held new_held (flat_map line_text lines)
  pub count_is : count ≡ length lines

pub nothing_told : (old : NodeState) (held : Sent) → SoFar old old held held 0
nothing_told old held = record {
  lines = [];
  handles = record { schema_is = refl; view_is = λ s. refl; answers = λ s. tt; each = tt; held_is = refl; good = refl };
  appends = says_nothing held;
  count_is = refl;
}

-- what is known of a name, where nothing of it is learned
told_nothing : (v : View) (q : NameParts) → IsSettled v → cond (is_below v q || false) None (join_told (get v q) None) ≡ get v q
told_nothing v q settled = by (is_below v q) refl
  where
    by : (b : Bool) → is_below v q ≡ b → cond (b || false) None (join_told (get v q) None) ≡ get v q
    by true low = sym (settled q low)
    by false low = sym (with_none (get v q))

join_nothing : (v : View) → IsSettled v → v ≡ join v (view_of [])
join_nothing v settled = same_view v (join v (view_of [])) (λ q. sym (
    get-join v (view_of []) q
    ∙ ap (λ b. cond (is_below v q || b) None (join_told (get v q) (get (view_of []) q))) (below-view_of [] q)
    ∙ ap (λ o. cond (is_below v q || false) None (join_told (get v q) o)) (get-view_of [] q)
    ∙ told_nothing v q settled))

-- a settled view stays so
told_settled : (v : View) (ls : List Line) → IsSettled v → IsSettled (handled_view v ls)
told_settled v [] settled = settled
told_settled v (l ∷ ls) settled = told_settled (join v (view_of (line_items l))) ls (join_laws.settled v (view_of (line_items l)))

record LineTold (d : Declaration) (v w : View) (item : Item) (text : List ℕ) : Type 0 where
  line : Line
  item_is : line_item line ≡ item
  answers : LineAnswers d v line
  view_is : IsSettled v → w ≡ join v (view_of (line_items line))
  text_is : text ≡ line_text line

line_told : (d : Declaration) (v w : View) (item : Item) (reply : Reply) (text : List ℕ) → IsTold d v item reply w
    → IsTextOf reply text → LineTold d v w item text
line_told d v w (SegmentItem n b) (replies.Taken word) text t is = record {
  line = TookLine n b word;
  item_is = refl;
  answers = (t.0, t.1);
  view_is = λ s. t.2;
  text_is = is;
}
line_told d v w (SegmentItem n b) (replies.Refused fault) text t (inl is) = record {
  line = RefusedLine n b fault;
  item_is =
      refl;
  answers = t.0;
  view_is = λ s. t.1 ∙ join_nothing v s;
  text_is = is;
}
line_told d v w (SegmentItem n b) (replies.Refused fault) text t (inr is) = record {
  line = SpentLine (SegmentItem n b);
  item_is = refl;
  answers = t.2;
  view_is = λ s. t.1 ∙ join_nothing v s;
  text_is = is.1;
}
line_told d v w (SegmentItem n b) (replies.Retired word) text t is = absurd t
line_told d v w (SegmentItem n b) replies.NoMemory text t is = record {
  line = SpentLine (SegmentItem n b);
  item_is = refl;
  answers = t.1;
  view_is = λ s. t.0 ∙ join_nothing v s;
  text_is = is;
}
line_told d v w (RetirementItem n) (replies.Retired word) text t is = record {
  line = WasLine n word;
  item_is = refl;
  answers = t.0;
  view_is = λ s. t.1;
  text_is = is;
}
line_told d v w (RetirementItem n) (replies.Taken word) text t is = absurd t
line_told d v w (RetirementItem n) (replies.Refused fault) text t is = absurd t
line_told d v w (RetirementItem n) replies.NoMemory text t is = record {
  line = SpentLine (RetirementItem n);
  item_is =
      refl;
  answers = t.1;
  view_is = λ s. t.0 ∙ join_nothing v s;
  text_is = is;
}
line_told d v w (FloorItem n) (replies.Retired word) text t is = record {
  line = FloorLine n word;
  item_is = refl;
  answers =
      t.0;
  view_is = λ s. t.1;
  text_is = is;
}
line_told d v w (FloorItem n) (replies.Taken word) text t is = absurd t
line_told d v w (FloorItem n) (replies.Refused fault) text t is = absurd t
line_told d v w (FloorItem n) replies.NoMemory text t is = record {
  line = SpentLine (FloorItem n);
  item_is = refl;
  answers = t.1;
  view_is = λ s. t.0 ∙ join_nothing v s;
  text_is = is;
}

view-push : (v : View) (ls : List Line) (l : Line) → handled_view v (ls ++ l ∷ []) ≡ join (handled_view v ls) (view_of (line_items l))
view-push v [] l = refl
view-push v (x ∷ ls) l = view-push (join v (view_of (line_items x))) ls l

answers-push : (d : Declaration) (v : View) (ls : List Line) (l : Line) → LinesAnswer d v ls
    → LineAnswers d (handled_view v ls) l → LinesAnswer d v (ls ++ l ∷ [])
answers-push d v [] l h k = (k, tt)
answers-push d v (x ∷ ls) l h k = (h.0, answers-push d (join v (view_of (line_items x))) ls l h.1 k)

each-push : (ls : List Line) (l : Line) → AllByRecursion IsMessage (map line_item ls) → IsMessage (line_item l)
    → AllByRecursion IsMessage (map line_item (ls ++ l ∷ []))
each-push [] l h k = (k, tt)
each-push (x ∷ ls) l h k = (h.0, each-push ls l h.1 k)

messages-push : (ls : List Line) (l : Line) (rest : List ℕ)
    → flat_map message_text (map line_item ls) ++ (message_text (line_item l) ++ rest)
    ≡ flat_map message_text (map line_item (ls ++ l ∷ [])) ++ rest
messages-push [] l rest = ap (λ x. x ++ rest) (sym (append-nil (message_text (line_item l))))
messages-push (x ∷ ls) l rest =
    append_assoc (message_text (line_item x)) (flat_map message_text (map line_item ls)) (message_text (line_item l) ++ rest)
    ∙ ap (λ y. message_text (line_item x) ++ y) (messages-push ls l rest)
    ∙ sym (append_assoc (message_text (line_item x)) (flat_map message_text (map line_item (ls ++ l ∷ []))) rest)

texts-push : (ls : List Line) (l : Line) → flat_map line_text ls ++ line_text l ≡ flat_map line_text (ls ++ l ∷ [])
texts-push [] l = sym (append-nil (line_text l))
texts-push (x ∷ ls) l = append_assoc (line_text x) (flat_map line_text ls) (line_text l) ∙ ap (λ y. line_text x ++ y) (texts-push ls l)

length-push : (ls : List Line) (l : Line) → length (ls ++ l ∷ []) ≡ length ls + 1
length-push ls l = length-append ls (l ∷ [])

module _ (old mid new : NodeState) (a b c : Sent) (count : ℕ) (so_far : SoFar old mid a b count) where
  module _ (reply : Reply) (text : List ℕ) (handles : Handles mid reply new) (is : IsTextOf reply text) where
    last : LineTold mid.schema mid.view new.view handles.item text
    last = line_told mid.schema mid.view new.view handles.item reply text handles.told is

    mid_settled : IsSettled old.view → IsSettled mid.view
    mid_settled s = subst IsSettled (sym (so_far.handles.view_is s)) (told_settled old.view so_far.lines s)

    more : HandlesLines old (so_far.lines ++ last.line ∷ []) new
    more = record {
      schema_is = handles.schema_is ∙ so_far.handles.schema_is;
      view_is = λ s. last.view_is (mid_settled s) ∙ ap (λ v. join v (view_of (line_items last.line)))
          (so_far.handles.view_is s) ∙ sym (view-push old.view so_far.lines last.line);
      answers = λ s. answers-push old.schema old.view so_far.lines last.line (so_far.handles.answers s)
          (subst (λ v. LineAnswers old.schema v last.line) (so_far.handles.view_is s)
          (subst (λ d. LineAnswers d mid.view last.line) so_far.handles.schema_is last.answers));
      each = each-push so_far.lines last.line so_far.handles.each (subst IsMessage (sym last.item_is) handles.is);
      held_is =
          so_far.handles.held_is ∙ ap (λ x. flat_map message_text (map line_item so_far.lines) ++ x) (handles.held_is
          ∙ ap (λ i. message_text i ++ new.held) (sym last.item_is))
          ∙ messages-push so_far.lines last.line new.held;
      good = handles.good.1 ∙ sym handles.good.0 ∙ so_far.handles.good;
    }

    pub one_more : Says b c text → SoFar old new a c (count + 1)
    one_more k = record {
      lines = so_far.lines ++ last.line ∷ [];
      handles = more;
      appends = subst (Says a c) (texts-push so_far.lines last.line) (says_more a b c (flat_map line_text so_far.lines)
          (line_text last.line) so_far.appends (subst (Says b c) last.text_is k));
      count_is = ap (λ n. n + 1) so_far.count_is ∙ sym (length-push so_far.lines last.line);
    }

    pub some_told : ((n : ℕ) × Says b c (take n text)) → SendsPart old a c
    some_told w =
        let f = front_behind a b c (flat_map line_text so_far.lines) (line_text last.line) so_far.appends
        (w.0, subst (λ t. Says b c (take w.0 t)) last.text_is w.1) in
        inl (record {
          lines = so_far.lines ++ last.line ∷ [];
          new = new;
          n = f.0;
          handles = more;
          appends = subst (λ t. Says a c (take f.0 t)) (texts-push so_far.lines last.line) f.1;
        })

  module _ (bad : Bool) (new_is : new ≡ record mid { is_bad = bad }) where
    abbrev last_text : List ℕ
    last_text = fed_text (length so_far.lines) bad

    all : (end : HandlesAll old so_far.lines bad new) → Says b c last_text → SendsAll old new a c
    all end k = record {
      lines = so_far.lines;
      bad = bad;
      handles = end;
      appends =
          says_more a b c (flat_map line_text so_far.lines) last_text so_far.appends k;
    }

    part : (end : HandlesAll old so_far.lines bad new) → ((n : ℕ) × Says b c (take n last_text)) → SendsPart old a c
    part end w =
        let f = front_behind a b c (flat_map line_text so_far.lines) last_text so_far.appends w in
        inr (record { lines = so_far.lines; bad = bad; new = new; n = f.0; handles = end; appends = f.1 })

  module _ (is_open : (mid.is_bad ≡ false) × IsOpen mid.held × (new ≡ mid)) where
    new_is : new ≡ record mid { is_bad = false }
    new_is = is_open.2 ∙ ap (λ x. record mid { is_bad = x }) is_open.0

    ended : HandlesAll old so_far.lines false new
    ended = record { last = mid; handles = so_far.handles; new_is = new_is; end = is_open.1 }

    pub all_told : Says b c (fed_text count false) → SendsAll old new a c
    all_told k = all false new_is ended (subst (λ n. Says b c (fed_text n false)) so_far.count_is k)

    pub all_told_part : ((n : ℕ) × Says b c (take n (fed_text count false))) → SendsPart old a c
    all_told_part w = part false new_is ended (w.0, subst (λ n. Says b c (take w.0 (fed_text n false))) so_far.count_is w.1)

  module _ (good : old.is_bad ≡ false) (ends : ((mid.is_bad ≡ true) ⊎ IsBad mid.held) × (new ≡ record mid { is_bad = true })) where
    rest_is_bad : (mid.is_bad ≡ true) ⊎ IsBad mid.held → IsBad mid.held
    rest_is_bad (inl e) = let wrong : true ≡ false = sym e ∙ so_far.handles.good ∙ good in cc
    rest_is_bad (inr e) = e

    ended_bad : HandlesAll old so_far.lines true new
    ended_bad = record { last = mid; handles = so_far.handles; new_is = ends.1; end = rest_is_bad ends.0 }

    pub bad_told : Says b c (fed_text 0 true) → SendsAll old new a c
    bad_told k = all true ends.1 ended_bad k

    pub bad_told_part : ((n : ℕ) × Says b c (take n (fed_text 0 true))) → SendsPart old a c
    bad_told_part w = part true ends.1 ended_bad w

-- ---- how many there can be

text_some : (i : Item) → 0 < length (message_text i)
text_some (SegmentItem n b) = omega arith
text_some (RetirementItem n) = omega arith
text_some (FloorItem n) = omega arith

many : (ls : List Line) → length ls ≤ length (flat_map message_text (map line_item ls))
many [] = omega arith
many (l ∷ ls) = omega (
  arith,
  many ls,
  text_some (line_item l),
  length-append (message_text (line_item l))
      (flat_map message_text (map line_item ls)),
)

pub room : (old new : NodeState) (a b : Sent) (count : ℕ) → SoFar old new a b count → count + length new.held ≤ length old.held
room old new a b count s = omega (
  arith,
  s.count_is,
  many s.lines,
  ap length s.handles.held_is,
  length-append (flat_map message_text (map line_item s.lines)) new.held,
)

pub fewer : (mid new : NodeState) (reply : Reply) → Handles mid reply new → length new.held < length mid.held
fewer mid new reply h = omega (arith, ap length h.held_is, length-append (message_text h.item) new.held, text_some h.item)
