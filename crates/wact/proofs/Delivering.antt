-- Items of a batch that are delivered one after the other, and what is told of them.
use Rattle.std.proofs.Common.{◌≡◌, ℕ, suc, ◌+◌, ◌<◌, false, inl, inr, get_or, take, map, arith, List, [], ◌∷◌, ◌++◌, length}
use Rattle.std.proofs.Common.{Option, Result, Ok, Err, IfOk, refl, sym, ap, ◌∙◌, subst, append_assoc, append-nil}
use Rattle.std.specs.List.{flat_map, AllByRecursion}
use Rattle.std.proofs.lemmas.List.{length-map, map-append}
use Rattle.std.proofs.Math.Seq.{take-suc}
use Rattle.wsegment.specs.Declaration.{Declaration}
use Rattle.wsegment.specs.Spelling.{ReadsDeclaration, Spells}
use Rattle.wsegment.proofs.SpellingFacts.{spells-one}
use Rattle.wset.specs.Items.{Item, view_of_item}
use Rattle.wset.specs.Views.{View, join}
use Rattle.wstream.specs.Messages.{message_text}
use Rattle.wstore.specs.Nodes.{NodeState}
use Rattle.wstore.specs.Replies.{fed_text}
use Rattle.wbatch.specs.Batches.{Filled, stream_of}
use Rattle.wbatch.specs.Deliveries.{item_of}
use Rattle.wbatch.specs.Streams.{IsDelivered, IsUndelivered}
use Rattle.wbatch.specs.declared.delivery.Delivery.{Delivery}
use Rattle.wbatch.specs.declared.stop.Stop.{Stop}
use Rattle.wbatch.specs.declared.stop.Stop.TheVariants as stops
use Rattle.wcommand.specs.declared.choice.Choice.{Choice}
use Rattle.wcommand.specs.declared.choice.Choice.TheVariants as choices
use Rattle.wreplies.specs.Texts.{bytes_of}
use Rattle.wreplies.specs.declared.text.Text.{Text}
use Rattle.wact.specs.declared.acted.Acted.{Acted}
use Rattle.wact.specs.declared.opening.Opened.TheVariants as opens
use Rattle.wact.specs.Acts.{Acts, ActsOn, Done, StoreRefused}
use Rattle.wact.specs.Delivering.{Delivers, IsFeed, IsRefusedSo}
use Rattle.wact.specs.Opening.{Opens, TableRead, TableRefused}
use Rattle.wact.specs.Outcomes.{IsRefused, IsStored}
use Rattle.wact.proofs.Outcomes.{stored_as}
use Rattle.wact.specs.Streams.{BadRefused, CutRefused, Fed, Feeds, SegmentRefused, delivered_view, line_text, lines_text}

-- ---- items one behind the other

view_both : (v : View) (xs ys : List Item) → delivered_view v (xs ++ ys) ≡ delivered_view (delivered_view v xs) ys
view_both v [] ys = refl
view_both v (x ∷ xs) ys = view_both (join v (view_of_item x)) xs ys

lines_both : (v : View) (xs ys : List Item) → lines_text v xs ++ lines_text (delivered_view v xs) ys ≡ lines_text v (xs ++ ys)
lines_both v [] ys = refl
lines_both v (x ∷ xs) ys =
    append_assoc (line_text v x) (lines_text (join v (view_of_item x)) xs) (lines_text (delivered_view (join v (view_of_item x)) xs) ys)
    ∙ ap (λ l. line_text v x ++ l) (lines_both (join v (view_of_item x)) xs ys)

-- ---- what is delivered

-- one item
pub delivers_one : (item : Item) (old new : NodeState) (line : List ℕ)
    → new ≡ record old { view = join old.view (view_of_item item) } → line ≡ line_text old.view item → Delivers (item ∷ []) old new [] line
delivers_one item old new line is told = record {
  schema_is = ap (λ n. n.schema) is;
  view_is = ap (λ n. n.view) is;
  text_is = told ∙ sym (append-nil (line_text old.view item));
}

-- behind a text
pub delivers_behind : (items : List Item) (old new : NodeState) (text line new_text : List ℕ)
    → Delivers items old new [] line → new_text ≡ text ++ line → Delivers items old new text new_text
delivers_behind items old new text line new_text x added = record {
  schema_is = x.schema_is;
  view_is = x.view_is;
  text_is =
      added ∙ ap (λ l. text ++ l) x.text_is;
}

pub delivers_nothing : (node : NodeState) (text : List ℕ) → Delivers [] node node text text
delivers_nothing node text = record { schema_is = refl; view_is = refl; text_is = sym (append-nil text) }

delivers_more : (xs ys : List Item) (a b c : NodeState) (t u w : List ℕ) → Delivers xs a b t u → Delivers ys b c u w
    → Delivers (xs ++ ys) a c t w
delivers_more xs ys a b c t u w x y = record {
  schema_is = y.schema_is ∙ x.schema_is;
  view_is = y.view_is ∙ ap (λ v. delivered_view v ys) x.view_is ∙ sym (view_both a.view xs ys);
  text_is =
      y.text_is
      ∙ ap (λ l. l ++ lines_text b.view ys) x.text_is
      ∙ append_assoc t (lines_text a.view xs) (lines_text b.view ys)
      ∙ ap (λ l. t ++ l) (ap (λ v. lines_text a.view xs ++ lines_text v ys) x.view_is ∙ lines_both a.view xs ys);
}

-- the next of the items
pub delivers_next : (ds : List Delivery) (i : ℕ) (x : Delivery) (a b c : NodeState) (t u w : List ℕ) → i < length ds
    → x ≡ get_or ds i x → Delivers (map item_of (take i ds)) a b t u → Delivers (item_of x ∷ []) b c u w
    → Delivers (map item_of (take (i + 1) ds)) a c t w
delivers_next ds i x a b c t u w more is first last =
    let next : i + 1 ≡ suc i = omega arith in
    let items : map item_of (take i ds) ++ item_of x ∷ [] ≡ map item_of (take (i + 1) ds) =
    ap (λ y. map item_of (take i ds) ++ item_of y ∷ []) is
    ∙ sym (map-append item_of (take i ds) (get_or ds i x ∷ []))
    ∙ ap (map item_of) (sym (take-suc ds i x more) ∙ ap (λ n. take n ds) (sym next)) in
    subst (λ l. Delivers l a c t w) items (delivers_more (map item_of (take i ds)) (item_of x ∷ []) a b c t u w first last)

-- ---- what is told

-- the whole batch was delivered
pub feeds_all : {E : Type 0} (batch : Filled) (ds : List Delivery) (old new : NodeState) (store : Option (List ℕ))
    (text : List ℕ) (r : Result Acted E) → batch.held ≡ [] → map item_of ds ≡ batch.items
    → AllByRecursion (IsDelivered old.schema) batch.items → Delivers (map item_of ds) old new [] text
    → IfOk r (λ acted. IsStored new.schema new.view store acted (text ++ fed_text (length ds) false))
    → IfOk r (λ acted. Feeds old.schema old.view store (stream_of batch) acted)
feeds_all batch ds old new store text (Err e) whole items each x stored = tt
feeds_all batch ds old new store text (Ok acted) whole items each x stored =
    let count : length ds ≡ length batch.items = sym (length-map ds item_of) ∙ ap length items in
    let told : text ++ fed_text (length ds) false ≡ lines_text old.view batch.items ++ fed_text (length batch.items) false =
    ap (λ l. l ++ fed_text (length ds) false) (x.text_is ∙ ap (lines_text old.view) items)
    ∙ ap (λ (n : ℕ). lines_text old.view batch.items ++ fed_text n false) count in
    Fed batch.items each (ap (λ l. flat_map message_text batch.items ++ l) whole ∙ append-nil (flat_map message_text batch.items))
    (subst (λ (t : List ℕ). IsStored old.schema (delivered_view old.view batch.items) store acted t) told
    (stored_as old.schema new.schema (delivered_view old.view batch.items) new.view store acted
    (text ++ fed_text (length ds) false) x.schema_is (x.view_is ∙ ap (delivered_view old.view) items) stored))

-- the stream is not delivered
pub feeds_refused : {E : Type 0} (d : Declaration) (v : View) (store : Option (List ℕ)) (stream : List ℕ) (reason : Stop)
    (r : Result Acted E) → IsUndelivered d stream reason → IfOk r (IsRefusedSo reason)
    → IfOk r (λ acted. Feeds d v store stream acted)
feeds_refused d v store stream reason (Err e) why told = tt
feeds_refused d v store stream (stops.Segment fault) (Ok acted) why told = SegmentRefused fault why told
feeds_refused d v store stream stops.Bad (Ok acted) (inl why) told = BadRefused why told
feeds_refused d v store stream stops.Bad (Ok acted) (inr why) told = CutRefused why told
feeds_refused d v store stream stops.NoMemory (Ok acted) why told = absurd told

-- ---- a stream that is fed to a store

-- a table has one declaration
one_declared : (d e : Declaration) (table : List ℕ) → ReadsDeclaration table (Ok d) → ReadsDeclaration table (Ok e) → d ≡ e
one_declared d e table r s = spells-one d e table (subst (Spells d) (sym r.1) r.0.spelled) (subst (Spells e) (sym s.1) s.0.spelled)

-- the declaration of the node that is opened
pub opened_by : (d : Declaration) (table : List ℕ) (store : Option (List ℕ)) (node : NodeState)
    → ReadsDeclaration table (Ok d) → Opens table store (opens.Node node) → d ≡ node.schema
opened_by d table store node reads (TableRead e others by) = one_declared d e table reads others ∙ sym by.0
opened_by d table store node reads (TableRefused fault others refused) = absurd refused

acts_feed : (choice : Choice) (d : Declaration) (v : View) (store : Option (List ℕ)) (stream : List ℕ) (acted : Acted)
    → IsFeed choice → Feeds d v store stream acted → ActsOn d v choice store stream acted
acts_feed choices.Session d v store stream acted is feeds = absurd is
acts_feed (choices.Take paths origin number csv) d v store stream acted is feeds = absurd is
acts_feed (choices.Retire paths origin number) d v store stream acted is feeds = absurd is
acts_feed (choices.Floor paths origin number) d v store stream acted is feeds = absurd is
acts_feed (choices.Join paths path) d v store stream acted is feeds = absurd is
acts_feed (choices.Feed paths path) d v store stream acted is feeds = feeds
acts_feed (choices.List paths) d v store stream acted is feeds = absurd is
acts_feed (choices.Ask paths queries) d v store stream acted is feeds = absurd is
acts_feed (choices.Shell paths) d v store stream acted is feeds = absurd is

-- a stream that is fed to the node that is opened
pub acts_opened : (choice : Choice) (table : List ℕ) (store : Option (List ℕ)) (stream : List ℕ) (node : NodeState)
    (acted : Acted) → Opens table store (opens.Node node) → IsFeed choice → Feeds node.schema node.view store stream acted
    → Acts choice table store stream acted
acts_opened choice table store stream node acted (TableRead d reads by) is feeds = record {
  declared = Ok d;
  reads = reads;
  acts = Done node.view by.1 (acts_feed choice d node.view store stream acted is
      (subst (λ e. Feeds e node.view store stream acted) by.0 feeds));
}
acts_opened choice table store stream node acted (TableRefused fault reads refused) is feeds = absurd refused

-- what is opened is refused, whatever is to be done then
pub acts_refused : (choice : Choice) (table : List ℕ) (store : Option (List ℕ)) (other : List ℕ) (text : Text)
    (acted : Acted) → Opens table store (opens.Refused text) → IsRefused acted (bytes_of text) → Acts choice table store other acted
acts_refused choice table store other text acted (TableRead d reads by) told = record {
  declared = Ok d;
  reads = reads;
  acts = StoreRefused by.0 by.1 by.2 (subst (IsRefused acted) by.3 told);
}
acts_refused choice table store other text acted (TableRefused fault reads refused) told = record {
  declared = Err fault;
  reads = reads;
  acts = (refused.0, subst (IsRefused acted) refused.1 told);
}
