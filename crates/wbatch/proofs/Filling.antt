-- What a batch holds, one delivery after the other.
use Rattle.std.proofs.Common.{◌≡◌, ◌≢◌, ◌∙◌, ℕ, ◌+◌, ◌<◌, true, false, true≢false, List, [], ◌∷◌, ◌++◌, length, map, Result, Ok}
use Rattle.std.proofs.Common.{Err, IsOk, ◌⊎◌, inl, inr, refl, sym, ap, subst, arith, append_assoc, append-nil, length-append}
use Rattle.std.specs.List.{flat_map, AllByRecursion}
use Rattle.wsegment.specs.Declaration.{Declaration}
use Rattle.wsegment.specs.declared.fault.SegmentFault.{SegmentFault}
use Rattle.wset.specs.Items.{Item, SegmentItem, RetirementItem, FloorItem}
use Rattle.wstream.specs.Inboxes.{Inbox}
use Rattle.wstream.specs.Messages.{IsBad, IsMessage, IsOpen, message_text}
use Rattle.wbatch.specs.Deliveries.{Adds, IsNext, IsReady, IsRefused, StopsBehind, StopsNext, item_of}
use Rattle.wbatch.specs.Streams.{EndsInside, IsDelivered, MeetsBad, Stops, stream_text}
use Rattle.wbatch.specs.declared.delivery.Delivery.{Delivery}
use Rattle.wbatch.specs.declared.delivery.Delivery.TheVariants as deliveries
use Rattle.wbatch.specs.declared.stop.Stop.{Stop}
use Rattle.wbatch.specs.declared.stop.Stop.TheVariants as stops

-- ---- one more

pub all_more : {X : Type 0} (P : X → Type 0) (xs : List X) (x : X) → AllByRecursion P xs → P x → AllByRecursion P (xs ++ x ∷ [])
all_more P [] x h p = (p, tt)
all_more P (y ∷ ys) x h p = (h.0, all_more P ys x h.1 p)

pub text_more : (ds : List Delivery) (x : Delivery) (held left : List ℕ) → held ≡ message_text (item_of x) ++ left
    → stream_text (map item_of (ds ++ x ∷ [])) left ≡ stream_text (map item_of ds) held
text_more [] x held left e = ap (λ l. l ++ left) (append-nil (message_text (item_of x))) ∙ sym e
text_more (y ∷ ys) x held left e =
    append_assoc (message_text (item_of y)) (flat_map message_text (map item_of (ys ++ x ∷ []))) left
    ∙ ap (λ l. message_text (item_of y) ++ l) (text_more ys x held left e)
    ∙ sym (append_assoc (message_text (item_of y)) (flat_map message_text (map item_of ys)) held)

pub some_bytes : (i : Item) → 0 < length (message_text i)
some_bytes (SegmentItem n bytes) = omega arith
some_bytes (RetirementItem n) = omega arith
some_bytes (FloorItem n) = omega arith

pub falls : (i : Item) (held left : List ℕ) → held ≡ message_text i ++ left → length left < length held
falls i held left e =
    let one = some_bytes i in
    let both : length held ≡ length (message_text i) + length left = ap length e ∙ length-append (message_text i) left in
    omega (arith, one, both)

-- ---- what is ready can be delivered

read_ok : {A : Type 0} (r : Result A SegmentFault) (rows : A) → r ≡ Ok rows → IsOk r
read_ok (Ok xs) rows e = refl
read_ok (Err fault) rows e = absurd cc

one_delivered : (d : Declaration) (x : Delivery) → IsReady d x → IsDelivered d (item_of x)
one_delivered d (deliveries.Segment name judged) h = (h.0, read_ok _ _ h.1.rows)
one_delivered d (deliveries.Retirement name) h = h
one_delivered d (deliveries.Floor name) h = h

pub ready_delivered : (d : Declaration) (ds : List Delivery) → AllByRecursion (IsReady d) ds
    → AllByRecursion (IsDelivered d) (map item_of ds)
ready_delivered d [] h = tt
ready_delivered d (x ∷ xs) h = (one_delivered d x h.0, ready_delivered d xs h.1)

-- ---- what stops a stream

-- a message that is not delivered
pub stops_here : (d : Declaration) (ds : List Delivery) (item : Item) (held left : List ℕ) (reason : Stop)
    → AllByRecursion (IsReady d) ds → IsMessage item → held ≡ message_text item ++ left → IsRefused d item reason
    → Stops d (stream_text (map item_of ds) held) reason
stops_here d ds (SegmentItem n b) held left (stops.Segment fault) ready is e refused = record {
  items = map item_of ds;
  name = n;
  bytes = b;
  more = left;
  each = ready_delivered d ds ready;
  is = is;
  stream_is = ap (λ l. flat_map message_text (map item_of ds) ++ l) e;
  has_fault = refused;
}
stops_here d ds (SegmentItem n b) held left stops.Bad ready is e refused = absurd refused
stops_here d ds (SegmentItem n b) held left stops.NoMemory ready is e refused = tt
stops_here d ds (RetirementItem n) held left (stops.Segment fault) ready is e refused = absurd refused
stops_here d ds (RetirementItem n) held left stops.Bad ready is e refused = absurd refused
stops_here d ds (RetirementItem n) held left stops.NoMemory ready is e refused = tt
stops_here d ds (FloorItem n) held left (stops.Segment fault) ready is e refused = absurd refused
stops_here d ds (FloorItem n) held left stops.Bad ready is e refused = absurd refused
stops_here d ds (FloorItem n) held left stops.NoMemory ready is e refused = tt

-- what stands next is no message
pub stops_bad : (d : Declaration) (ds : List Delivery) (inbox : Inbox) → AllByRecursion (IsReady d) ds
    → inbox.is_bad ≡ false → (inbox.is_bad ≡ true) ⊎ IsBad inbox.held → MeetsBad d (stream_text (map item_of ds) inbox.held)
stops_bad d ds inbox ready good (inl bad) = absurd (true≢false (sym bad ∙ good))
stops_bad d ds inbox ready good (inr bad) = record {
  items = map item_of ds;
  rest = inbox.held;
  more = [];
  each = ready_delivered d ds ready;
  stream_is = ap (λ l. flat_map message_text (map item_of ds) ++ l) (sym (append-nil inbox.held));
  bad = bad;
}

not_empty : (xs : List ℕ) → 0 < length xs → xs ≢ []
not_empty xs some e = let none : length xs ≡ 0 = ap length e in omega (arith, some, none)

-- the stream ends inside a message
pub ends_inside : (d : Declaration) (ds : List Delivery) (held : List ℕ) → AllByRecursion (IsReady d) ds → IsOpen held
    → 0 < length held → EndsInside d (stream_text (map item_of ds) held)
ends_inside d ds held ready unfinished some = record {
  items = map item_of ds;
  rest = held;
  each =
      ready_delivered d ds ready;
  stream_is = refl;
  is_open = unfinished;
  some = not_empty held some;
}

-- ---- steps

-- one message more
pub adds_one : (d : Declaration) (old new : List Delivery) (x : Delivery) (held left : Inbox)
    → AllByRecursion (IsReady d) old → IsReady d x → held.held ≡ message_text (item_of x) ++ left.held → left.is_bad ≡ false
    → new ≡ old ++ x ∷ []
    → Adds d old held new left
adds_one d old new x held left ready one e good is = record {
  ready = subst (AllByRecursion (IsReady d)) (sym is) (all_more (IsReady d) old x ready one);
  same = ap (λ ds. stream_text (map item_of ds) left.held) is ∙ text_more old x held.held left.held e;
  falls = falls (item_of x) held.held left.held e;
  good = good;
}

-- nothing may become a message
pub nothing_is_open : IsOpen []
nothing_is_open = inl (record { lacks = tt; short = omega arith })

-- ---- what stops behind others

pub next_stops : (d : Declaration) (ds : List Delivery) (old new : Inbox) (reason : Stop) → AllByRecursion (IsReady d) ds
    → old.is_bad ≡ false → IsNext d old (Err reason) new → Stops d (stream_text (map item_of ds) old.held) reason
next_stops d ds old new (stops.Segment fault) ready good m = stops_here d ds m.item old.held m.left (stops.Segment fault)
    ready m.is m.held_is m.refused
next_stops d ds old new stops.Bad ready good m = stops_bad d ds old ready good m
next_stops d ds old new stops.NoMemory ready good m = tt

-- ---- what is held where a stream stops

pub next_is : (d : Declaration) (old new : Inbox) (reason : Stop) → old.is_bad ≡ false → IsNext d old (Err reason) new
    → StopsNext d old.held reason
next_is d old new (stops.Segment fault) good m = m
next_is d old new stops.Bad good (inl bad) = absurd (true≢false (sym bad ∙ good))
next_is d old new stops.Bad good (inr bad) = bad
next_is d old new stops.NoMemory good m = tt

-- nothing is added where it stops
pub behind_all : (d : Declaration) (old now new : List Delivery) (held left : List ℕ) (reason : Stop)
    → stream_text (map item_of now) left ≡ stream_text (map item_of old) held → new ≡ now → StopsNext d left reason
    → StopsBehind d (map item_of new) (stream_text (map item_of old) held) reason
behind_all d old now new held left reason same is next = record {
  more = left;
  stream_is = sym same ∙ ap (λ ds. stream_text (map item_of ds) left) (sym is);
  next = next;
}

-- in a block that has come
pub behind_block : (d : Declaration) (old new : List Item) (held block both : List ℕ) (reason : Stop) → both ≡ held ++ block
    → StopsBehind d new (stream_text old both) reason → StopsBehind d new (stream_text old held ++ block) reason
behind_block d old new held block both reason e b = record {
  more = b.more;
  stream_is = append_assoc (flat_map message_text old) held block ∙ ap (λ l. flat_map message_text old ++ l) (sym e) ∙ b.stream_is;
  next = b.next;
}

-- where there is no memory for a block
pub before_block : (d : Declaration) (items : List Item) (held block : List ℕ)
    → StopsBehind d items (stream_text items held ++ block) stops.NoMemory
before_block d items held block = record {
  more = held ++ block;
  stream_is = append_assoc (flat_map message_text items) held block;
  next = tt;
}
