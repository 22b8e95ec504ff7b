-- What a stream comes to: its messages are all delivered, or the first that is not is refused, in one way.
use Rattle.std.proofs.Common.{◌≡◌, ◌≢◌, ◌∙◌, refl, sym, ap, subst, ℕ, List, [], ◌∷◌, ◌++◌, Result, Err, true≢false}
use Rattle.std.proofs.Common.{arith, length, length-append, append_assoc}
use Rattle.std.specs.Prelude.{is_ok}
use Rattle.std.specs.List.{AllByRecursion, flat_map}
use Rattle.wvalues.specs.Names.{NameParts}
use Rattle.wsegment.specs.Declaration.{Declaration}
use Rattle.wsegment.specs.Rows.{rows_of}
use Rattle.wsegment.specs.declared.fault.SegmentFault.{SegmentFault}
use Rattle.wset.specs.Items.{Item, SegmentItem, RetirementItem, FloorItem}
use Rattle.wstream.specs.Messages.{IsBad, IsMessage, IsOpen, message_text}
use Rattle.wstream.proofs.FirstMessage.{not_open, one_message}
use Rattle.wstream.proofs.Streams.{bad_stays}
use Rattle.wbatch.specs.Streams.{IsDelivered}
use Rattle.wbatch.proofs.Filling.{nothing_is_open, some_bytes}

-- what stands behind the messages that are delivered: nothing, a segment with a fault, or what no message comes of
pub data Behind (d : Declaration) (rest : List ℕ) : Type 0 where
  Nothing : rest ≡ [] → Behind d rest
  Faulty : (name : NameParts) (bytes more : List ℕ) (fault : SegmentFault) → IsMessage (SegmentItem name bytes)
      → rest ≡ message_text (SegmentItem name bytes) ++ more → rows_of d bytes ≡ Err fault → Behind d rest
  Bad : (bad more : List ℕ) → IsBad bad → rest ≡ bad ++ more → Behind d rest
  Cut : IsOpen rest → rest ≢ [] → Behind d rest

-- what is told of it
pub data Told : Type 0 where
  All : Told
  OfSegment : SegmentFault → Told
  OfStream : Told

abbrev pub told : {d : Declaration} {rest : List ℕ} → Behind d rest → Told
told (Nothing is) = All
told (Faulty name bytes more fault message is has) = OfSegment fault
told (Bad bad more is_bad is) = OfStream
told (Cut is_open some) = OfStream

message_of : (d : Declaration) (i : Item) → IsDelivered d i → IsMessage i
message_of d (SegmentItem name bytes) is = is.0
message_of d (RetirementItem name) is = is
message_of d (FloorItem name) is = is

-- nothing is no message
no_message : (i : Item) (more : List ℕ) → [] ≡ message_text i ++ more → ⊥
no_message i more e = omega (arith, some_bytes i, ap length e, length-append (message_text i) more)

nothing_bad : (bad more : List ℕ) → IsBad bad → [] ≡ bad ++ more → ⊥
nothing_bad [] more is e = is.closed nothing_is_open
nothing_bad (x ∷ xs) more is e = cc

has_no_fault : (d : Declaration) (name : NameParts) (bytes : List ℕ) (fault : SegmentFault) (i : Item) → IsDelivered d i
    → SegmentItem name bytes ≡ i → rows_of d bytes ≡ Err fault → ⊥
has_no_fault d name bytes fault i delivered e has =
    let one = subst (IsDelivered d) (sym e) delivered in
    true≢false (sym one.1 ∙ ap is_ok has)

-- no message that is delivered begins there
no_delivery : (d : Declaration) (rest more : List ℕ) (i : Item) → IsDelivered d i → Behind d rest → rest ≡ message_text i ++ more → ⊥
no_delivery d rest more i delivered (Nothing is) e = no_message i more (sym is ∙ e)
no_delivery d rest more i delivered (Faulty name bytes others fault message is has) e =
    let one = one_message (SegmentItem name bytes) i others more message (message_of d i delivered) (sym is ∙ e) in
    has_no_fault d name bytes fault i delivered one.0 has
no_delivery d rest more i delivered (Bad bad others is_bad is) e =
    bad_stays bad others more i is_bad (message_of d i delivered) (sym is ∙ e)
no_delivery d rest more i delivered (Cut is_open some) e = not_open i more (message_of d i delivered) (subst IsOpen e is_open)

contents : (m n : NameParts) (a b : List ℕ) → SegmentItem m a ≡ SegmentItem n b → a ≡ b
contents m n a b e = cc

fault_of : (f g : SegmentFault) (A : Type 0) (r : Result A SegmentFault) → r ≡ Err f → r ≡ Err g → f ≡ g
fault_of f g A r is also = cc

-- it is told in one way
told_alike : (d : Declaration) (rest : List ℕ) (x y : Behind d rest) → told x ≡ told y
told_alike d rest (Nothing is) (Nothing also) = refl
told_alike d rest (Nothing is) (Faulty name bytes more fault message also has) = absurd (no_message (SegmentItem name bytes) more (sym is ∙ also))
told_alike d rest (Nothing is) (Bad bad more is_bad also) = absurd (nothing_bad bad more is_bad (sym is ∙ also))
told_alike d rest (Nothing is) (Cut is_open some) = absurd (some is)
told_alike d rest (Faulty name bytes more fault message is has) (Nothing also) = absurd (no_message (SegmentItem name bytes) more (sym also ∙ is))
told_alike d rest (Faulty name bytes more fault message is has) (Faulty other text others another is_message also has_too) =
    let one = one_message (SegmentItem name bytes) (SegmentItem other text) more others message is_message (sym is ∙ also) in
    ap OfSegment (fault_of fault another _ (rows_of d bytes) has (ap (rows_of d) (contents name other bytes text one.0) ∙ has_too))
told_alike d rest (Faulty name bytes more fault message is has) (Bad bad others is_bad also) =
    absurd (bad_stays bad others more (SegmentItem name bytes) is_bad message (sym also ∙ is))
told_alike d rest (Faulty name bytes more fault message is has) (Cut is_open some) =
    absurd (not_open (SegmentItem name bytes) more message (subst IsOpen is is_open))
told_alike d rest (Bad bad more is_bad is) (Nothing also) = absurd (nothing_bad bad more is_bad (sym also ∙ is))
told_alike d rest (Bad bad more is_bad is) (Faulty name bytes others fault message also has) =
    absurd (bad_stays bad more others (SegmentItem name bytes) is_bad message (sym is ∙ also))
told_alike d rest (Bad bad more is_bad is) (Bad other others is_bad_too also) = refl
told_alike d rest (Bad bad more is_bad is) (Cut is_open some) = refl
told_alike d rest (Cut is_open some) (Nothing also) = absurd (some also)
told_alike d rest (Cut is_open some) (Faulty name bytes others fault message also has) =
    absurd (not_open (SegmentItem name bytes) others message (subst IsOpen also is_open))
told_alike d rest (Cut is_open some) (Bad bad more is_bad is) = refl
told_alike d rest (Cut is_open some) (Cut is_open_too some_too) = refl

-- the messages of a stream that are delivered, and what stands behind them
pub record Comes (d : Declaration) (stream : List ℕ) (items : List Item) : Type 0 where
  pub each : AllByRecursion (IsDelivered d) items
  pub rest : List ℕ
  pub stream_is : stream ≡ flat_map message_text items ++ rest
  pub behind : Behind d rest

-- a stream comes to one thing
pub one_stream : (d : Declaration) (items others : List Item) (rest more : List ℕ) → AllByRecursion (IsDelivered d) items
    → AllByRecursion (IsDelivered d) others → flat_map message_text items ++ rest ≡ flat_map message_text others ++ more
    → (x : Behind d rest) (y : Behind d more) → (items ≡ others) × (told x ≡ told y)
one_stream d [] [] rest more a b e x y = (refl, same rest more e x y)
  where
    same : (rest more : List ℕ) → rest ≡ more → (x : Behind d rest) (y : Behind d more) → told x ≡ told y
    same rest more e = subst (λ l. (x : Behind d rest) (y : Behind d l) → told x ≡ told y) e (told_alike d rest)
one_stream d [] (j ∷ js) rest more a b e x y = absurd (no_delivery d rest (flat_map message_text js ++ more) j b.0 x
    (e ∙ append_assoc (message_text j) (flat_map message_text js) more))
one_stream d (i ∷ is) [] rest more a b e x y = absurd (no_delivery d more (flat_map message_text is ++ rest) i a.0 y
    (sym e ∙ append_assoc (message_text i) (flat_map message_text is) rest))
one_stream d (i ∷ is) (j ∷ js) rest more a b e x y =
    let one = one_message i j (flat_map message_text is ++ rest) (flat_map message_text js ++ more) (message_of d i a.0)
    (message_of d j b.0) (sym (append_assoc (message_text i) (flat_map message_text is) rest) ∙ e
    ∙ append_assoc (message_text j) (flat_map message_text js) more) in
    let others = one_stream d is js rest more a.1 b.1 one.1 x y in
    (rw (one.0, others.0) refl, others.1)
