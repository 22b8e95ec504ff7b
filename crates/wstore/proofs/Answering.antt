-- Commands that nodes answer.
use Rattle.std.proofs.Common.{Bool, ◌≡◌, ◌≢◌, ℕ, ◌+◌, ◌<◌, ◌≤◌, length, List, [], ◌∷◌, ◌++◌, get_or, set, map}
use Rattle.std.proofs.Common.{None, Some, Result, Ok, Err, Vec, Global, IsOk, IfOk, IfErr, OnOk, OnErr, ◌⊎◌}
use Rattle.std.proofs.Common.{refl, sym, ap, ◌∙◌, subst, inl, inr, cond, ◌==◌, append-nil, true, false}
use Rattle.std.proofs.lemmas.List.{set-get_or}
use Rattle.std.specs.FinMap.{entries}
use Rattle.std.specs.Result.{MatchResult}
use Rattle.wvalues.specs.Names.{NameParts}
use Rattle.wvalues.specs.Meaning.{Meaning}
use Rattle.wvalues.specs.NameReading.{SpellsName}
use Rattle.wsegment.specs.Declaration.{Declaration}
use Rattle.wsegment.specs.Outcome.{Fails}
use Rattle.wsegment.specs.Rows.{rows_of}
use Rattle.wsegment.specs.declared.fault.SegmentFault.{SegmentFault}
use Rattle.wset.specs.Views.{View, join, known_in}
use Rattle.wset.specs.Items.{Item, SegmentItem, RetirementItem, FloorItem, view_of, view_of_item}
use Rattle.wstore.specs.Nodes.{NodeState}
use Rattle.wset.specs.Listing.{listed}
use Rattle.wset.specs.Words.{taken_word, retired_word, floor_word}
use Rattle.wset.specs.declared.outcomes.Taken.{Taken}
use Rattle.wset.specs.declared.outcomes.Retired.{Retired}
use Rattle.wentries.specs.declared.status.Listed.{Listed}
use Rattle.wscript.specs.Commands.{Command, Take, Retire as Retiring, RetireTo as RetiringTo, Listing, Ask}
use Rattle.wscript.specs.Commands.{Put, Get, longest_segment, longest_text, node_count, slot_count}
use Rattle.wstore.specs.Replies.{Reply, text_of, Took, Was, RefusedSegment, Names, Answered, RefusedQuery}
use Rattle.wstore.specs.Replies.{Done, RefusedFile, NoMemory, take_text, ask_text, get_text}
use Rattle.wreplies.specs.Spelling.{file_text, taken_text, retired_text, segment_text, names_text, answer_text, query_text}
use Rattle.wstore.specs.History.{Step, Answers, MayNeedMemory, NodeAnswers, file_if, declaration, declared_by, segment_reply}
use Rattle.wstore.specs.History.{delivers, gets, puts, heard, drawn, held, is_put, known, slot_file}
use Rattle.wask.specs.Answer.{IsAnswer}
use Rattle.wexchange.specs.Files.{file_of, head, table_text}
use Rattle.wexchange.specs.declared.version.Version.{Version}
use Rattle.wexchange.specs.declared.version.Version.TheVariants.{One, Two}
use Rattle.wexchange.specs.Judging.{HasTable, HasBadSegment, IsFault, IsFileOf}
use Rattle.wexchange.specs.declared.fault.FileFault.{FileFault}
use Rattle.wexchange.specs.declared.fault.FileFault.TheVariants as files
use Rattle.wexchange.proofs.Faults.{lacks_memory}
use Rattle.wstore.specs.Nodes.{LearnsFile}
use Rattle.wstore.specs.Standing.{KnowsThese, HoldRecords, Places, StandAt, AnswersAs, places}
use Rattle.wstore.proofs.Soundness.{sound_segment, sound_retirement, sound_floor, slot_view}
use Rattle.wplanner.specs.declared.fault.AskFault.{AskFault}
use Rattle.wplanner.specs.declared.fault.AskFault.TheVariants as queries
use Rattle.wstore.proofs.Standing.{IsQuiet, stand_quiet, stand_told, stand_put, told_here, told_elsewhere}
use Rattle.wstore.proofs.Standing.{drawn_here, drawn_elsewhere, node_answers, under}

read_reply : (r : Result (List (List Meaning)) SegmentFault) (v : View) (name : NameParts) (bytes : List ℕ) → IsOk r
    → Took name (taken_word (known_in v name) bytes) ≡ segment_reply r v name bytes
read_reply (Ok rows) v name bytes h = refl
read_reply (Err fault) v name bytes h = let wrong : false ≡ true = h in cc

-- a file of which a content is refused has the declaration
segment_has_table : (d : Declaration) (bytes : List ℕ) (fault : SegmentFault) → HasBadSegment d bytes fault → HasTable d bytes
segment_has_table d bytes fault h = lacks_memory h.version d h.view _ bytes h.stands.goes_on

-- a slot whose bytes have a declaration was put
put_where : (d : Declaration) (b : Bool) (items : List Item) → HasTable d (file_if b d items) → b ≡ true
put_where d true items h = refl
put_where d false items h = absurd (empty h.version h.rest h.bytes_are)
  where
    no_byte : (x : ℕ) (xs : List ℕ) → [] ≡ x ∷ xs → ⊥
    no_byte x xs e = cc

    empty : (r : Version) (rest : List ℕ) → [] ≡ (head r ++ table_text d) ++ rest → ⊥
    empty One rest e = no_byte 87 _ e
    empty Two rest e = no_byte 87 _ e

-- nodes of which one is put as it was are the same
pub same_set : (nodes : List NodeState) (slots : List (List ℕ)) (p : ℕ) (node new : NodeState) → node ≡ get_or nodes p node
    → new ≡ node → places (set nodes p new) slots ≡ places nodes slots
same_set nodes slots p node new is same = ap (λ l. places l slots) (ap (set nodes p) (same ∙ is) ∙ set-get_or nodes p node)

abbrev judged : FileFault → Result View FileFault
judged f = Err f

module _ (d : Declaration) (at : Places) (h : List Step) (n p : ℕ) (node : NodeState) (stand : StandAt d at h)
    (place : p + 1 ≡ n) (low : p < node_count) (is : node ≡ get_or at.nodes p node) where
  -- a node answered, and no node learned anything
  quietly : (c : Command) (r : Reply) (text : List ℕ) → Answers h c r → text ≡ text_of r
      → declared_by r (declaration h) ≡ declaration h → IsQuiet c r → AnswersAs d at h c text
  quietly c r text answers text_is same quiet = record {
    reply = r;
    answers = answers;
    text_is = text_is;
    stand =
        stand_quiet d at h c r stand same quiet;
  }

  -- the reply of the node is the one that the history allows
  here : (c : Command) (r : Reply) → NodeAnswers node.schema node.view c r → NodeAnswers d (view_of (known h n)) c r
  here c r a = node_answers d at h n p node (λ d v. NodeAnswers d v c r) stand low is place a

  -- the declaration of the node is that of the script
  here_schema : node.schema ≡ d
  here_schema = (subst (KnowsThese d (known h (p + 1))) (sym is) (stand.node p node low)).schema_is

  -- a node learned one item
  learns : (c : Command) (r : Reply) (i : Item) (new : NodeState) → HoldRecords d (i ∷ [])
      → declared_by r (declaration h) ≡ declaration h → new ≡ record node { view = join node.view (view_of_item i) }
      → ((m : ℕ) → delivers c r m ≡ cond (n == m) (i ∷ []) []) → ((m : ℕ) → gets c r m ≡ None)
      → ((k : ℕ) → puts c r k ≡ None) → ((m : ℕ) → heard c r m ≡ None)
      → StandAt d (places (set at.nodes p new) at.slots) (record { command = c; reply = r } ∷ h)
  learns c r i new sound same new_is delivers_is gets_none puts_none deaf =
      stand_told d at h c r stand same p (i ∷ []) node new low is new_is sound
      (ap (λ o. (known h (p + 1) ++ drawn o (λ k. held h k)) ++ delivers c r (p + 1)) (gets_none (p + 1))
      ∙ ap (λ l. l ++ delivers c r (p + 1)) (append-nil (known h (p + 1)))
      ∙ ap (λ l. known h (p + 1) ++ l) (delivers_is (p + 1) ∙ told_here n (p + 1) (i ∷ []) (sym place)))
      (λ m other. delivers_is m ∙ told_elsewhere n m (i ∷ []) (λ e. other (sym e ∙ sym place))) (λ m other. gets_none m) puts_none deaf

  taken_at : (origin number bytes : List ℕ) (name : NameParts) (new : NodeState) (word : Taken) (text : List ℕ)
      → SpellsName origin number name → IsOk (rows_of node.schema bytes) → word ≡ taken_word (known_in node.view name) bytes
      → new ≡ record node { view = join node.view (view_of_item (SegmentItem name bytes)) } → text ≡ taken_text word
      → AnswersAs d (places (set at.nodes p new) at.slots) h (Take n origin number bytes) text
  taken_at origin number bytes name new word text named read word_is new_is text_is =
      let c = Take n origin number bytes in
      let r = Took name word in
      record {
        reply = r;
        answers = under d h c r stand.declared (here c r (
          Ok name,
          named,
          ap (Took name) word_is
              ∙ read_reply (rows_of node.schema bytes) node.view name bytes read,
        ));
        text_is = text_is;
        stand = learns c r (SegmentItem name bytes) new (sound_segment d name bytes named.is_name
            (subst (λ s. IsOk (rows_of s bytes)) here_schema read)) refl new_is (λ m. refl) (λ m. refl) (λ k. refl) (λ m. refl);
      }

  refused_at : (origin number bytes : List ℕ) (name : NameParts) (fault : SegmentFault) (text : List ℕ)
      → length bytes ≤ longest_segment → SpellsName origin number name → Fails fault (rows_of node.schema bytes)
      → text ≡ segment_text fault → AnswersAs d at h (Take n origin number bytes) text
  refused_at origin number bytes name fault text short named fails text_is =
      let c = Take n origin number bytes in
      elim fails [
        | inl e ↦ quietly c NoMemory text (inr (((name, named), short), refl)) (text_is ∙ ap segment_text e) refl
            (record { delivers_none = λ m. refl; gets_none = λ m. refl; puts_none = λ k. refl; hears_none = λ m. refl })
        | inr e ↦ quietly c (RefusedSegment fault) text
            (under d h c (RefusedSegment fault) stand.declared
            (here c (RefusedSegment fault) (Ok name, named, ap (λ r. segment_reply r node.view name bytes) (sym e)))) text_is refl
            (record { delivers_none = λ m. refl; gets_none = λ m. refl; puts_none = λ k. refl; hears_none = λ m. refl })
      ]

  -- a node that is as it was stands where it stood
  same_nodes : (new : NodeState) → new ≡ node → set at.nodes p new ≡ at.nodes
  same_nodes new same = ap (set at.nodes p) (same ∙ is) ∙ set-get_or at.nodes p node

  asked_at : (new : NodeState) (query text : List ℕ) → new ≡ node → AnswersAs d at h (Ask n query) text
      → AnswersAs d (places (set at.nodes p new) at.slots) h (Ask n query) text
  asked_at new query text same answers = subst (λ nodes. AnswersAs d (places nodes at.slots) h (Ask n query) text)
      (sym (same_nodes new same)) answers

  pub take_at : (origin number bytes : List ℕ) (name : NameParts) (outcome : Result Taken SegmentFault) (new : NodeState)
      (text : List ℕ) → length bytes ≤ longest_segment → SpellsName origin number name
      → IfOk outcome (λ word. word ≡ taken_word (known_in node.view name) bytes)
      → OnOk outcome (new ≡ record node { view = join node.view (view_of_item (SegmentItem name bytes)) })
      → OnOk outcome (IsOk (rows_of node.schema bytes))
      → IfErr outcome (λ fault. Fails fault (rows_of node.schema bytes)) → OnErr outcome (new ≡ node)
      → text ≡ take_text outcome → AnswersAs d (places (set at.nodes p new) at.slots) h (Take n origin number bytes) text
  take_at origin number bytes name (Ok word) new text short named word_is new_is read fails same text_is =
      taken_at origin number bytes name new word text named read word_is new_is text_is
  take_at origin number bytes name (Err fault) new text short named word_is new_is read fails same text_is =
      subst (λ nodes. AnswersAs d (places nodes at.slots) h (Take n origin number bytes) text) (sym (same_nodes new same))
      (refused_at origin number bytes name fault text short named fails text_is)

  -- where an item needs memory at a node, the history says so
  pub lacks_at : (item : Item) → MayNeedMemory node.view item → MayNeedMemory (view_of (known h n)) item
  lacks_at item lacks = node_answers d at h n p node (λ _ v. MayNeedMemory v item) stand low is place lacks

  pub retired_at : (origin number : List ℕ) (name : NameParts) (new : NodeState) (word : Retired) (text : List ℕ)
      → SpellsName origin number name → word ≡ retired_word (known_in node.view name)
      → new ≡ record node { view = join node.view (view_of_item (RetirementItem name)) } → text ≡ retired_text word
      → AnswersAs d (places (set at.nodes p new) at.slots) h (Retiring n origin number) text
  retired_at origin number name new word text named word_is new_is text_is =
      let c = Retiring n origin number in
      let r = Was name word in
      record {
        reply = r;
        answers = under d h c r stand.declared (here c r (Ok name, named, ap (Was name) word_is));
        text_is = text_is;
        stand = learns c r (RetirementItem name) new (sound_retirement d name named.is_name) refl new_is (λ m. refl)
            (λ m. refl) (λ k. refl) (λ m. refl);
      }

  pub floored_at : (origin number : List ℕ) (name : NameParts) (new : NodeState) (word : Retired) (text : List ℕ)
      → SpellsName origin number name → word ≡ floor_word node.view name
      → new ≡ record node { view = join node.view (view_of_item (FloorItem name)) } → text ≡ retired_text word
      → AnswersAs d (places (set at.nodes p new) at.slots) h (RetiringTo n origin number) text
  floored_at origin number name new word text named word_is new_is text_is =
      let c = RetiringTo n origin number in
      let r = Was name word in
      record {
        reply = r;
        answers = under d h c r stand.declared (here c r (Ok name, named, ap (Was name) word_is));
        text_is = text_is;
        stand = learns c r (FloorItem name) new (sound_floor d name named.is_name) refl new_is (λ m. refl) (λ m. refl)
            (λ k. refl) (λ m. refl);
      }

  pub listed_at : (all : List Listed) (text : List ℕ) → all ≡ map (listed node.schema) (entries node.view)
      → text ≡ names_text all → AnswersAs d at h (Listing n) text
  listed_at all text all_is text_is =
      quietly (Listing n) (Names all) text (under d h (Listing n) (Names all) stand.declared
      (here (Listing n) (Names all) (ap Names all_is))) text_is refl
      (record { delivers_none = λ m. refl; gets_none = λ m. refl; puts_none = λ k. refl; hears_none = λ m. refl })

  pub answered_at : (query bytes text : List ℕ) → IsAnswer node.schema node.view query (Ok bytes) → text ≡ answer_text bytes
      → AnswersAs d at h (Ask n query) text
  answered_at query bytes text answer_is text_is =
      quietly (Ask n query) (Answered bytes) text (under d h (Ask n query) (Answered bytes) stand.declared
      (here (Ask n query) (Answered bytes) (Ok bytes, answer_is, refl))) text_is refl
      (record { delivers_none = λ m. refl; gets_none = λ m. refl; puts_none = λ k. refl; hears_none = λ m. refl })

  pub unanswered_at : (query text : List ℕ) (fault : AskFault) → length query ≤ longest_text → (fault ≡ queries.NoMemory)
      ⊎ IsAnswer node.schema node.view query (Err fault) → text ≡ query_text fault → AnswersAs d at h (Ask n query) text
  unanswered_at query text fault short fails text_is = elim fails [
    | inl e ↦ quietly (Ask n query) NoMemory text (inr (short, refl)) (text_is ∙ ap query_text e) refl
        (record { delivers_none = λ m. refl; gets_none = λ m. refl; puts_none = λ k. refl; hears_none = λ m. refl })
    | inr e ↦ quietly (Ask n query) (RefusedQuery fault) text
        (under d h (Ask n query) (RefusedQuery fault) stand.declared (here (Ask n query) (RefusedQuery fault)
        (Err fault, e, refl))) text_is refl
        (record { delivers_none = λ m. refl; gets_none = λ m. refl; puts_none = λ k. refl; hears_none = λ m. refl })
  ]

  pub ask_at : (query : List ℕ) (outcome : Result (Vec ℕ Global) AskFault) (new : NodeState) (text : List ℕ)
      → length query ≤ longest_text → MatchResult outcome (λ bytes. IsAnswer node.schema node.view query (Ok bytes.items))
      (λ fault. (fault ≡ queries.NoMemory) ⊎ IsAnswer node.schema node.view query (Err fault)) → new ≡ node
      → text ≡ ask_text outcome → AnswersAs d (places (set at.nodes p new) at.slots) h (Ask n query) text
  ask_at query (Ok bytes) new text short answer same text_is =
      asked_at new query text same (answered_at query bytes.items text answer text_is)
  ask_at query (Err fault) new text short answer same text_is =
      asked_at new query text same (unanswered_at query text fault short answer text_is)

  -- ---- slots

  pub put_at : (slot q : ℕ) (bytes text : List ℕ) → q + 1 ≡ slot → q < slot_count → bytes ≡ file_of node.schema node.view
      → text ≡ text_of Done → AnswersAs d (places at.nodes (set at.slots q bytes)) h (Put n slot) text
  put_at slot q bytes text slot_is q_low bytes_are text_is = record {
    reply = Done;
    answers = under d h (Put n slot) Done stand.declared refl;
    text_is = text_is;
    stand = stand_put d at h (Put n slot) Done stand refl p q node bytes low q_low is bytes_are
        (drawn_here slot (q + 1) n (sym slot_is) ∙ ap Some (sym place)) (λ k other. drawn_elsewhere slot k n
        (λ e. other (sym e ∙ sym slot_is))) (λ m. refl) (λ m. refl) (λ m. refl);
  }

  -- the bytes of a slot are those of its file
  file_is : (slot q : ℕ) (bytes e : List ℕ) → q + 1 ≡ slot → q < slot_count → bytes ≡ get_or at.slots q e → bytes ≡ slot_file d h slot
  file_is slot q bytes e slot_is q_low is = is ∙ stand.slot q e q_low ∙ ap (slot_file d h) slot_is

  got_at : (slot q : ℕ) (bytes e : List ℕ) (new : NodeState) (text : List ℕ) → q + 1 ≡ slot → q < slot_count
      → bytes ≡ get_or at.slots q e → LearnsFile node bytes new → text ≡ text_of Done
      → AnswersAs d (places (set at.nodes p new) at.slots) h (Get slot n) text
  got_at slot q bytes e new text slot_is q_low bytes_are learned text_is =
      let c = Get slot n in
      let same_bytes = file_is slot q bytes e slot_is q_low bytes_are in
      let file : IsFileOf d learned.view (slot_file d h slot) = subst (λ s. IsFileOf s learned.view (slot_file d h slot))
      here_schema (subst (IsFileOf node.schema learned.view) same_bytes learned.file) in
      let view_is : learned.view ≡ view_of (held h slot) = slot_view d (is_put h slot) (held h slot) learned.view file
      (stand.sound_slots slot) in
      record {
        reply = Done;
        answers = under d h c Done stand.declared (record {
          judged = Ok learned.view;
          judges = file;
          is_judged = λ w. cc;
          reply_is = refl;
        });
        text_is = text_is;
        stand = stand_told d at h c Done stand refl p (held h slot) node new low is
            (learned.new_is ∙ ap (λ v. record node { view = join node.view v }) view_is)
            (stand.sound_slots slot)
            (append-nil _ ∙ ap (λ o. known h (p + 1) ++ drawn o (λ k. held h k)) (drawn_here n (p + 1) slot (sym place)))
            (λ m other. refl) (λ m other. drawn_elsewhere n m slot (λ e. other (sym e ∙ sym place))) (λ k. refl) (λ m. refl);
      }

  refused_file_at : (slot q : ℕ) (bytes e text : List ℕ) (fault : FileFault) → q + 1 ≡ slot → q < slot_count
      → bytes ≡ get_or at.slots q e → IsFault node.schema bytes fault → text ≡ file_text fault → AnswersAs d at h (Get slot n) text
  refused_file_at slot q bytes e text fault slot_is q_low bytes_are is_fault text_is = by fault here_fault text_is
    where
      here_fault : IsFault d (slot_file d h slot) fault
      here_fault = subst (λ s. IsFault s (slot_file d h slot) fault) here_schema (subst (λ b. IsFault node.schema b fault)
          (file_is slot q bytes e slot_is q_low bytes_are) is_fault)

      quiet : (f : FileFault) → IsQuiet (Get slot n) (RefusedFile f)
      quiet f = record { delivers_none = λ m. refl; gets_none = λ m. refl; puts_none = λ k. refl; hears_none = λ m. refl }

      refused_so : (f : FileFault) → IsFault d (slot_file d h slot) f → judged f ≢ judged files.NoMemory → text ≡ file_text f
          → AnswersAs d at h (Get slot n) text
      refused_so f i other t =
          quietly (Get slot n) (RefusedFile f) text
          (under d h (Get slot n) (RefusedFile f) stand.declared (record {
            judged = Err f;
            judges = i;
            is_judged = other;
            reply_is = refl;
          })) t refl (quiet f)

      by : (f : FileFault) → IsFault d (slot_file d h slot) f → text ≡ file_text f → AnswersAs d at h (Get slot n) text
      by files.OtherFormat i t = refused_so files.OtherFormat i (λ w. cc) t
      by files.Truncated i t = refused_so files.Truncated i (λ w. cc) t
      by files.NotRising i t = refused_so files.NotRising i (λ w. cc) t
      by files.OtherCount i t = refused_so files.OtherCount i (λ w. cc) t
      by files.OtherSchema i t = refused_so files.OtherSchema i (λ w. cc) t
      by (files.Segment fault) i t = refused_so (files.Segment fault) i (λ w. cc) t
      by files.Trailing i t = refused_so files.Trailing i (λ w. cc) t
      by files.OtherDigest i t = refused_so files.OtherDigest i (λ w. cc) t
      by files.NoMemory i t = quietly (Get slot n) NoMemory text (inr (put_where d (is_put h slot) (held h slot) i, refl)) t
          refl (record { delivers_none = λ m. refl; gets_none = λ m. refl; puts_none = λ k. refl; hears_none = λ m. refl })

  pub get_at : (slot q : ℕ) (bytes e : List ℕ) (outcome : Result (Unit {0}) FileFault) (new : NodeState) (text : List ℕ)
      → q + 1 ≡ slot → q < slot_count → bytes ≡ get_or at.slots q e → OnOk outcome (LearnsFile node bytes new)
      → IfErr outcome (λ fault. IsFault node.schema bytes fault) → OnErr outcome (new ≡ node) → text ≡ get_text outcome
      → AnswersAs d (places (set at.nodes p new) at.slots) h (Get slot n) text
  get_at slot q bytes e (Ok _) new text slot_is q_low bytes_are learned fails same text_is =
      got_at slot q bytes e new text slot_is q_low bytes_are learned text_is
  get_at slot q bytes e (Err fault) new text slot_is q_low bytes_are learned fails same text_is =
      subst (λ nodes. AnswersAs d (places nodes at.slots) h (Get slot n) text) (sym (same_nodes new same))
      (refused_file_at slot q bytes e text fault slot_is q_low bytes_are fails text_is)

  -- a slot whose file is refused for a segment was put
  pub got_put : (slot q : ℕ) (bytes e : List ℕ) (fault : FileFault) (refused : SegmentFault) → q + 1 ≡ slot → q < slot_count
      → bytes ≡ get_or at.slots q e → IsFault node.schema bytes fault → fault ≡ files.Segment refused → is_put h slot ≡ true
  got_put slot q bytes e fault refused slot_is q_low bytes_are is_fault fault_is =
      put_where d (is_put h slot) (held h slot) (segment_has_table d (slot_file d h slot) refused here_fault)
    where
      here_fault : HasBadSegment d (slot_file d h slot) refused
      here_fault = subst (λ s. HasBadSegment s (slot_file d h slot) refused) here_schema
          (subst (λ b. HasBadSegment node.schema b refused) (file_is slot q bytes e slot_is q_low bytes_are)
          (subst (IsFault node.schema bytes) fault_is is_fault))
