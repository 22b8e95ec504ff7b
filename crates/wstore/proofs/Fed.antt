-- A piece that a node was fed.
use Rattle.std.proofs.Common.{◌≡◌, ◌≢◌, ℕ, ◌+◌, ◌<◌, Bool, true, false, cond, ◌||◌, ◌==◌, List, [], ◌∷◌, ◌++◌, map, take, get_or}
use Rattle.std.proofs.Common.{set, None, Some, ◌⊎◌, inl, inr, refl, sym, ap, ◌∙◌, subst, arith, append_assoc, append-nil}
use Rattle.std.specs.List.{flat_map, AllByRecursion}
use Rattle.wlines.specs.Sent.{Sent, Says}
use Rattle.std.proofs.Math.ListN.{length-set}
use Rattle.std.proofs.lemmas.Bool.{eqb-true}
use Rattle.std.proofs.lemmas.List.{set-get_or}
use Rattle.wsegment.specs.Declaration.{Declaration}
use Rattle.wset.specs.Views.{View, IsSettled, join}
use Rattle.wset.specs.Items.{Item, SegmentItem, RetirementItem, FloorItem, view_of}
use Rattle.wset.proofs.Union.{view_of_union, views_are_settled}
use Rattle.wstream.specs.Messages.{IsMessage, IsOpen, IsBad, message_text}
use Rattle.wscript.specs.Commands.{Feed, node_count}
use Rattle.wstore.specs.Replies.{Line, TookLine, WasLine, FloorLine, RefusedLine, SpentLine, line_item, line_items, fed_text, Fed, NoMemory}
use Rattle.wreplies.specs.Spelling.{no_memory}
use Rattle.wstore.specs.History.{Step, Answers, LinesAnswer, IsRest, FeedBegins, PieceAnswers, Heard, heard, heard_items}
use Rattle.wstore.specs.History.{heard_bad, entered, stream, handled, is_bad, declaration, known, held, slot_file}
use Rattle.wstore.specs.Nodes.{NodeState, HandlesLines, HandlesAll, handled_view}
use Rattle.wstore.specs.Feeding.{SendsAll, SendsPart, Feeds, FeedsPart, FedAs}
use Rattle.wstore.specs.Steps.{FedPart}
use Rattle.wstore.specs.Standing.{KnowsThese, HoldRecords, Listens, Places, StandAt, places}
use Rattle.wstore.proofs.Soundness.{sound_nothing, sound_both, sound_segment, sound_retirement, sound_floor}
use Rattle.wstore.proofs.Standing.{eqb_refl, eqb_other, told_here, told_elsewhere, listens_still, at_places, stand_quiet, under}

-- one node changed, from one history to another
stand_node : (d : Declaration) (at : Places) (h g : List Step) (p : ℕ) (new : NodeState) → StandAt d at h → p < node_count
    → declaration g ≡ declaration h → ((n : ℕ) → n ≢ p + 1 → known g n ≡ known h n) → KnowsThese d (known g (p + 1)) new
    → HoldRecords d (known g (p + 1)) → ((n : ℕ) (node : NodeState) → n ≢ p + 1 → Listens h n node → Listens g n node)
    → Listens g (p + 1) new → ((k : ℕ) → slot_file d g k ≡ slot_file d h k) → ((k : ℕ) → held g k ≡ held h k)
    → StandAt d (places (set at.nodes p new) at.slots) g
stand_node d at h g p new stand low same known_same knows sound others listens slots helds = record {
  declared = same ∙ stand.declared;
  count = length-set at.nodes p new ∙ stand.count;
  slot_number = stand.slot_number;
  node = λ n e n_low.
      at_places at.nodes p new (λ m x. KnowsThese d (known g (m + 1)) x) (omega (arith, stand.count)) knows
      (λ m x m_low other. subst (λ l. KnowsThese d l (get_or at.nodes m x))
      (sym (known_same (m + 1) (λ e. other (omega (arith, e))))) (stand.node m x (omega (arith, stand.count, m_low))))
      n e (omega (arith, stand.count, n_low));
  listens = λ n e n_low.
      at_places at.nodes p new (λ m x. Listens g (m + 1) x) (omega (arith, stand.count)) listens
      (λ m x m_low other. others (m + 1) (get_or at.nodes m x) (λ e. other (omega (arith, e)))
      (stand.listens m x (omega (arith, stand.count, m_low))))
      n e (omega (arith, stand.count, n_low));
  slot = λ k e k_low. stand.slot k e k_low ∙ sym (slots (k + 1));
  sound = λ n. by n (p + 1 == n) refl;
  sound_slots = λ k. subst (HoldRecords d) (sym (helds k)) (stand.sound_slots k);
}
  where
    differ : (a b : ℕ) → (a == b) ≡ false → a ≢ b
    differ a b t same =
        let u : true ≡ false = sym (eqb_refl a) ∙ ap (λ q. a == q) same ∙ t in
        cc

    by : (n : ℕ) (b : Bool) → (p + 1 == n) ≡ b → HoldRecords d (known g n)
    by n true t = subst (λ m. HoldRecords d (known g m)) (eqb-true (p + 1) n t) sound
    by n false t = subst (HoldRecords d) (sym (known_same n (λ e. differ (p + 1) n t (sym e)))) (stand.sound n)

texts-both : (xs ys : List Item) → flat_map message_text xs ++ flat_map message_text ys ≡ flat_map message_text (xs ++ ys)
texts-both [] ys = refl
texts-both (x ∷ xs) ys = append_assoc (message_text x) (flat_map message_text xs) (flat_map message_text ys)
    ∙ ap (λ l. message_text x ++ l) (texts-both xs ys)

each-both : (xs ys : List Item) → AllByRecursion IsMessage xs → AllByRecursion IsMessage ys → AllByRecursion IsMessage (xs ++ ys)
each-both [] ys h k = k
each-both (x ∷ xs) ys h k = (h.0, each-both xs ys h.1 k)

told_items : (items : List Item) (ls : List Line) → handled_view (view_of items) ls ≡ view_of (items ++ flat_map line_items ls)
told_items items [] = ap view_of (sym (append-nil items))
told_items items (l ∷ ls) =
    ap (λ v. handled_view v ls) (sym (view_of_union items (line_items l)))
    ∙ told_items (items ++ line_items l) ls
    ∙ ap view_of (append_assoc items (line_items l) (flat_map line_items ls))

sound_lines : (d : Declaration) (v : View) (ls : List Line) → AllByRecursion IsMessage (map line_item ls)
    → LinesAnswer d v ls → HoldRecords d (flat_map line_items ls)
sound_lines d v [] h a = sound_nothing d
sound_lines d v (TookLine n b word ∷ ls) h a = sound_both d (SegmentItem n b ∷ []) (flat_map line_items ls)
    (sound_segment d n b h.0.0 a.0.0) (sound_lines d (join v (view_of (SegmentItem n b ∷ []))) ls h.1 a.1)
sound_lines d v (WasLine n word ∷ ls) h a = sound_both d (RetirementItem n ∷ []) (flat_map line_items ls)
    (sound_retirement d n h.0) (sound_lines d (join v (view_of (RetirementItem n ∷ []))) ls h.1 a.1)
sound_lines d v (FloorLine n word ∷ ls) h a = sound_both d (FloorItem n ∷ []) (flat_map line_items ls) (sound_floor d n h.0)
    (sound_lines d (join v (view_of (FloorItem n ∷ []))) ls h.1 a.1)
sound_lines d v (RefusedLine n b fault ∷ ls) h a = sound_lines d (join v (view_of [])) ls h.1 a.1
sound_lines d v (SpentLine i ∷ ls) h a = sound_lines d (join v (view_of [])) ls h.1 a.1

rest_ends : (bad : Bool) (rest : List ℕ) → IsRest bad rest → IsOpen rest ⊎ IsBad rest
rest_ends true rest e = inr e
rest_ends false rest e = inl e

module _ (d : Declaration) (at : Places) (h : List Step) (p : ℕ) (node : NodeState) (stand : StandAt d at h)
    (low : p < node_count) (is : node ≡ get_or at.nodes p node) (piece : List ℕ) where
  knows : KnowsThese d (known h (p + 1)) node
  knows = subst (KnowsThese d (known h (p + 1))) (sym is) (stand.node p node low)

  listens : Listens h (p + 1) node
  listens = subst (Listens h (p + 1)) (sym is) (stand.listens p node low)

  -- what is known by a reply to the piece
  module _ (lines : List Line) (bad : Bool) where
    abbrev after : List Step
    after = record { command = Feed (p + 1) piece; reply = Fed lines bad } ∷ h

    abbrev news : Heard
    news = record { piece = piece; items = map line_item lines; is_bad = bad }

    heard_here : heard (Feed (p + 1) piece) (Fed lines bad) (p + 1) ≡ Some news
    heard_here = ap (λ b. cond b (Some news) None) (eqb_refl (p + 1))

    heard_elsewhere : (n : ℕ) → n ≢ p + 1 → heard (Feed (p + 1) piece) (Fed lines bad) n ≡ None
    heard_elsewhere n other = ap (λ b. cond b (Some news) None) (eqb_other (p + 1) n (λ e. other (sym e)))

    known_here : known after (p + 1) ≡ known h (p + 1) ++ flat_map line_items lines
    known_here = ap (λ l. (known h (p + 1) ++ []) ++ l) (told_here (p + 1) (p + 1) (flat_map line_items lines) refl)
        ∙ ap (λ l. l ++ flat_map line_items lines) (append-nil (known h (p + 1)))

    known_elsewhere : (n : ℕ) → n ≢ p + 1 → known after n ≡ known h n
    known_elsewhere n other = ap (λ l. (known h n ++ []) ++ l) (told_elsewhere (p + 1) n (flat_map line_items lines)
        (λ e. other (sym e))) ∙ append-nil (known h n ++ []) ∙ append-nil (known h n)

    stands_after : (new : NodeState) → KnowsThese d (known h (p + 1) ++ flat_map line_items lines) new
        → HoldRecords d (flat_map line_items lines) → Listens after (p + 1) new → StandAt d (places (set at.nodes p new) at.slots) after
    stands_after new k sound l =
        stand_node d at h after p new stand low refl known_elsewhere
        (subst (λ items. KnowsThese d items new) (sym known_here) k)
        (subst (HoldRecords d) (sym known_here) (sound_both d (known h (p + 1)) (flat_map line_items lines) (stand.sound (p + 1)) sound))
        (λ n x other y. listens_still h (Feed (p + 1) piece) (Fed lines bad) n x (heard_elsewhere n other) y)
        l (λ k. refl) (λ k. refl)

  module _ (pushed : NodeState) (pushed_is : pushed ≡ record node { held = node.held ++ piece }) (good : node.is_bad ≡ false) where
    not_bad : is_bad h (p + 1) ≡ false
    not_bad = sym listens.bad_is ∙ good

    pushed_schema : pushed.schema ≡ d
    pushed_schema = ap (λ (x : NodeState). x.schema) pushed_is ∙ knows.schema_is

    pushed_view : pushed.view ≡ view_of (known h (p + 1))
    pushed_view = ap (λ (x : NodeState). x.view) pushed_is ∙ knows.view_is

    pushed_settled : IsSettled pushed.view
    pushed_settled = subst IsSettled (sym pushed_view) (views_are_settled (known h (p + 1)))

    module _ (lines : List Line) (last : NodeState) (handles : HandlesLines pushed lines last) where
      whole : stream h (p + 1) ++ piece ≡ flat_map message_text (handled h (p + 1) ++ map line_item lines) ++ last.held
      whole =
          ap (λ l. l ++ piece) (listens.held_is not_bad)
          ∙ append_assoc (flat_map message_text (handled h (p + 1))) node.held piece
          ∙ ap (λ l. flat_map message_text (handled h (p + 1)) ++ l) (sym (ap (λ (x : NodeState). x.held) pushed_is) ∙ handles.held_is)
          ∙ sym (append_assoc (flat_map message_text (handled h (p + 1))) (flat_map message_text (map line_item lines)) last.held)
          ∙ ap (λ l. l ++ last.held) (texts-both (handled h (p + 1)) (map line_item lines))

      answered : LinesAnswer d (view_of (known h (p + 1))) lines
      answered = subst (λ v. LinesAnswer d v lines) pushed_view (subst (λ s. LinesAnswer s pushed.view lines) pushed_schema
          (handles.answers pushed_settled))

      begins : FeedBegins d h (p + 1) piece lines
      begins = record { rest = last.held; good = not_bad; whole = whole; each = handles.each; lines_are = answered }

      knows_more : KnowsThese d (known h (p + 1) ++ flat_map line_items lines) last
      knows_more = record {
        schema_is = handles.schema_is ∙ pushed_schema;
        view_is = handles.view_is pushed_settled ∙ ap (λ v. handled_view v lines) pushed_view ∙ told_items (known h (p + 1)) lines;
      }

    module _ (lines : List Line) (bad : Bool) (new : NodeState) (all : HandlesAll pushed lines bad new) where
      answers : Answers h (Feed (p + 1) piece) (Fed lines bad)
      answers = under d h (Feed (p + 1) piece) (Fed lines bad) stand.declared
          (subst (λ b. PieceAnswers b d h (p + 1) piece (Fed lines bad)) (sym not_bad)
          (record {
            rest = all.last.held;
            splits = record {
              whole = whole lines all.last all.handles;
              each = each-both (handled h (p + 1)) (map line_item lines) listens.each all.handles.each;
              end = rest_ends bad all.last.held all.end;
            };
            end = all.end;
            lines_are = answered lines all.last all.handles;
          }))

      listens_after : Listens (after lines bad) (p + 1) new
      listens_after = record {
        bad_is = ap (λ (x : NodeState). x.is_bad) all.new_is
            ∙ sym (ap (λ o. is_bad h (p + 1) || heard_bad o) (heard_here lines bad) ∙ ap (λ b. b || bad) not_bad);
        held_is = λ _.
            ap (λ o. stream h (p + 1) ++ entered (is_bad h (p + 1)) o) (heard_here lines bad)
            ∙ ap (λ b. stream h (p + 1) ++ entered b (Some (news lines bad))) not_bad
            ∙ whole lines all.last all.handles
            ∙ ap (λ l. flat_map message_text (handled h (p + 1) ++ map line_item lines) ++ l)
            (sym (ap (λ (x : NodeState). x.held) all.new_is))
            ∙ ap (λ o. flat_map message_text (handled h (p + 1) ++ heard_items o) ++ new.held) (sym (heard_here lines bad));
        each = subst (λ o. AllByRecursion IsMessage (handled h (p + 1) ++ heard_items o)) (sym (heard_here lines bad))
            (each-both (handled h (p + 1)) (map line_item lines) listens.each all.handles.each);
      }

      stands : StandAt d (places (set at.nodes p new) at.slots) (after lines bad)
      stands =
          let k = knows_more lines all.last all.handles in
          stands_after lines bad new
          (record {
            schema_is = ap (λ (x : NodeState). x.schema) all.new_is ∙ k.schema_is;
            view_is =
                ap (λ (x : NodeState). x.view) all.new_is ∙ k.view_is;
          })
          (sound_lines d (view_of (known h (p + 1))) lines all.handles.each (answered lines all.last all.handles))
          listens_after

    fed_all : (n : ℕ) (new : NodeState) (a b : Sent) → p + 1 ≡ n → SendsAll pushed new a b
        → FedAs d (places (set at.nodes p new) at.slots) h n piece a b
    fed_all n new a b place s = subst (λ m. FedAs d (places (set at.nodes p new) at.slots) h m piece a b) place (record {
      reply = Fed s.lines s.bad;
      answers = answers s.lines s.bad new s.handles;
      appends = s.appends;
      stand = stands s.lines s.bad new s.handles;
    })

    fed_part : (n : ℕ) (a b : Sent) → p + 1 ≡ n → SendsPart pushed a b → FedPart h n piece a b
    fed_part n a b place part = subst (λ m. FedPart h m piece a b) place (by part)
      where
        by : SendsPart pushed a b → FedPart h (p + 1) piece a b
        by (inl s) = inr (record {
          d = d;
          node = p + 1;
          piece = piece;
          lines = s.lines;
          n = s.n;
          declared = stand.declared;
          command_is = refl;
          begins = begins s.lines s.new s.handles;
          appends = s.appends;
        })
        by (inr s) = inl (record {
          reply = Fed s.lines s.bad;
          n = s.n;
          answers = answers s.lines s.bad s.new s.handles;
          appends = s.appends;
        })

  -- ---- a piece that finds no memory

  fed_starved : (n : ℕ) (new : NodeState) (a b : Sent) → new ≡ node → Says a b no_memory
      → FedAs d (places (set at.nodes p new) at.slots) h n piece a b
  fed_starved n new a b same k =
      let kept : set at.nodes p new ≡ at.nodes = ap (set at.nodes p) (same ∙ is) ∙ set-get_or at.nodes p node in
      subst (λ nodes. FedAs d (places nodes at.slots) h n piece a b) (sym kept) (record {
        reply = NoMemory;
        answers = inr (tt, refl);
        appends = k;
        stand = stand_quiet d at h (Feed n piece) NoMemory stand refl (record {
          delivers_none = λ m. refl;
          gets_none =
              λ m. refl;
          puts_none = λ k. refl;
          hears_none = λ m. refl;
        });
      })

  fed_starved_part : (n : ℕ) (a b : Sent) → ((k : ℕ) × Says a b (take k no_memory)) → FedPart h n piece a b
  fed_starved_part n a b w = inl (record { reply = NoMemory; n = w.0; answers = inr (tt, refl); appends = w.1 })

  -- ---- a stream that was found bad

  module _ (bad : node.is_bad ≡ true) where
    is_bad_here : is_bad h (p + 1) ≡ true
    is_bad_here = sym listens.bad_is ∙ bad

    bad_answers : Answers h (Feed (p + 1) piece) (Fed [] true)
    bad_answers = under d h (Feed (p + 1) piece) (Fed [] true) stand.declared
        (subst (λ b. PieceAnswers b d h (p + 1) piece (Fed [] true)) (sym is_bad_here) (refl, refl))

    still_bad : is_bad (after [] true) (p + 1) ≡ true
    still_bad = ap (λ o. is_bad h (p + 1) || heard_bad o) (heard_here [] true) ∙ ap (λ b. b || true) is_bad_here

    bad_stands : (new : NodeState) → new ≡ node → StandAt d (places (set at.nodes p new) at.slots) (after [] true)
    bad_stands new same =
        stands_after [] true new
        (subst (KnowsThese d (known h (p + 1) ++ [])) (sym same)
        (subst (λ l. KnowsThese d l node) (sym (append-nil (known h (p + 1)))) knows))
        (sound_nothing d)
        (record {
          bad_is = ap (λ (x : NodeState). x.is_bad) same ∙ bad ∙ sym still_bad;
          held_is = λ e. let wrong : true ≡ false = sym still_bad ∙ e in cc;
          each = subst (λ o. AllByRecursion IsMessage (handled h (p + 1) ++ heard_items o)) (sym (heard_here [] true))
              (subst (AllByRecursion IsMessage) (sym (append-nil (handled h (p + 1)))) listens.each);
        })

    fed_bad : (n : ℕ) (new : NodeState) (a b : Sent) → p + 1 ≡ n → new ≡ node → Says a b (fed_text 0 true)
        → FedAs d (places (set at.nodes p new) at.slots) h n piece a b
    fed_bad n new a b place same k = subst (λ m. FedAs d (places (set at.nodes p new) at.slots) h m piece a b) place
        (record { reply = Fed [] true; answers = bad_answers; appends = k; stand = bad_stands new same })

    fed_bad_part : (n : ℕ) (a b : Sent) → p + 1 ≡ n → ((k : ℕ) × Says a b (take k (fed_text 0 true))) → FedPart h n piece a b
    fed_bad_part n a b place w = subst (λ m. FedPart h m piece a b) place
        (inl (record { reply = Fed [] true; n = w.0; answers = bad_answers; appends = w.1 }))

  -- ---- a piece

  pub fed_as : (n : ℕ) (new : NodeState) (a b : Sent) → p + 1 ≡ n → Feeds node piece new a b
      → FedAs d (places (set at.nodes p new) at.slots) h n piece a b
  fed_as n new a b place (inl f) = fed_all (record node { held = node.held ++ piece }) refl f.0 n new a b place f.1
  fed_as n new a b place (inr (inl f)) = fed_bad f.0 n new a b place f.1 f.2
  fed_as n new a b place (inr (inr f)) = fed_starved n new a b f.1 f.2

  pub fed_part_as : (n : ℕ) (a b : Sent) → p + 1 ≡ n → FeedsPart node piece a b → FedPart h n piece a b
  fed_part_as n a b place (inl f) = fed_part (record node { held = node.held ++ piece }) refl f.0 n a b place f.1
  fed_part_as n a b place (inr (inl f)) = fed_bad_part f.0 n a b place f.1
  fed_part_as n a b place (inr (inr f)) = fed_starved_part n a b f.1
