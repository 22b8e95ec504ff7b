-- Nodes after a step of a history.
use Rattle.std.proofs.Common.{◌≡◌, ◌≢◌, ℕ, ◌+◌, ◌<◌, Bool, true, false, cond, List, [], ◌∷◌, ◌++◌, get_or, set, Option}
use Rattle.std.proofs.Common.{None, Some, refl, sym, ap, ◌∙◌, subst, inl, ◌==◌, ◌||◌, length, arith, append-nil}
use Rattle.std.proofs.lemmas.List.{get_or-set_same, get_or-set_other}
use Rattle.std.proofs.lemmas.Bool.{eqb-true}
use Rattle.std.proofs.lemmas.Bool.Decides.{nat_tests}
use Rattle.std.proofs.Math.ListN.{length-set}
use Rattle.wsegment.specs.Declaration.{Declaration}
use Rattle.wset.specs.Views.{View, join}
use Rattle.wset.specs.Items.{Item, view_of}
use Rattle.wstore.specs.Nodes.{NodeState}
use Rattle.wset.proofs.Union.{view_of_union}
use Rattle.wscript.specs.Commands.{Command, node_count, slot_count}
use Rattle.wstore.specs.Replies.{Reply}
use Rattle.wstore.specs.History.{Step, Answers, AnswersUnder, declaration, declared_by, delivers, gets}
use Rattle.wstore.specs.History.{puts, drawn, replaced, is_put, is_put_by, held, known, file_if, slot_file}
use Rattle.wstore.specs.History.{heard, heard_items, heard_bad, entered, stream, handled, is_bad}
use Rattle.wexchange.specs.Files.{file_of}
use Rattle.wstream.specs.Messages.{IsMessage, message_text}
use Rattle.std.specs.List.{flat_map, AllByRecursion}
use Rattle.wstore.specs.Standing.{KnowsThese, HoldRecords, Listens, Places, StandAt, places}
use Rattle.wstore.proofs.Soundness.{sound_both}

pub eqb_refl : (n : ℕ) → (n == n) ≡ true
eqb_refl n = grind (arith, nat_tests)

pub eqb_other : (m n : ℕ) → m ≢ n → (m == n) ≡ false
eqb_other m n h = grind (arith, nat_tests)

-- what a node is told where the step speaks to it, and where it does not
pub told_here : (m n : ℕ) (items : List Item) → m ≡ n → cond (m == n) items [] ≡ items
told_here m n items e = ap (λ k. cond (m == k) items []) (sym e) ∙ ap (λ b. cond b items []) (eqb_refl m)

pub told_elsewhere : (m n : ℕ) (items : List Item) → m ≢ n → cond (m == n) items [] ≡ []
told_elsewhere m n items h = ap (λ b. cond b items []) (eqb_other m n h)

-- what a step draws where it speaks of the place, and where it does not
pub drawn_here : (m n k : ℕ) → m ≡ n → cond (m == n) (Some k) None ≡ Some k
drawn_here m n k e = ap (λ j. cond (m == j) (Some k) None) (sym e) ∙ ap (λ b. cond b (Some k) None) (eqb_refl m)

pub drawn_elsewhere : (m n k : ℕ) → m ≢ n → cond (m == n) (Some k) None ≡ None
drawn_elsewhere m n k h = ap (λ b. cond b (Some k) None) (eqb_other m n h)

abbrev step : Command → Reply → Step
step c r = record { command = c; reply = r }

-- the step tells no node anything, draws nothing, and puts nothing
pub record IsQuiet (c : Command) (r : Reply) : Type 0 where
  pub delivers_none : (n : ℕ) → delivers c r n ≡ []
  pub gets_none : (n : ℕ) → gets c r n ≡ None
  pub puts_none : (k : ℕ) → puts c r k ≡ None
  pub hears_none : (n : ℕ) → heard c r n ≡ None

-- a node that was told nothing knows what it knew
pub untold : (h : List Step) (c : Command) (r : Reply) (n : ℕ) → delivers c r n ≡ [] → gets c r n ≡ None
    → known (step c r ∷ h) n ≡ known h n
untold h c r n e f =
    ap (λ l. (known h n ++ drawn (gets c r n) (λ k. held h k)) ++ l) e ∙ append-nil _
    ∙ ap (λ o. known h n ++ drawn o (λ k. held h k)) f ∙ append-nil (known h n)

pub or_none : (b : Bool) → (b || false) ≡ b
or_none true = refl
or_none false = refl

-- a step by which a node was fed nothing leaves its stream
pub listens_still : (h : List Step) (c : Command) (r : Reply) (n : ℕ) (node : NodeState) → heard c r n ≡ None
    → Listens h n node → Listens (step c r ∷ h) n node
listens_still h c r n node e l = record {
  bad_is = l.bad_is ∙ sym same_bad;
  held_is = λ good.
      ap (λ o. stream h n ++ entered (is_bad h n) o) e ∙ append-nil (stream h n) ∙ l.held_is (sym same_bad ∙ good)
      ∙ ap (λ l. flat_map message_text l ++ node.held) (sym same_items);
  each = subst (AllByRecursion IsMessage) (sym same_items) l.each;
}
  where
    same_bad : is_bad (step c r ∷ h) n ≡ is_bad h n
    same_bad = ap (λ o. is_bad h n || heard_bad o) e ∙ or_none (is_bad h n)

    same_items : handled (step c r ∷ h) n ≡ handled h n
    same_items = ap (λ o. handled h n ++ heard_items o) e ∙ append-nil (handled h n)

-- a node that keeps its stream listens as before
listens_as : (h : List Step) (n : ℕ) (old new : NodeState) → new.held ≡ old.held → new.is_bad ≡ old.is_bad → Listens h n old
    → Listens h n new
listens_as h n old new held_is bad_is l = record {
  bad_is = bad_is ∙ l.bad_is;
  held_is = λ good. l.held_is good ∙ ap (λ x. flat_map message_text (handled h n) ++ x) (sym held_is);
  each = l.each;
}

-- what holds of a node that was set, and of the others, holds of all
pub at_places : (nodes : List NodeState) (p : ℕ) (new : NodeState) (Q : ℕ → NodeState → Type 0) → p < length nodes → Q p new
    → ((n : ℕ) (e : NodeState) → n < length nodes → n ≢ p → Q n (get_or nodes n e)) → (n : ℕ) (e : NodeState)
    → n < length nodes → Q n (get_or (set nodes p new) n e)
at_places nodes p new Q low here others n e n_low = by (p == n) refl
  where
    differ : (a b : ℕ) → (a == b) ≡ false → a ≢ b
    differ a b t same =
        let u : true ≡ false = sym (eqb_refl a) ∙ ap (λ q. a == q) same ∙ t in
        cc

    by : (b : Bool) → (p == n) ≡ b → Q n (get_or (set nodes p new) n e)
    by true t =
        let same_place : p ≡ n = eqb-true p n t in
        let place : get_or (set nodes p new) n e ≡ new = ap (λ k. get_or (set nodes p new) k e) (sym same_place)
        ∙ get_or-set_same nodes p new e low in
        subst (Q n) (sym place) (subst (λ k. Q k new) same_place here)
    by false t =
        let other : n ≢ p = λ same. differ p n t (sym same) in
        subst (Q n) (sym (get_or-set_other nodes p n new e other)) (others n e n_low other)

module _ (d : Declaration) (at : Places) (h : List Step) (c : Command) (r : Reply) (stand : StandAt d at h)
    (same : declared_by r (declaration h) ≡ declaration h) where
  keeps : (n : ℕ) (node : NodeState) → delivers c r n ≡ [] → gets c r n ≡ None → KnowsThese d (known h n) node
      → KnowsThese d (known (step c r ∷ h) n) node
  keeps n node e f k = record { schema_is = k.schema_is; view_is = k.view_is ∙ ap view_of (sym (untold h c r n e f)) }

  holds : (k : ℕ) (bytes : List ℕ) → puts c r k ≡ None → bytes ≡ slot_file d h k → bytes ≡ slot_file d (step c r ∷ h) k
  holds k bytes e x = x ∙ ap (λ o. file_if (is_put_by o (is_put h k)) d (replaced o (λ n. known h n) (held h k))) (sym e)

  -- what a slot holds stays sound, whatever was put
  slots_sound : (k : ℕ) → HoldRecords d (held (step c r ∷ h) k)
  slots_sound k = by (puts c r k)
    where
      by : (o : Option ℕ) → HoldRecords d (replaced o (λ n. known h n) (held h k))
      by None = stand.sound_slots k
      by (Some n) = stand.sound n

  nodes_sound : (n : ℕ) → delivers c r n ≡ [] → gets c r n ≡ None → HoldRecords d (known (step c r ∷ h) n)
  nodes_sound n e f = subst (HoldRecords d) (sym (untold h c r n e f)) (stand.sound n)

  -- no node was told anything
  pub stand_quiet : IsQuiet c r → StandAt d at (step c r ∷ h)
  stand_quiet quiet = record {
    declared = same ∙ stand.declared;
    count = stand.count;
    slot_number = stand.slot_number;
    node = λ n e low. keeps (n + 1) (get_or at.nodes n e) (quiet.delivers_none (n + 1)) (quiet.gets_none (n + 1)) (stand.node n e low);
    listens = λ n e low. listens_still h c r (n + 1) (get_or at.nodes n e) (quiet.hears_none (n + 1)) (stand.listens n e low);
    slot = λ k e low. holds (k + 1) (get_or at.slots k e) (quiet.puts_none (k + 1)) (stand.slot k e low);
    sound = λ n. nodes_sound n (quiet.delivers_none n) (quiet.gets_none n);
    sound_slots = slots_sound;
  }

  -- one node learned these items, and the others nothing
  pub stand_told : (p : ℕ) (items : List Item) (old new : NodeState) → p < node_count → old ≡ get_or at.nodes p old
      → new ≡ record old { view = join old.view (view_of items) } → HoldRecords d items
      → known (step c r ∷ h) (p + 1) ≡ known h (p + 1) ++ items → ((n : ℕ) → n ≢ p + 1 → delivers c r n ≡ [])
      → ((n : ℕ) → n ≢ p + 1 → gets c r n ≡ None) → ((k : ℕ) → puts c r k ≡ None) → ((n : ℕ) → heard c r n ≡ None)
      → StandAt d (places (set at.nodes p new) at.slots) (step c r ∷ h)
  stand_told p items old new low was is sound_items here quiet quiet_gets quiet_puts deaf = record {
    declared = same ∙ stand.declared;
    count = length-set at.nodes p new ∙ stand.count;
    slot_number = stand.slot_number;
    node = λ n e n_low. at_node n e n_low (p == n) refl;
    listens = λ n e n_low.
        at_places at.nodes p new (λ m node. Listens (step c r ∷ h) (m + 1) node) (omega (arith, stand.count))
        (listens_still h c r (p + 1) new (deaf (p + 1)) (listens_as h (p + 1) old new (ap (λ (x : NodeState). x.held) is)
        (ap (λ (x : NodeState). x.is_bad) is) (subst (Listens h (p + 1)) (sym was) (stand.listens p old low))))
        (λ m x m_low other. listens_still h c r (m + 1) (get_or at.nodes m x) (deaf (m + 1))
        (stand.listens m x (omega (arith, stand.count, m_low))))
        n e (omega (arith, stand.count, n_low));
    slot = λ k e low. holds (k + 1) (get_or at.slots k e) (quiet_puts (k + 1)) (stand.slot k e low);
    sound = λ n. sound_at n (p + 1 == n) refl;
    sound_slots = slots_sound;
  }
    where
      differ : (p n : ℕ) → (p == n) ≡ false → p ≢ n
      differ p n t same =
          let u : true ≡ false = sym (eqb_refl p) ∙ ap (λ q. p == q) same ∙ t in
          cc

      sound_at : (n : ℕ) → (b : Bool) → (p + 1 == n) ≡ b → HoldRecords d (known (step c r ∷ h) n)
      sound_at n true t =
          let same_node : p + 1 ≡ n = eqb-true (p + 1) n t in
          subst (λ m. HoldRecords d (known (step c r ∷ h) m)) same_node
          (subst (HoldRecords d) (sym here) (sound_both d (known h (p + 1)) items (stand.sound (p + 1)) sound_items))
      sound_at n false t = nodes_sound n (quiet n (λ e. differ (p + 1) n t (sym e))) (quiet_gets n (λ e. differ (p + 1) n t (sym e)))

      told : KnowsThese d (known (step c r ∷ h) (p + 1)) new
      told =
          let k = subst (KnowsThese d (known h (p + 1))) (sym was) (stand.node p old low) in
          record {
            schema_is = ap (λ (s : NodeState). s.schema) is ∙ k.schema_is;
            view_is = ap (λ (s : NodeState). s.view) is ∙ ap (λ v. join v (view_of items)) k.view_is
                ∙ sym (view_of_union (known h (p + 1)) items) ∙ ap view_of (sym here);
          }

      at_node : (n : ℕ) (e : NodeState) → n < node_count → (b : Bool) → (p == n) ≡ b
          → KnowsThese d (known (step c r ∷ h) (n + 1)) (get_or (set at.nodes p new) n e)
      at_node n e n_low true t =
          let same_place : p ≡ n = eqb-true p n t in
          let place : get_or (set at.nodes p new) n e ≡ new = ap (λ k. get_or (set at.nodes p new) k e) (sym same_place)
          ∙ get_or-set_same at.nodes p new e (omega (arith, stand.count)) in
          subst (KnowsThese d (known (step c r ∷ h) (n + 1))) (sym place)
          (subst (λ k. KnowsThese d (known (step c r ∷ h) (k + 1)) new) same_place told)
      at_node n e n_low false t =
          let other : n ≢ p = λ e. differ p n t (sym e) in
          subst (KnowsThese d (known (step c r ∷ h) (n + 1))) (sym (get_or-set_other at.nodes p n new e other))
          (keeps (n + 1) (get_or at.nodes n e) (quiet (n + 1) (omega arith)) (quiet_gets (n + 1) (omega arith)) (stand.node n e n_low))

  -- one slot was put from a node
  pub stand_put : (p q : ℕ) (node : NodeState) (bytes : List ℕ) → p < node_count → q < slot_count
      → node ≡ get_or at.nodes p node → bytes ≡ file_of node.schema node.view → puts c r (q + 1) ≡ Some (p + 1)
      → ((k : ℕ) → k ≢ q + 1 → puts c r k ≡ None) → ((n : ℕ) → delivers c r n ≡ []) → ((n : ℕ) → gets c r n ≡ None)
      → ((n : ℕ) → heard c r n ≡ None) → StandAt d (places at.nodes (set at.slots q bytes)) (step c r ∷ h)
  stand_put p q node bytes p_low q_low was is here quiet quiet_items quiet_gets deaf = record {
    declared = same ∙ stand.declared;
    count = stand.count;
    slot_number = length-set at.slots q bytes ∙ stand.slot_number;
    node = λ n e low. keeps (n + 1) (get_or at.nodes n e) (quiet_items (n + 1)) (quiet_gets (n + 1)) (stand.node n e low);
    listens = λ n e low. listens_still h c r (n + 1) (get_or at.nodes n e) (deaf (n + 1)) (stand.listens n e low);
    slot = λ k e low. at_slot k e low (q == k) refl;
    sound = λ n. nodes_sound n (quiet_items n) (quiet_gets n);
    sound_slots = slots_sound;
  }
    where
      differ : (p n : ℕ) → (p == n) ≡ false → p ≢ n
      differ p n t same =
          let u : true ≡ false = sym (eqb_refl p) ∙ ap (λ q. p == q) same ∙ t in
          cc

      put : bytes ≡ slot_file d (step c r ∷ h) (q + 1)
      put =
          let k = subst (KnowsThese d (known h (p + 1))) (sym was) (stand.node p node p_low) in
          is ∙ ap (λ s. file_of s node.view) k.schema_is ∙ ap (file_of d) k.view_is
          ∙ ap (λ o. file_if (is_put_by o (is_put h (q + 1))) d (replaced o (λ n. known h n) (held h (q + 1)))) (sym here)

      at_slot : (k : ℕ) (e : List ℕ) → k < slot_count → (b : Bool) → (q == k) ≡ b → get_or (set at.slots q bytes) k e
          ≡ slot_file d (step c r ∷ h) (k + 1)
      at_slot k e k_low true t =
          let same_place : q ≡ k = eqb-true q k t in
          let place : get_or (set at.slots q bytes) k e ≡ bytes =
          ap (λ j. get_or (set at.slots q bytes) j e) (sym same_place) ∙ get_or-set_same at.slots q bytes e
          (omega (arith, stand.slot_number)) in
          place ∙ put ∙ ap (λ j. slot_file d (step c r ∷ h) (j + 1)) same_place
      at_slot k e k_low false t =
          let other : k ≢ q = λ e. differ q k t (sym e) in
          get_or-set_other at.slots q k bytes e other
          ∙ holds (k + 1) (get_or at.slots k e) (quiet (k + 1) (omega arith)) (stand.slot k e k_low)

-- what the node of a command answers is what the history allows
pub node_answers : (d : Declaration) (at : Places) (h : List Step) (n p : ℕ) (node : NodeState) (A : Declaration → View
    → Type 0) → StandAt d at h → p < node_count → node ≡ get_or at.nodes p node → p + 1 ≡ n → A node.schema node.view
    → A d (view_of (known h n))
node_answers d at h n p node A stand low is place a =
    let k = subst (KnowsThese d (known h (p + 1))) (sym is) (stand.node p node low) in
    subst (λ n. A d (view_of (known h n))) place (subst (λ v. A d v) k.view_is (subst (λ s. A s node.view) k.schema_is a))

-- an answer under the declaration in force
pub under : (d : Declaration) (h : List Step) (c : Command) (r : Reply) → declaration h ≡ Some d
    → AnswersUnder (Some d) h c r → Answers h c r
under d h c r is a = inl (subst (λ o. AnswersUnder o h c r) (sym is) a)
