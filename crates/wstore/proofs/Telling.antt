-- Commands that a session answers.
use Rattle.std.proofs.Common.{◌≡◌, ◌≢◌, ℕ, ◌+◌, ◌<◌, true, false, List, [], ◌∷◌, length, replicate, Option, None, Some, is_some}
use Rattle.std.proofs.Common.{nat_lt, Ok, Err, refl, sym, ap, ◌∙◌, subst, inl, inr, arith, ◌++◌, ◌||◌, append-nil}
use Rattle.std.proofs.lemmas.List.{length-replicate, get_or-replicate}
use Rattle.std.proofs.lemmas.Bool.Decides.{nat_tests}
use Rattle.std.specs.FinMap as map
use Rattle.wsegment.specs.Declaration.{Declaration}
use Rattle.wsegment.specs.Spelling.{ReadsDeclaration}
use Rattle.wsegment.specs.declared.schema_fault.SchemaFault.{SchemaFault}
use Rattle.wsegment.specs.declared.schema_fault.SchemaFault.TheVariants as tables
use Rattle.wsegment.specs.Rows.{rows_of}
use Rattle.wsegment.specs.declared.fault.SegmentFault.TheVariants as segments
use Rattle.wvalues.specs.declared.name.NameFault.{NameFault}
use Rattle.std.specs.List.{flat_map, AllByRecursion}
use Rattle.wstream.specs.Messages.{IsMessage, message_text}
use Rattle.wset.specs.Items.{view_of}
use Rattle.wstore.specs.Nodes.{NodeState, fresh_node}
use Rattle.wscript.specs.Commands.{Command, Declare, Take, Retire, RetireTo, Listing, Ask, Feed}
use Rattle.wscript.specs.Commands.{Put, Get, IsAllowed, longest_segment, node_count, slot_count}
use Rattle.wstore.specs.Replies.{Reply, Declared, RefusedTable, RefusedName, RefusedSegment, RefusedQuery, NoMemory, text_of}
use Rattle.wreplies.specs.Spelling.{table_text, name_text, segment_text, query_text, no_memory}
use Rattle.wscript.specs.Requests.{IsRefusedAs}
use Rattle.wstore.specs.History.{Step, AnswersUnder, MayLackMemory, declaration, declared_by, is_declared}
use Rattle.wstore.specs.History.{is_put, is_put_by, held, known, puts, replaced, file_if, heard, heard_items}
use Rattle.wstore.specs.History.{heard_bad, entered, stream, handled, is_bad, segment_reply}
use Rattle.wstore.specs.Standing.{KnowsThese, HoldRecords, Listens, Places, StandAt, places}
use Rattle.wplanner.specs.declared.fault.AskFault.TheVariants as queries
use Rattle.wscript.specs.declared.request.Refusal.{Refusal}
use Rattle.wscript.specs.declared.request.Refusal.TheVariants as refusals
use Rattle.wstore.proofs.Soundness.{nothing_known, sound_nothing}
use Rattle.wstore.proofs.Standing.{IsQuiet, stand_quiet, untold, or_none, listens_still}
use Rattle.wstore.specs.Sessions.{ClusterStands, IsSilent, Stands, RepliesWith, refusal_text}
use Rattle.wstore.specs.declared.session.Session.{Session}

none_of : (o : Option Declaration) → is_some o ≡ false → o ≡ None
none_of None e = refl
none_of (Some d) e = cc

-- where nothing is declared, nothing is known or put
nothing_yet : (cluster : Option Places) (h : List Step) → is_declared h ≡ false → ClusterStands cluster h
    → ((n : ℕ) → known h n ≡ []) × ((k : ℕ) → is_put h k ≡ false) × ((n : ℕ) → IsSilent h n)
nothing_yet None h e stands = (stands.1, stands.2, stands.3)
nothing_yet (Some cluster) h e stands = let wrong : true ≡ false = sym (ap (λ o. is_some o) (stands.1.declared)) ∙ e in cc

abbrev fresh : Declaration → NodeState
fresh d = fresh_node d map.empty

-- a node that was fed nothing, and is fed nothing
silent_still : (h : List Step) (c : Command) (r : Reply) (n : ℕ) → heard c r n ≡ None → IsSilent h n
    → IsSilent (record { command = c; reply = r } ∷ h) n
silent_still h c r n e s = (
  ap (λ o. is_bad h n || heard_bad o) e ∙ or_none (is_bad h n) ∙ s.0,
  ap (λ o. stream h n ++ entered (is_bad h n) o) e ∙ append-nil (stream h n) ∙ s.1,
  ap (λ o. handled h n ++ heard_items o) e ∙ append-nil (handled h n) ∙ s.2,
)

silent_listens : (d : Declaration) (h : List Step) (n : ℕ) → IsSilent h n → Listens h n (fresh_node d map.empty)
silent_listens d h n s = record {
  bad_is = sym s.0;
  held_is = λ good. s.1 ∙ sym (ap (λ l. flat_map message_text l ++ []) s.2);
  each = subst (AllByRecursion IsMessage) (sym s.2) tt;
}

-- a step by which no node is told anything, nothing is put, and nothing is declared
pub stands_untold : (cluster : Option Places) (h : List Step) (c : Command) (r : Reply) → ClusterStands cluster h
    → declared_by r (declaration h) ≡ declaration h → IsQuiet c r → ClusterStands cluster (record { command = c; reply = r } ∷ h)
stands_untold None h c r stands same quiet = (
  same ∙ stands.0,
  λ n. untold h c r n (quiet.delivers_none n) (quiet.gets_none n) ∙ stands.1 n,
  λ k. ap (λ o. is_put_by o (is_put h k)) (quiet.puts_none k) ∙ stands.2 k,
  λ n. silent_still h c r n
      (quiet.hears_none n) (stands.3 n),
)
stands_untold (Some cluster) h c r stands same quiet = (stands.0, stand_quiet stands.0 cluster h c r stands.1 same quiet)

-- a slot that was not put holds nothing
holds_none : (h : List Step) (k : ℕ) → is_put h k ≡ false → held h k ≡ []
holds_none [] k e = refl
holds_none (s ∷ h) k e = by (puts s.command s.reply k) e (holds_none h k)
  where
    by : (o : Option ℕ) → is_put_by o (is_put h k) ≡ false → (is_put h k ≡ false → held h k ≡ [])
        → replaced o (λ n. known h n) (held h k) ≡ []
    by None e rest = rest e
    by (Some n) e rest = cc

-- nodes that know nothing and slots that hold nothing, where nothing is known or put
fresh_stand : (d : Declaration) (h : List Step) (c : Command) (r : Reply) (k j : ℕ) → k ≡ node_count → j ≡ slot_count
    → declared_by r (declaration h) ≡ Some d → IsQuiet c r → ((n : ℕ) → known h n ≡ []) → ((k : ℕ) → is_put h k ≡ false)
    → ((n : ℕ) → IsSilent h n) → StandAt d (places (replicate k (fresh d)) (replicate j [])) (record { command = c; reply = r } ∷ h)
fresh_stand d h c r k j is js declared quiet none unput silent = record {
  declared = declared;
  count = length-replicate {A = NodeState} k (fresh d) ∙ is;
  slot_number = length-replicate {A = List ℕ} j [] ∙ js;
  node = λ n x low.
      subst (KnowsThese d (known (record { command = c; reply = r } ∷ h) (n + 1)))
      (sym (get_or-replicate {A = NodeState} k n (fresh d) x (omega (arith, is))))
      (record {
        schema_is = refl;
        view_is =
            nothing_known ∙ sym (ap view_of (untold h c r (n + 1) (quiet.delivers_none (n + 1)) (quiet.gets_none (n + 1)) ∙ none (n + 1)));
      });
  slot = λ n x low.
      get_or-replicate {A = List ℕ} j n [] x (omega (arith, js))
      ∙ sym (ap (λ b. file_if b d (held (record { command = c; reply = r } ∷ h) (n + 1))) (still_unput (n + 1)));
  listens = λ n x low.
      subst (Listens (record { command = c; reply = r } ∷ h) (n + 1))
      (sym (get_or-replicate {A = NodeState} k n (fresh d) x (omega (arith, is))))
      (listens_still h c r (n + 1) (fresh d) (quiet.hears_none (n + 1)) (silent_listens d h (n + 1) (silent (n + 1))));
  sound = λ n. subst (HoldRecords d) (sym (untold h c r n (quiet.delivers_none n) (quiet.gets_none n) ∙ none n)) (sound_nothing d);
  sound_slots = λ n. subst (HoldRecords d) (sym (holds_none (record { command = c; reply = r } ∷ h) n (still_unput n))) (sound_nothing d);
}
  where
    still_unput : (n : ℕ) → is_put (record { command = c; reply = r } ∷ h) n ≡ false
    still_unput n = ap (λ o. is_put_by o (is_put h n)) (quiet.puts_none n) ∙ unput n

pub declares : (session : Session) (new : Places) (h : List Step) (bytes : List ℕ) (d : Declaration) → is_declared h ≡ false
    → Stands session h → ReadsDeclaration bytes (Ok d) → new ≡ places (replicate node_count (fresh_node d map.empty))
    (replicate slot_count []) → RepliesWith (record session { cluster = Some new }) h (Declare bytes) (111 ∷ 107 ∷ 10 ∷ [])
declares session new h bytes d e stands reads is =
    let none = nothing_yet session.cluster h e stands in
    let s : Step = record { command = Declare bytes; reply = Declared d } in
    record {
      reply = Declared d;
      answers = inl (subst (λ o. AnswersUnder o h (Declare bytes) (Declared d)) (sym (none_of (declaration h) e)) reads);
      text_is = refl;
      stands = (
        d,
        subst (λ at. StandAt d at (s ∷ h)) (sym is)
            (fresh_stand d h (Declare bytes) (Declared d) node_count slot_count refl refl refl (record {
              delivers_none =
                  λ n. refl;
              gets_none = λ n. refl;
              puts_none = λ k. refl;
              hears_none = λ n. refl;
            }) none.0 none.1 none.2),
      );
    }

pub refuses_table : (session : Session) (h : List Step) (bytes text : List ℕ) (fault : SchemaFault) → is_declared h ≡ false
    → Stands session h → ReadsDeclaration bytes (Err fault) → fault ≢ tables.NoMemory → text ≡ table_text fault
    → RepliesWith session h (Declare bytes) text
refuses_table session h bytes text fault e stands reads judged text_is = record {
  reply = RefusedTable fault;
  answers = inl (subst (λ o. AnswersUnder o h (Declare bytes) (RefusedTable fault)) (sym (none_of (declaration h) e)) (judged, reads));
  text_is = text_is;
  stands = stands_untold session.cluster h (Declare bytes) (RefusedTable fault) stands refl (record {
    delivers_none =
        λ n. refl;
    gets_none = λ n. refl;
    puts_none = λ k. refl;
    hears_none = λ n. refl;
  });
}

-- a command that may find no memory
pub finds_no_memory : (session : Session) (h : List Step) (c : Command) → MayLackMemory h c → Stands session h
    → RepliesWith session h c no_memory
finds_no_memory session h c may stands = record {
  reply = NoMemory;
  answers = inr (may, refl);
  text_is = refl;
  stands = stands_untold session.cluster h c NoMemory stands refl (quiet c);
}
  where
    quiet : (c : Command) → IsQuiet c NoMemory
    quiet (Declare bytes) = record { delivers_none = λ n. refl; gets_none = λ n. refl; puts_none = λ k. refl; hears_none = λ n. refl }
    quiet (Take m o k bytes) = record { delivers_none = λ n. refl; gets_none = λ n. refl; puts_none = λ k. refl; hears_none = λ n. refl }
    quiet (Retire m o k) = record { delivers_none = λ n. refl; gets_none = λ n. refl; puts_none = λ k. refl; hears_none = λ n. refl }
    quiet (RetireTo m o k) = record { delivers_none = λ n. refl; gets_none = λ n. refl; puts_none = λ k. refl; hears_none = λ n. refl }
    quiet (Listing m) = record { delivers_none = λ n. refl; gets_none = λ n. refl; puts_none = λ k. refl; hears_none = λ n. refl }
    quiet (Ask m text) = record { delivers_none = λ n. refl; gets_none = λ n. refl; puts_none = λ k. refl; hears_none = λ n. refl }
    quiet (Feed m p) = record { delivers_none = λ n. refl; gets_none = λ n. refl; puts_none = λ k. refl; hears_none = λ n. refl }
    quiet (Put m k) = record { delivers_none = λ n. refl; gets_none = λ n. refl; puts_none = λ k. refl; hears_none = λ n. refl }
    quiet (Get k m) = record { delivers_none = λ n. refl; gets_none = λ n. refl; puts_none = λ k. refl; hears_none = λ n. refl }

-- ---- commands that their form refuses

-- the declaration in force
pub record Under (h : List Step) : Type 0 where
  pub d : Declaration
  pub is : declaration h ≡ Some d

pub under : (h : List Step) → is_declared h ≡ true → Under h
under h e = by (declaration h) refl e
  where
    by : (o : Option Declaration) → declaration h ≡ o → is_some o ≡ true → Under h
    by None is e = cc
    by (Some d) is e = record { d = d; is = is }

node_tells : (session : Session) (h : List Step) (c : Command) (r : Reply) (text : List ℕ) → is_declared h ≡ true
    → Stands session h → ((d : Declaration) → AnswersUnder (Some d) h c r) → declared_by r (declaration h) ≡ declaration h
    → IsQuiet c r → text ≡ text_of r → RepliesWith session h c text
node_tells session h c r text e stands answers same quiet text_is =
    let u = under h e in
    record {
      reply = r;
      answers = inl (subst (λ o. AnswersUnder o h c r) (sym u.is) (answers u.d));
      text_is = text_is;
      stands = stands_untold session.cluster h c r stands same quiet;
    }

pub long_declaration : (session : Session) (h : List Step) (c : Command) → IsRefusedAs refusals.LongDeclaration c
    → IsAllowed (is_declared h) c → Stands session h → RepliesWith session h c (table_text tables.Syntax)
long_declaration session h (Declare bytes) long allowed stands =
    refuses_table session h bytes (table_text tables.Syntax) tables.Syntax allowed stands
    (λ d spells. omega (arith, long, spells.short)) (λ e. cc) refl
long_declaration session h (Take n o m bytes) long allowed stands = absurd long
long_declaration session h (Retire n o m) long allowed stands = absurd long
long_declaration session h (RetireTo n o m) long allowed stands = absurd long
long_declaration session h (Listing n) long allowed stands = absurd long
long_declaration session h (Ask n text) long allowed stands = absurd long
long_declaration session h (Feed m s) long allowed stands = absurd long
long_declaration session h (Put m s) long allowed stands = absurd long
long_declaration session h (Get s m) long allowed stands = absurd long

pub bad_name : (session : Session) (h : List Step) (c : Command) (fault : NameFault)
    → IsRefusedAs (refusals.BadName fault) c → IsAllowed (is_declared h) c → Stands session h → RepliesWith session h c (name_text fault)
bad_name session h (Declare bytes) fault named allowed stands = absurd named
bad_name session h (Take n o m bytes) fault named allowed stands =
    node_tells session h (Take n o m bytes) (RefusedName fault) (name_text fault) allowed stands
    (λ d. (Err fault, named, refl)) refl (record {
      delivers_none = λ n. refl;
      gets_none = λ n. refl;
      puts_none =
          λ k. refl;
      hears_none = λ n. refl;
    }) refl
bad_name session h (Retire n o m) fault named allowed stands =
    node_tells session h (Retire n o m) (RefusedName fault) (name_text fault) allowed stands (λ d. (Err fault, named, refl))
    refl (record { delivers_none = λ n. refl; gets_none = λ n. refl; puts_none = λ k. refl; hears_none = λ n. refl }) refl
bad_name session h (RetireTo n o m) fault named allowed stands =
    node_tells session h (RetireTo n o m) (RefusedName fault) (name_text fault) allowed stands
    (λ d. (Err fault, named, refl)) refl (record {
      delivers_none = λ n. refl;
      gets_none = λ n. refl;
      puts_none =
          λ k. refl;
      hears_none = λ n. refl;
    }) refl
bad_name session h (Listing n) fault named allowed stands = absurd named
bad_name session h (Ask n text) fault named allowed stands = absurd named
bad_name session h (Feed m s) fault named allowed stands = absurd named
bad_name session h (Put m s) fault named allowed stands = absurd named
bad_name session h (Get s m) fault named allowed stands = absurd named

less : (a b : ℕ) → a < b → nat_lt a b ≡ true
less a b h = grind (arith, nat_tests)

too_long : (d : Declaration) (bytes : List ℕ) → longest_segment < length bytes → rows_of d bytes ≡ Err segments.TooLong
unfolding rows_of
too_long d bytes h = rw (less longest_segment (length bytes) h) refl

pub long_segment : (session : Session) (h : List Step) (c : Command) → IsRefusedAs refusals.LongSegment c
    → IsAllowed (is_declared h) c → Stands session h → RepliesWith session h c (segment_text segments.TooLong)
long_segment session h (Declare bytes) long allowed stands = absurd long
long_segment session h (Take n o m bytes) long allowed stands =
    node_tells session h (Take n o m bytes) (RefusedSegment segments.TooLong) (segment_text segments.TooLong) allowed stands
    (λ d. (Ok long.0, long.1, ap (λ r. segment_reply r (view_of (known h n)) long.0 bytes) (sym (too_long d bytes long.2))))
    refl (record { delivers_none = λ n. refl; gets_none = λ n. refl; puts_none = λ k. refl; hears_none = λ n. refl }) refl
long_segment session h (Retire n o m) long allowed stands = absurd long
long_segment session h (RetireTo n o m) long allowed stands = absurd long
long_segment session h (Listing n) long allowed stands = absurd long
long_segment session h (Ask n text) long allowed stands = absurd long
long_segment session h (Feed m s) long allowed stands = absurd long
long_segment session h (Put m s) long allowed stands = absurd long
long_segment session h (Get s m) long allowed stands = absurd long

pub long_query : (session : Session) (h : List Step) (c : Command) → IsRefusedAs refusals.LongQuery c
    → IsAllowed (is_declared h) c → Stands session h → RepliesWith session h c (query_text queries.TooLong)
long_query session h (Declare bytes) long allowed stands = absurd long
long_query session h (Take n o m bytes) long allowed stands = absurd long
long_query session h (Retire n o m) long allowed stands = absurd long
long_query session h (RetireTo n o m) long allowed stands = absurd long
long_query session h (Listing n) long allowed stands = absurd long
long_query session h (Feed n k) long allowed stands = absurd long
long_query session h (Put n k) long allowed stands = absurd long
long_query session h (Get k n) long allowed stands = absurd long
long_query session h (Ask n text) long allowed stands =
    node_tells session h (Ask n text) (RefusedQuery queries.TooLong) (query_text queries.TooLong) allowed stands
    (λ d. (Err queries.TooLong, inl long, refl)) refl (record {
      delivers_none = λ n. refl;
      gets_none = λ n. refl;
      puts_none = λ k. refl;
      hears_none = λ n. refl;
    }) refl

-- a command that its form refuses
pub refused : (reason : Refusal) (session : Session) (h : List Step) (c : Command) → IsRefusedAs reason c
    → IsAllowed (is_declared h) c → Stands session h → RepliesWith session h c (refusal_text reason)
refused refusals.LongDeclaration session h c is allowed stands = long_declaration session h c is allowed stands
refused (refusals.BadName fault) session h c is allowed stands = bad_name session h c fault is allowed stands
refused refusals.LongSegment session h c is allowed stands = long_segment session h c is allowed stands
refused refusals.LongQuery session h c is allowed stands = long_query session h c is allowed stands
