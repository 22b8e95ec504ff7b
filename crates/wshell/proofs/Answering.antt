-- The replies to texts, one after the other.
use Rattle.std.proofs.Common.{◌≡◌, ◌⊎◌, inl, inr, ◌∙◌, ◌||◌, ℕ, ◌+◌, ◌<◌, ◌≤◌, Bool, true, false, List}
use Rattle.std.proofs.Common.{[], ◌∷◌, ◌++◌, length, take, min, Option, Result, Ok, Err, IfErr, OnErr, OnOk}
use Rattle.std.proofs.Common.{refl, sym, ap, subst, arith, append_assoc, append-nil, length-take}
use Rattle.std.specs.Prelude.{is_err}
use Rattle.std.specs.List.{flat_map, list_any}
use Rattle.std.specs.Io.KnownBytes.{Appends}
use Rattle.std.proofs.KnownBytes.{Appends-trans}
use Rattle.std.proofs.Math.Seq.{take-append-add}
use Rattle.std.proofs.lemmas.Bool.{cases_lt}
use Rattle.std.proofs.lemmas.Grind.{flat_map-append}
use Rattle.std.proofs.lemmas.List.{take_all}
use Rattle.std.proofs.lemmas.List.Folds.{list_any-append}
use Rattle.wsegment.specs.Declaration.{Declaration}
use Rattle.wset.specs.Views.{View}
use Rattle.wask.specs.Answer.{IsAnswer}
use Rattle.wplanner.specs.declared.fault.AskFault.{AskFault}
use Rattle.wplanner.specs.declared.fault.AskFault.TheVariants as faults
use Rattle.wvalues.specs.Counts.{Counts}
use Rattle.wact.specs.Queries.{IsReply, next_reply_text, replies_text, reply_text}
use Rattle.wshell.specs.declared.fault.ShellFault.{ShellFault}
use Rattle.wshell.specs.declared.fault.ShellFault.TheVariants as ends
use Rattle.wshell.specs.declared.replying.Replied.{Replied}
use Rattle.wshell.specs.Pending.{room}
use Rattle.wshell.specs.Replying.{Answered, AreReplies, Front, HasReplyCause, IsBlank, Passed, RepliesOne, RepliesPart, Unanswered}
use Rattle.wshell.specs.Replying.{reply_behind}
use Rattle.wshell.specs.Runs.{FrontSoFar, SoFar, has_any}

abbrev Answer : Type 0
Answer = Result (List ℕ) AskFault

-- ---- the reply to one text

abbrev replied_any : Bool → Replied
replied_any b = record { is_any = true; is_refused = b }

module _ (d : Declaration) (v : View) (text bytes : List ℕ) (old new : Option (List ℕ)) (replied new_replied : Replied)
    (is_refused : Bool) (filled : ¬ (IsBlank text)) (reply : IsReply d v text bytes is_refused) where
  pub replied_whole : {A : Type 0} (r : Result A ShellFault) → OnOk r (Appends old new (reply_behind replied.is_any bytes)
      × (new_replied ≡ record { is_any = true; is_refused = replied.is_refused || is_refused }))
      → OnOk r (RepliesOne d v text old new replied new_replied)
  replied_whole (Ok x) w =
      Answered reply.answer filled reply.answers (subst (λ t. Appends old new (reply_behind replied.is_any t)) reply.text_is w.0)
      (w.1 ∙ ap (λ (b : Bool). replied_any (replied.is_refused || b)) reply.refused_is)
  replied_whole (Err e) w = tt

  pub replied_part : {A : Type 0} (r : Result A ShellFault)
      → IfErr r (λ e. e ≡ ends.Write) → OnErr r ((n : ℕ) × Appends old new (take n (reply_behind replied.is_any bytes)))
      → IfErr r (RepliesPart d v text old new replied)
  replied_part (Ok x) failed w = tt
  replied_part (Err e) failed w = Front reply.answer w.0 failed filled reply.answers
      (subst (λ t. Appends old new (take w.0 (reply_behind replied.is_any t))) reply.text_is w.1)

pub reply_cause : {A W : Type 0} (r : Result A ShellFault) (output : Counts W) → OnErr r (output.failures ≡ 1)
    → IfErr r (λ e. e ≡ ends.Write) → IfErr r (λ fault. HasReplyCause fault output)
reply_cause (Ok x) output failed is = tt
reply_cause {W = W} (Err e) output failed is = subst (λ (f : ShellFault). HasReplyCause {W = W} f output) (sym is) failed

-- ---- one text more

pub passed_last : (d : Declaration) (v : View) (texts : List (List ℕ)) (answers : List Answer) (text : List ℕ)
    → IsBlank text → AreReplies d v texts answers → AreReplies d v (texts ++ text ∷ []) answers
passed_last d v [] [] text blank t = (blank, tt)
passed_last d v [] (a ∷ more) text blank t = absurd t
passed_last d v (s ∷ ss) [] text blank t = (t.0, passed_last d v ss [] text blank t.1)
passed_last d v (s ∷ ss) (a ∷ more) text blank (inl t) = inl (t.0, passed_last d v ss (a ∷ more) text blank t.1)
passed_last d v (s ∷ ss) (a ∷ more) text blank (inr t) = inr (t.0, t.1, passed_last d v ss more text blank t.2)

pub replied_last : (d : Declaration) (v : View) (texts : List (List ℕ)) (answers : List Answer) (text : List ℕ)
    (answer : Answer) → ¬ (IsBlank text) → IsAnswer d v text answer → AreReplies d v texts answers
    → AreReplies d v (texts ++ text ∷ []) (answers ++ answer ∷ [])
replied_last d v [] [] text answer filled is t = inr (filled, is, tt)
replied_last d v [] (a ∷ more) text answer filled is t = absurd t
replied_last d v (s ∷ ss) [] text answer filled is t = inl (t.0, replied_last d v ss [] text answer filled is t.1)
replied_last d v (s ∷ ss) (a ∷ more) text answer filled is (inl t) = inl (t.0, replied_last d v ss (a ∷ more) text answer filled is t.1)
replied_last d v (s ∷ ss) (a ∷ more) text answer filled is (inr t) = inr (t.0, t.1, replied_last d v ss more text answer filled is t.2)

replies_last : (answers : List Answer) (answer : Answer)
    → replies_text answers ++ reply_behind (has_any answers) (reply_text answer) ≡ replies_text (answers ++ answer ∷ [])
replies_last [] answer = sym (append-nil (reply_text answer))
replies_last (a ∷ more) answer =
    append_assoc (reply_text a) (flat_map next_reply_text more) (next_reply_text answer)
    ∙ ap (λ l. reply_text a ++ l) (
    ap (λ l. flat_map next_reply_text more ++ l) (sym (append-nil (next_reply_text answer)))
    ∙ sym (flat_map-append next_reply_text more (answer ∷ [])))

any_last : (answers : List Answer) (answer : Answer) → true ≡ has_any (answers ++ answer ∷ [])
any_last [] answer = refl
any_last (a ∷ more) answer = refl

or_false : (b : Bool) → b ≡ (b || false)
or_false true = refl
or_false false = refl

refused_last : (answers : List Answer) (answer : Answer) → (list_any is_err answers || is_err answer)
    ≡ list_any is_err (answers ++ answer ∷ [])
refused_last answers answer =
    ap (λ b. list_any is_err answers || b) (or_false (is_err answer))
    ∙ sym (list_any-append is_err answers (answer ∷ []))

-- ---- a text of which the front is kept

kept_whole : (text : List ℕ) → length (take room text) ≤ 65536 → take room text ≡ text
kept_whole text few =
    let counted : length (take room text) ≡ min room (length text) = length-take room text in
    take_all room text (omega (arith, counted, few))

kept_long : (text : List ℕ) → 65536 < length (take room text) → 65536 < length text
kept_long text many =
    let counted : length (take room text) ≡ min room (length text) = length-take room text in
    omega (arith, counted, many)

too_many : (n : ℕ) → 65536 < n → n ≤ 65536 → ⊥
too_many n many few = omega (arith, many, few)

long_answer : (d : Declaration) (v : View) (kept text : List ℕ) (answer : Answer) → 65536 < length kept
    → 65536 < length text → IsAnswer d v kept answer → IsAnswer d v text answer
long_answer d v kept text (Ok bytes) m l is = absurd (too_many (length kept) m is.1.0.0)
long_answer d v kept text (Err faults.NoMemory) m l is = absurd is
long_answer d v kept text (Err faults.TooLong) m l is = inl l
long_answer d v kept text (Err faults.NotUtf8) m l (inl is) = absurd (too_many (length kept) m is.0)
long_answer d v kept text (Err (faults.At place)) m l (inl is) = absurd (too_many (length kept) m is.0.0)
long_answer d v kept text (Err faults.Syntax) m l (inl is) = absurd (too_many (length kept) m is.0.0)
long_answer d v kept text (Err (faults.Broken rule)) m l (inl is) = absurd is
long_answer d v kept text (Err faults.OutOfRange) m l (inl is) = absurd is
long_answer d v kept text (Err faults.TooManyRows) m l (inl is) = absurd is
long_answer d v kept text (Err faults.NotUtf8) m l (inr is) = absurd (too_many (length kept) m is.1.0.0)
long_answer d v kept text (Err (faults.At place)) m l (inr is) = absurd (too_many (length kept) m is.1.0.0)
long_answer d v kept text (Err faults.Syntax) m l (inr is) = absurd (too_many (length kept) m is.1.0.0)
long_answer d v kept text (Err (faults.Broken rule)) m l (inr is) = absurd (too_many (length kept) m is.1.0.0)
long_answer d v kept text (Err faults.OutOfRange) m l (inr is) = absurd (too_many (length kept) m is.1.0.0)
long_answer d v kept text (Err faults.TooManyRows) m l (inr is) = absurd (too_many (length kept) m is.1.0.0)

-- the reply to what is kept is that to the text
one_whole : (d : Declaration) (v : View) (text : List ℕ) (old new : Option (List ℕ)) (replied new_replied : Replied)
    → RepliesOne d v (take room text) old new replied new_replied → RepliesOne d v text old new replied new_replied
one_whole d v text old new replied new_replied t = by t (cases_lt 65536 (length (take room text)))
  where
    by : RepliesOne d v (take room text) old new replied new_replied → (65536 < length (take room text))
        ⊎ (length (take room text) ≤ 65536) → RepliesOne d v text old new replied new_replied
    by t (inr few) = subst (λ k. RepliesOne d v k old new replied new_replied) (kept_whole text few) t
    by (Passed blank a e) (inl many) = absurd (too_many _ many blank.is_text.0)
    by (Answered answer filled is a e) (inl many) =
        Answered answer (λ (blank : IsBlank text). too_many _ (kept_long text many) blank.is_text.0)
        (long_answer d v _ text answer many (kept_long text many) is) a e

part_whole : (d : Declaration) (v : View) (text : List ℕ) (old new : Option (List ℕ)) (replied : Replied) (fault : ShellFault)
    → RepliesPart d v (take room text) old new replied fault → RepliesPart d v text old new replied fault
part_whole d v text old new replied fault t = by t (cases_lt 65536 (length (take room text)))
  where
    by : RepliesPart d v (take room text) old new replied fault
        → (65536 < length (take room text)) ⊎ (length (take room text) ≤ 65536) → RepliesPart d v text old new replied fault
    by t (inr few) = subst (λ k. RepliesPart d v k old new replied fault) (kept_whole text few) t
    by (Unanswered a) (inl many) = Unanswered a
    by (Front answer n failed filled is a) (inl many) =
        Front answer n failed (λ (blank : IsBlank text). too_many _ (kept_long text many) blank.is_text.0)
        (long_answer d v _ text answer many (kept_long text many) is) a

-- ---- a text behind others

module _ (d : Declaration) (v : View) (texts : List (List ℕ)) (text : List ℕ) (first old new : Option (List ℕ))
    (replied : Replied) (so_far : SoFar d v texts first old replied) where
  behind_them : (answer : Answer) (bytes : List ℕ) → Appends old new bytes → Appends first new (replies_text so_far.answers ++ bytes)
  behind_them answer bytes a = Appends-trans first old new (replies_text so_far.answers) bytes so_far.appends a

  pub one_more : (new_replied : Replied) → RepliesOne d v (take room text) old new replied new_replied
      → SoFar d v (texts ++ text ∷ []) first new new_replied
  one_more new_replied t = by (one_whole d v text old new replied new_replied t)
    where
      by : RepliesOne d v text old new replied new_replied → SoFar d v (texts ++ text ∷ []) first new new_replied
      by (Passed blank a e) = record {
        answers = so_far.answers;
        are = passed_last d v texts so_far.answers text blank so_far.are;
        appends = subst (Appends first new) (append-nil (replies_text so_far.answers))
            (Appends-trans first old new (replies_text so_far.answers) [] so_far.appends a);
        any_is = ap (λ (k : Replied). k.is_any) e ∙ so_far.any_is;
        refused_is = ap (λ (k : Replied). k.is_refused) e ∙ so_far.refused_is;
      }
      by (Answered answer filled is a e) = record {
        answers = so_far.answers ++ answer ∷ [];
        are = replied_last d v texts so_far.answers text answer filled is so_far.are;
        appends = subst (Appends first new)
            (ap (λ b. replies_text so_far.answers ++ reply_behind b (reply_text answer)) so_far.any_is ∙ replies_last so_far.answers answer)
            (Appends-trans first old new (replies_text so_far.answers) (reply_behind replied.is_any (reply_text answer)) so_far.appends a);
        any_is = ap (λ (k : Replied). k.is_any) e ∙ any_last so_far.answers answer;
        refused_is = ap (λ (k : Replied). k.is_refused) e ∙ ap (λ b. b || is_err answer) so_far.refused_is
            ∙ refused_last so_far.answers answer;
      }

  -- all replies before, where nothing of that to the text is written, else a front of it too
  pub one_part : (fault : ShellFault) → RepliesPart d v (take room text) old new replied fault
      → FrontSoFar d v texts first new fault ⊎ FrontSoFar d v (texts ++ text ∷ []) first new fault
  one_part fault t = by (part_whole d v text old new replied fault t)
    where
      all : take (length (replies_text so_far.answers)) (replies_text so_far.answers) ≡ replies_text so_far.answers
      all = take_all (length (replies_text so_far.answers)) (replies_text so_far.answers) (omega arith)

      by : RepliesPart d v text old new replied fault
          → FrontSoFar d v texts first new fault ⊎ FrontSoFar d v (texts ++ text ∷ []) first new fault
      by (Unanswered a) = inl (record {
        answers = so_far.answers;
        n = length (replies_text so_far.answers);
        are = so_far.are;
        appends = subst (Appends first new) (append-nil (replies_text so_far.answers) ∙ sym all)
            (Appends-trans first old new (replies_text so_far.answers) [] so_far.appends a);
        whole = λ other. all;
      })
      by (Front answer n failed filled is a) = inr (record {
        answers = so_far.answers ++ answer ∷ [];
        n = length (replies_text so_far.answers) + n;
        are = replied_last d v texts so_far.answers text answer filled is so_far.are;
        appends = subst (Appends first new)
            (sym (take-append-add (replies_text so_far.answers) (reply_behind replied.is_any (reply_text answer)) n)
            ∙ ap (take (length (replies_text so_far.answers) + n))
            (ap (λ b. replies_text so_far.answers ++ reply_behind b (reply_text answer)) so_far.any_is
            ∙ replies_last so_far.answers answer))
            (Appends-trans first old new (replies_text so_far.answers)
            (take n (reply_behind replied.is_any (reply_text answer))) so_far.appends a);
        whole = λ other. absurd (other failed);
      })

pub nothing_replied : (d : Declaration) (v : View) (first : Option (List ℕ)) (replied : Replied) → Appends first first []
    → replied.is_any ≡ false → replied.is_refused ≡ false → SoFar d v [] first first replied
nothing_replied d v first replied a any refused = record { answers = []; are = tt; appends = a; any_is = any; refused_is = refused }
