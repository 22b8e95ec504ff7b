-- A run, step by step.
use Rattle.std.proofs.Common.{◌≡◌, ℕ, List, [], ◌∷◌, ◌++◌, take, length, zero, suc, ◌⊎◌, arith, Option, None}
use Rattle.std.proofs.Common.{Some, IfSome, refl, sym, ap, ◌∙◌, subst, inl, inr, append_assoc, append-nil}
use Rattle.std.specs.Io.KnownBytes.{Appends, Consumes, prepend_known}
use Rattle.std.proofs.KnownBytes.{Appends-nil, Consumes-nil, Consumes-trans, Consumes-whole, Consumes-kept}
use Rattle.std.proofs.lemmas.List.{take_all}
use Rattle.wlines.specs.Sent.{Sent, Says}
use Rattle.wlines.proofs.Saying.{says_nothing, says_more, says_ended, says_all, says_begun}
use Rattle.std.specs.List.{flat_map}
use Rattle.wscript.specs.Commands.{IsCommand, IsMalformed, spell}
use Rattle.wstore.specs.History.{Step, Answers, is_declared}
use Rattle.wstore.specs.Replies.{text_of, line_text, bad_script}
use Rattle.wstore.specs.Runs.{Ran, asked, replied, RepliesDone, RepliesBad, RepliesBegun, Replies}
use Rattle.wstore.specs.Runs.{Stops, StopsRun, Begins, nothing, answer, lines, last}
use Rattle.wstore.specs.Sessions.{Stands}
use Rattle.wstore.specs.Steps.{StepsOn, StepEnds, StepFails}
use Rattle.wstore.specs.declared.script_run.End.{End}
use Rattle.wstore.specs.declared.script_run.End.TheVariants.{Done, Bad}
use Rattle.wstore.specs.declared.script_run.RunFault.{RunFault}
use Rattle.wstore.specs.declared.script_run.RunFault.TheVariants as faults
use Rattle.wstore.specs.declared.session.Session.{Session}
use Rattle.wscript.proofs.Spelling.{lift_front}

-- what a run has done so far: steps that consumed and wrote so much, and where they led
pub record SoFar (session : Session) (first left : Option (List ℕ)) (begun held : Sent) : Type 0 where
  pub steps : List Step
  pub history : List Step
  pub ran : Ran [] steps history
  pub stands : Stands session history
  pub consumed : Consumes first left (asked steps)
  pub written : Says begun held (replied steps)

pub none_so_far : (session : Session) (first : Option (List ℕ)) (begun : Sent) → Stands session [] → SoFar session first first begun begun
none_so_far session first begun stands = record {
  steps = [];
  history = [];
  ran = refl;
  stands = stands;
  consumed =
      Consumes-nil first;
  written = says_nothing begun;
}

Ran-more : (old mid : List Step) (xs : List Step) (s : Step) → Ran old xs mid → IsCommand (is_declared mid) s.command
    → Answers mid s.command s.reply → Ran old (xs ++ s ∷ []) (s ∷ mid)
Ran-more old mid [] s r is a = subst (λ h. IsCommand (is_declared h) s.command × Answers h s.command s.reply
    × (s ∷ mid ≡ s ∷ h)) r (is, a, refl)
Ran-more old mid (y ∷ ys) s r is a = (r.0, r.1, Ran-more (y ∷ old) mid ys s r.2 is a)

asked-more : (xs : List Step) (s : Step) → asked (xs ++ s ∷ []) ≡ asked xs ++ spell s.command
asked-more [] s = append-nil (spell s.command)
asked-more (y ∷ ys) s = ap (λ l. spell y.command ++ l) (asked-more ys s) ∙ sym (append_assoc (spell y.command) (asked ys) (spell s.command))

replied-more : (xs : List Step) (s : Step) → replied (xs ++ s ∷ []) ≡ replied xs ++ text_of s.reply
replied-more [] s = append-nil (text_of s.reply)
replied-more (y ∷ ys) s = ap (λ l. text_of y.reply ++ l) (replied-more ys s)
    ∙ sym (append_assoc (text_of y.reply) (replied ys) (text_of s.reply))

pub one_step_more : (session new : Session) (first left new_left : Option (List ℕ)) (begun held new_held : Sent)
    → SoFar session first left begun held → ((h : List Step) → Stands session h → StepsOn new h left new_left held new_held)
    → SoFar new first new_left begun new_held
one_step_more session new first left new_left begun held new_held so leads =
    let t = leads so.history so.stands in
    let s : Step = record { command = t.command; reply = t.answered.reply } in
    record {
      steps = so.steps ++ s ∷ [];
      history = s ∷ so.history;
      ran = Ran-more [] so.history so.steps s so.ran t.is t.answered.answers;
      stands = t.answered.stands;
      consumed = subst (Consumes first new_left) (sym (asked-more so.steps s)) (Consumes-trans first left new_left
          (asked so.steps) (spell t.command) so.consumed t.consumes);
      written = subst (Says begun new_held) (sym (replied-more so.steps s)) (says_more begun held new_held (replied so.steps)
          (text_of t.answered.reply) so.written t.answered.appends);
    }

-- ---- the end of a run

module _ (session : Session) (first left new_left : Option (List ℕ)) (begun held new_held : Sent)
    (so : SoFar session first left begun held) where
  pub run_ends : (end : End) → ((h : List Step) → Stands session h → StepEnds end h left new_left held new_held)
      → IfSome first (λ bytes. (written : List ℕ) × Says begun new_held written × Replies end bytes written)
  run_ends Done leads =
      let e = leads so.history so.stands in
      Consumes-whole first new_left (asked so.steps) (λ bytes. (written : List ℕ) × Says begun new_held written × RepliesDone bytes written)
      (Consumes-kept first left new_left (asked so.steps) so.consumed e.0) e.1 (
        replied so.steps,
        subst (Says begun new_held) (append-nil (replied so.steps)) (says_more begun held new_held (replied so.steps) [] so.written e.2),
        record { steps = so.steps; history = so.history; ran = so.ran; input_is = refl; output_is = refl },
      )
  run_ends Bad leads =
      let e = leads so.history so.stands in
      lift_front first left (asked so.steps) (λ xs. IsMalformed (is_declared so.history) xs) (λ bytes. (written : List ℕ)
      × Says begun new_held written × RepliesBad bytes written) so.consumed e.0
      (λ rest bad. (
        replied so.steps ++ bad_script,
        says_more begun held new_held (replied so.steps) bad_script so.written e.1,
        record { steps = so.steps; history = so.history; rest = rest; ran = so.ran; malformed = bad; input_is = refl; output_is = refl },
      ))

  pub run_fails : (fault : RunFault) (reads : ℕ) → ((h : List Step) → Stands session h
      → StepFails fault h left held new_held) → IfSome first (λ bytes. (written : List ℕ) × Says begun new_held written
      × RepliesBegun fault reads bytes written)
  run_fails fault reads fails =
      lift_front first left (asked so.steps) (λ xs. (part : List ℕ) × Stops fault so.history xs part
      × Says held new_held part) (λ bytes. (written : List ℕ) × Says begun new_held written
      × RepliesBegun fault reads bytes written) so.consumed
      (fails so.history so.stands)
      (λ rest p. (
        replied so.steps ++ p.0,
        says_more begun held new_held (replied so.steps) p.0 so.written p.2,
        record {
          steps = so.steps;
          history = so.history;
          rest = rest;
          part = p.0;
          ran = so.ran;
          stops = inl p.1;
          input_is =
              refl;
          output_is = refl;
        },
      ))

-- ---- a front of what was said

front_of_front : (n k : ℕ) (xs : List ℕ) → (j : ℕ) × (take n (take k xs) ≡ take j xs)
front_of_front zero k xs = (0, refl)
front_of_front (suc n) zero xs = (0, refl)
front_of_front (suc n) (suc k) [] = (0, refl)
front_of_front (suc n) (suc k) (x ∷ xs) =
    let e = front_of_front n k xs in
    (suc e.0, ap (λ l. x ∷ l) e.1)

front_of_none : (n : ℕ) → take {A = ℕ} n [] ≡ []
front_of_none zero = refl
front_of_none (suc n) = refl

-- a front ends in the first text, or behind it
front_over : (xs ys : List ℕ) (n : ℕ) → (take n (xs ++ ys) ≡ take n xs) ⊎ ((m : ℕ) × (take n (xs ++ ys) ≡ xs ++ take m ys))
front_over [] ys n = inr (n, refl)
front_over (x ∷ xs) ys zero = inl refl
front_over (x ∷ xs) ys (suc n) = by (front_over xs ys n)
  where
    by : (take n (xs ++ ys) ≡ take n xs) ⊎ ((m : ℕ) × (take n (xs ++ ys) ≡ xs ++ take m ys))
        → (take (suc n) (x ∷ (xs ++ ys)) ≡ take (suc n) (x ∷ xs)) ⊎ ((m : ℕ) × (take (suc n) (x ∷ (xs ++ ys)) ≡ x ∷ (xs ++ take m ys)))
    by (inl e) = inl (ap (λ l. x ∷ l) e)
    by (inr e) = inr (e.0, ap (λ l. x ∷ l) e.1)

begins_front : (h : List Step) (rest part : List ℕ) (n : ℕ) → Begins h rest part → Begins h rest (take n part)
begins_front h rest part n nothing = subst (Begins h rest) (sym (front_of_none n)) nothing
begins_front h rest part n (answer c more reply k is e a) =
    let f = front_of_front n k (text_of reply) in
    subst (Begins h rest) (sym f.1) (answer c more reply f.0 is e a)
begins_front h rest part n (lines d node piece more ls k is e declared begins) =
    let f = front_of_front n k (flat_map line_text ls) in
    subst (Begins h rest) (sym f.1) (lines d node piece more ls f.0 is e declared begins)
begins_front h rest part n (last k bad) =
    let f = front_of_front n k bad_script in
    subst (Begins h rest) (sym f.1) (last f.0 bad)

-- the replies to the first commands, and then a front of what comes next
record Begun (old : List Step) (input output : List ℕ) : Type 0 where
  steps : List Step
  history : List Step
  rest : List ℕ
  part : List ℕ
  ran : Ran old steps history
  begins : Begins history rest part
  input_is : input ≡ asked steps ++ rest
  output_is : output ≡ replied steps ++ part

-- the front ends in the reply to the first command, or behind it
cut_step : (old : List Step) (s : Step) (steps : List Step) (rest part : List ℕ) (n : ℕ)
    → IsCommand (is_declared old) s.command → Answers old s.command s.reply
    → (take n (text_of s.reply ++ (replied steps ++ part)) ≡ take n (text_of s.reply))
    ⊎ ((m : ℕ) × (take n (text_of s.reply ++ (replied steps ++ part)) ≡ text_of s.reply ++ take m (replied steps ++ part)))
    → ((m : ℕ) → Begun (s ∷ old) (asked steps ++ rest) (take m (replied steps ++ part)))
    → Begun old (asked (s ∷ steps) ++ rest) (take n (replied (s ∷ steps) ++ part))
cut_step old s steps rest part n is answers (inl e) cut_rest = record {
  steps = [];
  history = old;
  rest = asked (s ∷ steps) ++ rest;
  part = take n (text_of s.reply);
  ran = refl;
  begins = answer s.command (asked steps ++ rest) s.reply n is (append_assoc (spell s.command) (asked steps) rest) answers;
  input_is = refl;
  output_is = ap (take n) (append_assoc (text_of s.reply) (replied steps) part) ∙ e;
}
cut_step old s steps rest part n is answers (inr e) cut_rest =
    let more = cut_rest e.0 in
    record {
      steps = s ∷ more.steps;
      history = more.history;
      rest = more.rest;
      part = more.part;
      ran = (is, answers, more.ran);
      begins = more.begins;
      input_is = append_assoc (spell s.command) (asked steps) rest ∙ ap (λ l. spell s.command ++ l) more.input_is
          ∙ sym (append_assoc (spell s.command) (asked more.steps) more.rest);
      output_is = ap (take n) (append_assoc (text_of s.reply) (replied steps) part) ∙ e.1 ∙ ap (λ l. text_of s.reply ++ l)
          more.output_is ∙ sym (append_assoc (text_of s.reply) (replied more.steps) more.part);
    }

cut : (old h steps : List Step) (rest part : List ℕ) (n : ℕ) → Ran old steps h → Begins h rest part
    → Begun old (asked steps ++ rest) (take n (replied steps ++ part))
cut old h [] rest part n ran begins = record {
  steps = [];
  history = h;
  rest = rest;
  part = take n part;
  ran = ran;
  begins =
      begins_front h rest part n begins;
  input_is = refl;
  output_is = refl;
}
cut old h (s ∷ steps) rest part n ran begins =
    cut_step old s steps rest part n ran.0 ran.1 (front_over (text_of s.reply) (replied steps ++ part) n)
    (λ m. cut (s ∷ old) h steps rest part m ran.2 begins)

-- where a run stopped, what was said behind the replies begins what comes next
stops_begins : (fault : RunFault) (reads : ℕ) (h : List Step) (rest part : List ℕ) → StopsRun fault reads h rest part → Begins h rest part
stops_begins fault reads h rest part (inr stops) = subst (Begins h rest) (sym stops.3) nothing
stops_begins faults.Read reads h rest part (inl stops) = subst (Begins h rest) (sym stops) nothing
stops_begins faults.Write reads h rest part (inl stops) = stops
stops_begins faults.NoMemory reads h rest part (inl stops) = subst (Begins h rest) (sym stops.0) nothing

-- so a front of what was said is a beginning of the replies
module _ (reads : ℕ) (input output : List ℕ) (n : ℕ) where
  by_cut : (h steps : List Step) (rest part : List ℕ) → Ran [] steps h → Begins h rest part → input ≡ asked steps ++ rest
      → output ≡ replied steps ++ part → RepliesBegun faults.Write reads input (take n output)
  by_cut h steps rest part ran begins i o =
      let b = cut [] h steps rest part n ran begins in
      record {
        steps = b.steps;
        history = b.history;
        rest = b.rest;
        part = b.part;
        ran = b.ran;
        stops = inl b.begins;
        input_is = i ∙ b.input_is;
        output_is = ap (take n) o ∙ b.output_is;
      }

  front_of_replies : (end : End) → Replies end input output → RepliesBegun faults.Write reads input (take n output)
  front_of_replies Done r = by_cut r.history r.steps [] [] r.ran nothing (r.input_is ∙ sym (append-nil (asked r.steps)))
      (r.output_is ∙ sym (append-nil (replied r.steps)))
  front_of_replies Bad r =
      let whole : take (length bad_script) bad_script ≡ bad_script = take_all (length bad_script) bad_script (omega arith) in
      by_cut r.history r.steps r.rest bad_script r.ran (subst (Begins r.history r.rest) whole
      (last (length bad_script) r.malformed)) r.input_is r.output_is

  front_of_begun : (fault : RunFault) → RepliesBegun fault reads input output → RepliesBegun faults.Write reads input (take n output)
  front_of_begun fault r = by_cut r.history r.steps r.rest r.part r.ran (stops_begins fault reads r.history r.rest r.part
      r.stops) r.input_is r.output_is

-- ---- what was written at the end of a run, where nothing waited before it, and the source held nothing

module _ (reads : ℕ) (first : Option (List ℕ)) (old : List ℕ) (none : old ≡ []) (begun held : Sent) (fresh : begun.waiting ≡ []) where
  abbrev pub Said : (List ℕ → List ℕ → Type 0) → Option (List ℕ) → Type 0
  Said P left = IfSome left (λ bytes. (written : List ℕ) × Says begun held written × P bytes written)

  abbrev pub Written : Sent → (List ℕ → List ℕ → Type 0) → Option (List ℕ) → Type 0
  Written new P left = IfSome left (λ bytes. (written : List ℕ) × Appends begun.contents new.contents written × P bytes written)

  from_start : (P : List ℕ → List ℕ → Type 0) (a : Option (List ℕ)) → Said P (prepend_known old a) → Said P a
  from_start P None said = tt
  from_start P (Some xs) said = (said.0, said.1, subst (λ bytes. P bytes said.0) (ap (λ l. l ++ xs) none) said.2)

  -- all that waited was written
  whole : (new : Sent) (P : List ℕ → List ℕ → Type 0) → Says held new [] → new.waiting ≡ [] → (a : Option (List ℕ))
      → Said P a → Written new P a
  whole new P rest all None said = tt
  whole new P rest all (Some bytes) said =
      (said.0, says_all begun new said.0 fresh all (says_ended begun held new said.0 said.1 rest), said.2)

  pub written_whole : (new : Sent) (P : List ℕ → List ℕ → Type 0) → Says held new [] → new.waiting ≡ []
      → Said P (prepend_known old first) → Written new P first
  written_whole new P rest all said = whole new P rest all first (from_start P first said)

  -- a front was
  front : (new : Sent) (P : List ℕ → List ℕ → Type 0) → ((bytes written : List ℕ) (n : ℕ) → P bytes written
      → RepliesBegun faults.Write reads bytes (take n written)) → Says held new []
      → (a : Option (List ℕ)) → Said P a → Written new (RepliesBegun faults.Write reads) a
  front new P cut_at rest None said = tt
  front new P cut_at rest (Some bytes) said =
      let f = says_begun begun new said.0 fresh (says_ended begun held new said.0 said.1 rest) in
      (take f.0 said.0, f.1, cut_at bytes said.0 f.0 said.2)

  pub ended_front : (new : Sent) (end : End) (fault : RunFault) → fault ≡ faults.Write → Says held new []
      → Said (Replies end) (prepend_known old first) → Written new (RepliesBegun fault reads) first
  ended_front new end fault e rest said =
      subst (λ f. Written new (RepliesBegun f reads) first) (sym e)
      (front new (Replies end) (λ bytes written n r. front_of_replies reads bytes written n end r) rest first
      (from_start (Replies end) first said))

  pub failed_front : (new : Sent) (before fault : RunFault) → fault ≡ faults.Write → Says held new []
      → Said (RepliesBegun before reads) (prepend_known old first) → Written new (RepliesBegun fault reads) first
  failed_front new before fault e rest said =
      subst (λ f. Written new (RepliesBegun f reads) first) (sym e) (front new (RepliesBegun before reads)
      (λ bytes written n r. front_of_begun reads bytes written n before r) rest first
      (from_start (RepliesBegun before reads) first said))

-- nothing was read, and nothing written
pub run_not_begun : (reads : ℕ) (first held : Option (List ℕ)) → reads ≡ 0
    → IfSome first (λ bytes. (written : List ℕ) × Appends held held written × RepliesBegun faults.NoMemory reads bytes written)
run_not_begun reads None held none = tt
run_not_begun reads (Some xs) held none = (
  [],
  Appends-nil held,
  record {
    steps = [];
    history = [];
    rest = xs;
    part = [];
    ran = refl;
    stops =
        inr (refl, none, refl, refl);
    input_is = refl;
    output_is = refl;
  },
)
