-- The reply to a text of an input, and to its queries one after the other.
use Rattle.std.specs.Prelude.{◌≡◌, ◌⊎◌, ⊤, ◌||◌, ℕ, Bool, false, true, List, [], ◌∷◌, take, Option, Result, is_err}
use Rattle.std.specs.Io.KnownBytes.{Appends}
use Rattle.wvalues.specs.Counts.{Counts}
use Rattle.wlines.specs.Pending.{IsSoundWriter}
use Rattle.wlexer.specs.Lexing.{Lexes}
use Rattle.wsegment.specs.Declaration.{Declaration}
use Rattle.wset.specs.Views.{View}
use Rattle.wask.specs.Answer.{IsAnswer}
use Rattle.wask.specs.Texts.{IsText}
use Rattle.wplanner.specs.declared.fault.AskFault.{AskFault}
use Rattle.wact.specs.Queries.{reply_text}
use Rattle.wshell.specs.declared.fault.ShellFault.{ShellFault}
use Rattle.wshell.specs.declared.fault.ShellFault.TheVariants as faults
use Rattle.wshell.specs.declared.replying.Replied.{Replied}

-- it holds blanks and comments alone
pub record IsBlank (text : List ℕ) : Type 0 where
  pub is_text : IsText text
  pub none : Lexes text []

-- texts in turn: a blank one is passed over, any other has its answer or its first fault
abbrev pub AreReplies : Declaration → View → List (List ℕ) → List (Result (List ℕ) AskFault) → Type 0
AreReplies d v [] [] = ⊤
AreReplies d v [] (answer ∷ answers) = ⊥
AreReplies d v (text ∷ texts) [] = IsBlank text × AreReplies d v texts []
AreReplies d v (text ∷ texts) (answer ∷ answers) = (IsBlank text × AreReplies d v texts (answer ∷ answers))
    ⊎ (¬ (IsBlank text) × IsAnswer d v text answer × AreReplies d v texts answers)

-- a reply, behind an empty line where others stand before it
abbrev pub reply_behind : Bool → List ℕ → List ℕ
reply_behind false text = text
reply_behind true text = 10 ∷ text

-- this is the reply to one text
pub data RepliesOne (d : Declaration) (v : View) (text : List ℕ) (old new : Option (List ℕ)) (replied new_replied : Replied) : Type 0 where
  Passed : IsBlank text → Appends old new [] → new_replied ≡ replied → RepliesOne d v text old new replied new_replied
  Answered : (answer : Result (List ℕ) AskFault) → ¬ (IsBlank text) → IsAnswer d v text answer
      → Appends old new (reply_behind replied.is_any (reply_text answer))
      → new_replied ≡ record { is_any = true; is_refused = replied.is_refused || is_err answer }
      → RepliesOne d v text old new replied new_replied

-- nothing was written, or where writing failed a front of the reply
pub data RepliesPart (d : Declaration) (v : View) (text : List ℕ) (old new : Option (List ℕ)) (replied : Replied)
    (fault : ShellFault) : Type 0 where
  Unanswered : Appends old new [] → RepliesPart d v text old new replied fault
  Front : (answer : Result (List ℕ) AskFault) (n : ℕ) → fault ≡ faults.Write → ¬ (IsBlank text) → IsAnswer d v text answer
      → Appends old new (take n (reply_behind replied.is_any (reply_text answer))) → RepliesPart d v text old new replied fault

-- the cause of a fault of a reply: the reader has no part in it
abbrev pub HasReplyCause : {W : Type 0} → ShellFault → Counts W → Type 0
HasReplyCause faults.Read output = ⊥
HasReplyCause faults.Write output = output.failures ≡ 1
HasReplyCause faults.NoMemory output = IsSoundWriter output
