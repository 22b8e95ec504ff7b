-- What queries are told.
use Rattle.std.specs.Prelude.{◌≡◌, ⊤, ℕ, Bool, List, [], ◌∷◌, ◌++◌, ◌||◌, Result, Ok, Err, is_err}
use Rattle.std.specs.List.{flat_map, list_any}
use Rattle.wsegment.specs.Declaration.{Declaration}
use Rattle.wset.specs.Views.{View}
use Rattle.wask.specs.Answer.{IsAnswer}
use Rattle.wreplies.specs.Spelling.{query_text}
use Rattle.wplanner.specs.declared.fault.AskFault.{AskFault}
use Rattle.wact.specs.declared.acted.Acted.{Acted}
use Rattle.wact.specs.Outcomes.{IsReplied}

-- the bytes of an answer alone, or the refusal
abbrev pub reply_text : Result (List ℕ) AskFault → List ℕ
reply_text (Ok bytes) = bytes
reply_text (Err fault) = query_text fault

-- a reply behind another one: an empty line stands between the two
abbrev pub next_reply_text : Result (List ℕ) AskFault → List ℕ
next_reply_text answer = 10 ∷ reply_text answer

-- replies one behind the other
abbrev pub replies_text : List (Result (List ℕ) AskFault) → List ℕ
replies_text [] = []
replies_text (answer ∷ answers) = reply_text answer ++ flat_map next_reply_text answers

-- one query is told this, and whether that refuses it
pub record IsReply (d : Declaration) (v : View) (query text : List ℕ) (is_refused : Bool) : Type 0 where
  pub answer : Result (List ℕ) AskFault
  pub answers : IsAnswer d v query answer
  pub text_is : text ≡ reply_text answer
  pub refused_is : is_refused ≡ is_err answer

-- each query has its answer, or its first fault
abbrev pub AreAnswers : Declaration → View → List (List ℕ) → List (Result (List ℕ) AskFault) → Type 0
AreAnswers d v [] [] = ⊤
AreAnswers d v (query ∷ queries) (answer ∷ answers) = IsAnswer d v query answer × AreAnswers d v queries answers
AreAnswers d v _ _ = ⊥

-- a reply was added behind others, of which one refuses its query or none does
pub record ReplyFollows (d : Declaration) (v : View) (query old new : List ℕ) (old_refused new_refused : Bool) : Type 0 where
  pub answer : Result (List ℕ) AskFault
  pub answers : IsAnswer d v query answer
  pub text_is : new ≡ old ++ next_reply_text answer
  pub refused_is : new_refused ≡ (old_refused || is_err answer)

-- so were several
pub record RepliesFollow (d : Declaration) (v : View) (queries : List (List ℕ)) (old new : List ℕ)
    (old_refused new_refused : Bool) : Type 0 where
  pub answers : List (Result (List ℕ) AskFault)
  pub are : AreAnswers d v queries answers
  pub text_is : new ≡ old ++ flat_map next_reply_text answers
  pub refused_is : new_refused ≡ (old_refused || list_any is_err answers)

-- queries are answered one after the other, whichever of them are refused
pub record Asks (d : Declaration) (v : View) (queries : List (List ℕ)) (acted : Acted) : Type 0 where
  pub answers : List (Result (List ℕ) AskFault)
  pub are : AreAnswers d v queries answers
  pub replied : IsReplied acted (replies_text answers) (list_any is_err answers)
