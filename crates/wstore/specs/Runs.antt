-- A whole run: the replies that an input has.
use Rattle.std.specs.Prelude.{◌≡◌, ℕ, ◌≤◌, List, [], ◌∷◌, ◌++◌, length, take, Some, ◌⊎◌}
use Rattle.std.specs.List.{flat_map}
use Rattle.wsegment.specs.Declaration.{Declaration}
use Rattle.wscript.specs.Commands.{Command, Declare, Feed, IsCommand, IsMalformed, longest_text, spell}
use Rattle.wstore.specs.Replies.{Reply, Line, line_text, text_of, bad_script}
use Rattle.wstore.specs.History.{Step, Answers, FeedBegins, declaration, is_declared}
use Rattle.wstore.specs.declared.script_run.End.{End}
use Rattle.wstore.specs.declared.script_run.End.TheVariants.{Done, Bad}
use Rattle.wstore.specs.declared.script_run.RunFault.{RunFault}
use Rattle.wstore.specs.declared.script_run.RunFault.TheVariants.{Read, Write, NoMemory}

-- steps, the oldest first, that lead from one history to another
abbrev pub Ran : List Step → List Step → List Step → Type 0
Ran old [] new = new ≡ old
Ran old (s ∷ steps) new = IsCommand (is_declared old) s.command × Answers old s.command s.reply × Ran (s ∷ old) steps new

-- the bytes of the commands, and those of the replies
abbrev pub asked : List Step → List ℕ
asked steps = flat_map (λ s. spell s.command) steps

abbrev pub replied : List Step → List ℕ
replied steps = flat_map (λ s. text_of s.reply) steps

-- the input is whole commands, and the output their replies
pub record RepliesDone (input output : List ℕ) : Type 0 where
  pub steps : List Step
  pub history : List Step
  pub ran : Ran [] steps history
  pub input_is : input ≡ asked steps
  pub output_is : output ≡ replied steps

-- the input is whole commands and then a malformed one, and the output their replies and a last line
pub record RepliesBad (input output : List ℕ) : Type 0 where
  pub steps : List Step
  pub history : List Step
  pub rest : List ℕ
  pub ran : Ran [] steps history
  pub malformed : IsMalformed (is_declared history) rest
  pub input_is : input ≡ asked steps ++ rest
  pub output_is : output ≡ replied steps ++ bad_script

-- what comes next may begin so: a front of a reply to the next command, or of what the first messages of a piece are told, or
-- of the last line
pub data Begins (h : List Step) (rest : List ℕ) : List ℕ → Type 0 where
  nothing : Begins h rest []
  answer : (c : Command) (more : List ℕ) (reply : Reply) (n : ℕ) → IsCommand (is_declared h) c → rest ≡ spell c ++ more
      → Answers h c reply → Begins h rest (take n (text_of reply))
  lines : (d : Declaration) (node : ℕ) (piece more : List ℕ) (told : List Line) (n : ℕ)
      → IsCommand (is_declared h) (Feed node piece) → rest ≡ spell (Feed node piece) ++ more → declaration h ≡ Some d
      → FeedBegins d h node piece told → Begins h rest (take n (flat_map line_text told))
  last : (n : ℕ) → IsMalformed (is_declared h) rest → Begins h rest (take n bad_script)

-- the rest begins with a declaration within its limit, which may stand there
pub record IsDeclaring (h : List Step) (rest : List ℕ) : Type 0 where
  pub bytes : List ℕ
  pub fits : length bytes ≤ longest_text
  pub more : List ℕ
  pub command : IsCommand (is_declared h) (Declare bytes)
  pub rest_is : rest ≡ spell (Declare bytes) ++ more

-- what was written behind the replies, by the fault that ended the run: nothing, or for a write fault a front of what comes
-- next. Want of memory comes at a declaration within its limit
abbrev pub Stops : RunFault → List Step → List ℕ → List ℕ → Type 0
Stops Read h rest part = part ≡ []
Stops Write h rest part = Begins h rest part
Stops NoMemory h rest part = (part ≡ []) × IsDeclaring h rest

-- it comes also where nothing was read yet, and so nothing was answered
abbrev pub StopsRun : RunFault → ℕ → List Step → List ℕ → List ℕ → Type 0
StopsRun fault reads h rest part = Stops fault h rest part ⊎ ((fault ≡ NoMemory) × (reads ≡ 0) × (h ≡ []) × (part ≡ []))

-- after so many reads a fault ended the run, and the output is a beginning of the replies to the commands that begin the input
pub record RepliesBegun (fault : RunFault) (reads : ℕ) (input output : List ℕ) : Type 0 where
  pub steps : List Step
  pub history : List Step
  pub rest : List ℕ
  pub part : List ℕ
  pub ran : Ran [] steps history
  pub stops : StopsRun fault reads history rest part
  pub input_is : input ≡ asked steps ++ rest
  pub output_is : output ≡ replied steps ++ part

-- the input has these replies, where the run ended so
abbrev pub Replies : End → List ℕ → List ℕ → Type 0
Replies Done input output = RepliesDone input output
Replies Bad input output = RepliesBad input output
