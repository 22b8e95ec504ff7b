-- What a run writes.
use Rattle.std.specs.Prelude.{◌≡◌, ℕ, Bool, false, true, List, [], ◌∷◌, ◌++◌, take, Option, Result, is_err}
use Rattle.std.specs.List.{flat_map, list_any, AllByRecursion}
use Rattle.std.specs.Io.KnownBytes.{Appends, Consumes}
use Rattle.wvalues.specs.Counts.{Counts}
use Rattle.wlines.specs.Pending.{IsSound, IsSoundWriter, ReadFailed}
use Rattle.wsegment.specs.Declaration.{Declaration}
use Rattle.wset.specs.Views.{View}
use Rattle.wplanner.specs.declared.fault.AskFault.{AskFault}
use Rattle.wact.specs.Queries.{replies_text}
use Rattle.wshell.specs.declared.fault.ShellFault.{ShellFault}
use Rattle.wshell.specs.declared.fault.ShellFault.TheVariants as faults
use Rattle.wshell.specs.declared.replying.Replied.{Replied}
use Rattle.wshell.specs.Splitting.{IsEnded, Splits, ended}
use Rattle.wshell.specs.Pending.{IsPending, Kept}
use Rattle.wshell.specs.Replying.{AreReplies}

-- the output is the replies to the queries of the input, and to what stands behind the last semicolon, as a query too
pub record Replies (d : Declaration) (v : View) (input output : List ℕ) (is_refused : Bool) : Type 0 where
  pub queries : List (List ℕ)
  pub rest : List ℕ
  pub answers : List (Result (List ℕ) AskFault)
  pub splits : Splits input queries rest
  pub are : AreReplies d v (queries ++ rest ∷ []) answers
  pub output_is : output ≡ replies_text answers
  pub refused_is : is_refused ≡ list_any is_err answers

-- the texts are the first queries of the input, or all of them and what stands behind the last semicolon
pub data Begins (input : List ℕ) : List (List ℕ) → Type 0 where
  First : (queries : List (List ℕ)) (more : List ℕ) → input ≡ flat_map ended queries ++ more
      → AllByRecursion IsEnded queries → Begins input queries
  All : (queries : List (List ℕ)) (rest : List ℕ) → Splits input queries rest → Begins input (queries ++ rest ∷ [])

-- the output is a beginning of the replies to the first texts of the input; the last one is cut where writing failed alone
pub record RepliesBegun (d : Declaration) (v : View) (fault : ShellFault) (input output : List ℕ) : Type 0 where
  pub texts : List (List ℕ)
  pub answers : List (Result (List ℕ) AskFault)
  pub n : ℕ
  pub begins : Begins input texts
  pub are : AreReplies d v texts answers
  pub output_is : output ≡ take n (replies_text answers)
  pub whole : ¬ (fault ≡ faults.Write) → output ≡ replies_text answers

-- of what was read of the input, each query that had ended was answered, and its reply written
pub record KeepsUp (d : Declaration) (v : View) (left new_left first contents : Option (List ℕ)) : Type 0 where
  pub input : List ℕ
  pub queries : List (List ℕ)
  pub rest : List ℕ
  pub answers : List (Result (List ℕ) AskFault)
  pub consumes : Consumes left new_left input
  pub splits : Splits input queries rest
  pub are : AreReplies d v queries answers
  pub written : Appends first contents (replies_text answers)

-- each fault has its cause, and nothing else has failed
abbrev pub HasCause : {R W : Type 0} → ShellFault → Counts R → Counts W → Type 0
HasCause faults.Read input output = ReadFailed input × IsSoundWriter output
HasCause faults.Write input output = IsSound input × (output.failures ≡ 1)
HasCause faults.NoMemory input output = IsSound input × IsSoundWriter output

-- ---- on the way

abbrev pub has_any : List (Result (List ℕ) AskFault) → Bool
has_any [] = false
has_any (a ∷ more) = true

-- the replies to the texts so far were written
pub record SoFar (d : Declaration) (v : View) (texts : List (List ℕ)) (first contents : Option (List ℕ)) (replied : Replied) : Type 0 where
  pub answers : List (Result (List ℕ) AskFault)
  pub are : AreReplies d v texts answers
  pub appends : Appends first contents (replies_text answers)
  pub any_is : replied.is_any ≡ has_any answers
  pub refused_is : replied.is_refused ≡ list_any is_err answers

-- or a front of it, where writing failed
pub record FrontSoFar (d : Declaration) (v : View) (texts : List (List ℕ)) (first contents : Option (List ℕ)) (fault : ShellFault) : Type 0 where
  pub answers : List (Result (List ℕ) AskFault)
  pub n : ℕ
  pub are : AreReplies d v texts answers
  pub appends : Appends first contents (take n (replies_text answers))
  pub whole : ¬ (fault ≡ faults.Write) → take n (replies_text answers) ≡ replies_text answers

-- behind these bytes of the input: the queries that ended in them have these replies, and a text stands behind the last of them
pub record StandsBehind (d : Declaration) (v : View) (first : Option (List ℕ)) (input : List ℕ) (contents : Option (List ℕ))
    (pending : Kept) (replied : Replied) : Type 0 where
  pub queries : List (List ℕ)
  pub rest : List ℕ
  pub splits : Splits input queries rest
  pub is : IsPending pending rest
  pub so_far : SoFar d v queries first contents replied

-- of the first queries of the input a front of the replies was written
pub record IsBegun (d : Declaration) (v : View) (first : Option (List ℕ)) (input : List ℕ) (contents : Option (List ℕ))
    (fault : ShellFault) : Type 0 where
  pub queries : List (List ℕ)
  pub more : List ℕ
  pub whole : input ≡ flat_map ended queries ++ more
  pub each : AllByRecursion IsEnded queries
  pub front : FrontSoFar d v queries first contents fault

-- whatever was replied before these bytes of the input, it stands so behind them
abbrev pub GoesOn : Declaration → View → List ℕ → Option (List ℕ) → Option (List ℕ) → Kept → Kept → Replied → Replied → Type 0
GoesOn d v bytes old new pending new_pending replied new_replied =
    (first : Option (List ℕ)) (input : List ℕ) → StandsBehind d v first input old pending replied
    → StandsBehind d v first (input ++ bytes) new new_pending new_replied

-- or a front of the replies was written
abbrev pub GivesUp : Declaration → View → List ℕ → Option (List ℕ) → Option (List ℕ) → Kept → Replied → ShellFault → Type 0
GivesUp d v bytes old new pending replied fault = (first : Option (List ℕ)) (input : List ℕ)
    → StandsBehind d v first input old pending replied → IsBegun d v first (input ++ bytes) new fault

-- this much of the input was read, and it stands so behind it
pub record StandsAfter (d : Declaration) (v : View) (left new_left first contents : Option (List ℕ)) (pending : Kept)
    (replied : Replied) : Type 0 where
  pub input : List ℕ
  pub consumes : Consumes left new_left input
  pub stands : StandsBehind d v first input contents pending replied

-- a front of the input was read, of which a beginning of the replies was written
pub record TakesFront (d : Declaration) (v : View) (left first contents : Option (List ℕ)) (fault : ShellFault) : Type 0 where
  pub input : List ℕ
  pub new_left : Option (List ℕ)
  pub consumes : Consumes left new_left input
  pub begun : IsBegun d v first input contents fault
