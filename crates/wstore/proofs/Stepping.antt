-- Steps of a run that failed.
use Rattle.std.proofs.Common.{◌≡◌, ℕ, Bool, true, List, [], take, Option, None, Some, IfSome, is_some, ◌++◌, inl, inr, refl, sym, ap, subst}
use Rattle.std.specs.Io.KnownBytes.{Consumes}
use Rattle.wlines.specs.Sent.{Sent, Says}
use Rattle.wscript.specs.Commands.{Command, Declare, Take, Retire, RetireTo, Listing, Ask, Feed}
use Rattle.wscript.specs.Commands.{Put, Get, IsAllowed, IsCommand, IsMalformed, spell}
use Rattle.wstore.specs.History.{Step, is_declared}
use Rattle.std.specs.List.{flat_map}
use Rattle.wstore.specs.Replies.{line_text, text_of, bad_script}
use Rattle.wscript.specs.Requests.{IsCommandOf, IsOrderAt}
use Rattle.wstore.specs.Runs.{Stops, Begins, nothing, answer, lines, last}
use Rattle.wstore.specs.Sessions.{MayStand}
use Rattle.wstore.specs.Steps.{Unanswered, StepFails}
use Rattle.wscript.specs.declared.request.Command as code
use Rattle.wscript.specs.declared.request.Command.TheVariants as commands
use Rattle.wscript.specs.declared.request.Order.{Order}
use Rattle.wscript.specs.declared.request.Order.TheVariants as orders
use Rattle.wstore.specs.declared.script_run.RunFault.{RunFault}
use Rattle.wstore.specs.declared.script_run.RunFault.TheVariants as faults
use Rattle.wstore.specs.declared.session.Session.{Session}
use Rattle.wscript.proofs.Spelling.{front_of}

-- a command that a node is told or asked stands where the table is declared
order_allowed : (n : ℕ) (order : Order) (c : Command) (declared : Bool) → IsOrderAt n order c → IsAllowed declared c → declared ≡ true
order_allowed n (orders.Take name bytes) (Declare s) d is allowed = absurd is
order_allowed n (orders.Retire name) (Declare s) d is allowed = absurd is
order_allowed n (orders.RetireTo name) (Declare s) d is allowed = absurd is
order_allowed n orders.List (Declare s) d is allowed = absurd is
order_allowed n (orders.Ask text) (Declare s) d is allowed = absurd is
order_allowed n (orders.Put k) (Declare s) d is allowed = absurd is
order_allowed n (orders.Get k) (Declare s) d is allowed = absurd is
order_allowed n order (Take m o k b) d is allowed = allowed
order_allowed n order (Retire m o k) d is allowed = allowed
order_allowed n order (RetireTo m o k) d is allowed = allowed
order_allowed n order (Listing m) d is allowed = allowed
order_allowed n order (Ask m t) d is allowed = allowed
order_allowed n order (Feed m p) d is allowed = allowed
order_allowed n order (Put m s) d is allowed = allowed
order_allowed n order (Get s m) d is allowed = allowed

pub may_stand : (session : Session) (command : code.Command) (c : Command) → IsCommandOf command c
    → IsAllowed (is_some session.cluster) c → MayStand session command
may_stand session (commands.Declare bytes) c is allowed = tt
may_stand session (commands.Refused refusal) c is allowed = tt
may_stand session (commands.Feed node kept) (Feed n p) is allowed = allowed
may_stand session (commands.Feed node kept) (Declare s) is allowed = absurd is
may_stand session (commands.Feed node kept) (Take n o m b) is allowed = absurd is
may_stand session (commands.Feed node kept) (Retire n o m) is allowed = absurd is
may_stand session (commands.Feed node kept) (RetireTo n o m) is allowed = absurd is
may_stand session (commands.Feed node kept) (Listing n) is allowed = absurd is
may_stand session (commands.Feed node kept) (Ask n t) is allowed = absurd is
may_stand session (commands.Feed node kept) (Put n k) is allowed = absurd is
may_stand session (commands.Feed node kept) (Get k n) is allowed = absurd is
may_stand session (commands.At node order) c is allowed = order_allowed node order c (is_some session.cluster) is allowed

-- nothing more could be read, and nothing was said
pub read_fails : (h : List Step) (left : Option (List ℕ)) (held new_held : Sent) → Says held new_held []
    → StepFails faults.Read h left held new_held
read_fails h None held new_held k = tt
read_fails h (Some xs) held new_held k = ([], refl, k)

pub write_fails : (h : List Step) (left : Option (List ℕ)) (held new_held : Sent) → Says held new_held []
    → StepFails faults.Write h left held new_held
write_fails h None held new_held k = tt
write_fails h (Some xs) held new_held k = ([], nothing, k)

-- a front of the last line was written
pub fails_at_last : (fault : RunFault) (h : List Step) (left : Option (List ℕ)) (held new_held : Sent) (n : ℕ)
    → fault ≡ faults.Write → IfSome left (λ xs. IsMalformed (is_declared h) xs) → Says held new_held (take n bad_script)
    → StepFails fault h left held new_held
fails_at_last fault h left held new_held n e bad k = subst (λ f. StepFails f h left held new_held) (sym e) (by left bad)
  where
    by : (left : Option (List ℕ)) → IfSome left (λ xs. IsMalformed (is_declared h) xs) → StepFails faults.Write h left held new_held
    by None bad = tt
    by (Some xs) bad = (take n bad_script, last n bad, k)

-- a command was read, and not answered in full
pub fails_at_answer : (fault : RunFault) (h : List Step) (left new_left : Option (List ℕ)) (held new_held : Sent)
    (c : Command) → IsCommand (is_declared h) c → Consumes left new_left (spell c) → Unanswered fault h c held new_held
    → StepFails fault h left held new_held
fails_at_answer faults.Read h left new_left held new_held c is k part = absurd part
fails_at_answer faults.Write h left new_left held new_held c is k (inl part) =
    front_of left new_left (spell c) (λ xs. (p : List ℕ) × Begins h xs p × Says held new_held p) k
    (λ rest. (take part.n (text_of part.reply), answer c rest part.reply part.n is refl part.answers, part.appends))
fails_at_answer faults.Write h left new_left held new_held c is k (inr part) =
    front_of left new_left (spell c) (λ xs. (p : List ℕ) × Begins h xs p × Says held new_held p) k
    (λ rest. (
      take part.n (flat_map line_text part.lines),
      lines part.d part.node part.piece rest part.lines part.n
          (subst (IsCommand (is_declared h)) part.command_is is) (ap (λ q. spell q ++ rest) part.command_is) part.declared
          part.begins,
      part.appends,
    ))
fails_at_answer faults.NoMemory h left new_left held new_held (Declare bytes) is k part =
    front_of left new_left (spell (Declare bytes)) (λ xs. (p : List ℕ) × Stops faults.NoMemory h xs p × Says held new_held p) k
    (λ rest. ([], (refl, record { bytes = bytes; fits = part.0; more = rest; command = is; rest_is = refl }), part.1))
fails_at_answer faults.NoMemory h left new_left held new_held (Take n o m b) is k part = absurd part.0
fails_at_answer faults.NoMemory h left new_left held new_held (Retire n o m) is k part = absurd part.0
fails_at_answer faults.NoMemory h left new_left held new_held (RetireTo n o m) is k part = absurd part.0
fails_at_answer faults.NoMemory h left new_left held new_held (Listing n) is k part = absurd part.0
fails_at_answer faults.NoMemory h left new_left held new_held (Ask n t) is k part = absurd part.0
fails_at_answer faults.NoMemory h left new_left held new_held (Feed n p) is k part = absurd part.0
fails_at_answer faults.NoMemory h left new_left held new_held (Put m s) is k part = absurd part.0
fails_at_answer faults.NoMemory h left new_left held new_held (Get s m) is k part = absurd part.0
