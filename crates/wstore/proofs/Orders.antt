-- What an order is told that asks a node.
use Rattle.std.proofs.Common.{◌≡◌, ◌≤◌, ℕ, List, length, Vec, Global, Result, Ok, Err, IfOk, OnErr, sym, subst}
use Rattle.wsegment.specs.Declaration.{Declaration}
use Rattle.wscript.specs.Commands.{Command, Declare, Take, Retire, RetireTo, Listing, Ask, Feed, Put, Get, longest_text}
use Rattle.wstore.specs.History.{Step}
use Rattle.wscript.specs.Requests.{IsOrderAt}
use Rattle.wstore.specs.Standing.{AnswersAs, Places, StandAt}
use Rattle.wscript.specs.declared.request.Order.{Order}
use Rattle.wscript.specs.declared.request.Order.TheVariants as orders

-- what the text is told, the order's command is told
told_so : (d : Declaration) (at new : Places) (h : List Step) (n : ℕ) (kept : Vec ℕ Global) (reply : List ℕ)
    → (length kept.items ≤ longest_text → StandAt d at h → AnswersAs d new h (Ask n kept.items) reply) → (c : Command)
    → IsOrderAt n (orders.Ask kept) c → StandAt d at h → AnswersAs d new h c reply
told_so d at new h n kept reply told (Ask m text) is stand =
    subst (λ c. AnswersAs d new h c reply) (λ i. Ask (sym is.0 i) (sym is.1 i))
    (told (subst (λ t. length t ≤ longest_text) is.1 is.2) stand)
told_so d at new h n kept reply told (Declare bytes) is stand = absurd is
told_so d at new h n kept reply told (Take m o k bytes) is stand = absurd is
told_so d at new h n kept reply told (Retire m o k) is stand = absurd is
told_so d at new h n kept reply told (RetireTo m o k) is stand = absurd is
told_so d at new h n kept reply told (Listing m) is stand = absurd is
told_so d at new h n kept reply told (Feed m piece) is stand = absurd is
told_so d at new h n kept reply told (Put m k) is stand = absurd is
told_so d at new h n kept reply told (Get k m) is stand = absurd is

pub asked_so : {T E : Type 0} (r : Result T E) (bytes : T → List ℕ) (at new : Places) (n : ℕ) (order : Order)
    (kept : Vec ℕ Global) → order ≡ orders.Ask kept → IfOk r (λ text. (d : Declaration) (h : List Step)
    → length kept.items ≤ longest_text → StandAt d at h → AnswersAs d new h (Ask n kept.items) (bytes text))
    → IfOk r (λ text. (d : Declaration) (h : List Step) (c : Command) → IsOrderAt n order c → StandAt d at h
    → AnswersAs d new h c (bytes text))
asked_so (Ok text) bytes at new n order kept is told = λ d h c asks. told_so d at new h n kept (bytes text) (told d h) c
    (subst (λ o. IsOrderAt n o c) is asks)
asked_so (Err fault) bytes at new n order kept is told = tt

pub if_refused : {T E : Type 0} (r : Result T E) (P : Type 0) → P → OnErr r P
if_refused (Ok told) P holds = tt
if_refused (Err fault) P holds = holds
