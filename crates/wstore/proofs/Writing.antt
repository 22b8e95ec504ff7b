-- Replies that were written, in full or in part.
use Rattle.std.proofs.Common.{◌≡◌, ℕ, true, List, [], take, ◌⊎◌, inl, inr, refl, sym, subst}
use Rattle.std.specs.List.{flat_map}
use Rattle.wlines.specs.Sent.{Sent, Says}
use Rattle.wlines.proofs.Saying.{says_behind}
use Rattle.wstore.specs.Replies.{line_text, text_of}
use Rattle.wscript.specs.Commands.{Command, Declare, Take, Retire, RetireTo, Listing, Ask, Feed, Put, Get}
use Rattle.wvalues.specs.Names.{NameParts}
use Rattle.wset.specs.Items.{RetirementItem, FloorItem, view_of}
use Rattle.wstore.specs.History.{Step, MayLackMemory, MayNeedMemory, is_put, known}
use Rattle.wscript.specs.Requests.{IsFeedOf, IsOrderAt, KeepsBody}
use Rattle.wstore.specs.Sessions.{RepliesWith}
use Rattle.wstore.specs.Steps.{Answered, AnsweredPart, AnsweredLines, Unanswered}
use Rattle.wscript.specs.declared.request.Order.{Order}
use Rattle.wscript.specs.declared.request.Order.TheVariants as orders
use Rattle.wstore.specs.declared.script_run.RunFault.{RunFault}
use Rattle.wstore.specs.declared.script_run.RunFault.TheVariants as faults
use Rattle.wstore.specs.declared.session.Session.{Session}

module _ (session : Session) (h : List Step) (c : Command) (text : List ℕ) (held new_held : Sent)
    (replies : RepliesWith session h c text) where
  pub answered : Says held new_held text → Answered session h c held new_held
  answered k = record {
    reply = replies.reply;
    answers = replies.answers;
    appends = subst (Says held new_held) replies.text_is k;
    stands = replies.stands;
  }

  pub answered_part : (n : ℕ) → Says held new_held (take n text) → AnsweredPart h c held new_held
  answered_part n k = record {
    reply = replies.reply;
    n = n;
    answers = replies.answers;
    appends =
        subst (λ t. Says held new_held (take n t)) replies.text_is k;
  }

-- a write fault leaves a front
pub unanswered : (fault : RunFault) (h : List Step) (c : Command) (held new_held : Sent) → fault ≡ faults.Write
    → AnsweredPart h c held new_held → Unanswered fault h c held new_held
unanswered fault h c held new_held e part = subst (λ f. Unanswered f h c held new_held) (sym e) (inl part)

pub unanswered_feed : (fault : RunFault) (h : List Step) (c : Command) (held new_held : Sent) → fault ≡ faults.Write
    → AnsweredPart h c held new_held ⊎ AnsweredLines h c held new_held → Unanswered fault h c held new_held
unanswered_feed fault h c held new_held e part = subst (λ f. Unanswered f h c held new_held) (sym e) part

-- where nothing was said before
pub answered_behind : (session : Session) (h : List Step) (c : Command) (before held new_held : Sent) → Says before held []
    → Answered session h c held new_held → Answered session h c before new_held
answered_behind session h c before held new_held still a = record {
  reply = a.reply;
  answers = a.answers;
  appends =
      says_behind before held new_held (text_of a.reply) still a.appends;
  stands = a.stands;
}

pub unanswered_behind : (fault : RunFault) (h : List Step) (c : Command) (before held new_held : Sent) → Says before held []
    → Unanswered fault h c held new_held → Unanswered fault h c before new_held
unanswered_behind faults.Read h c before held new_held still u = absurd u
unanswered_behind faults.Write h c before held new_held still (inl part) =
    inl (record {
      reply = part.reply;
      n = part.n;
      answers = part.answers;
      appends =
          says_behind before held new_held (take part.n (text_of part.reply)) still part.appends;
    })
unanswered_behind faults.Write h c before held new_held still (inr part) = inr (record {
  d = part.d;
  node = part.node;
  piece = part.piece;
  lines = part.lines;
  n = part.n;
  declared = part.declared;
  command_is = part.command_is;
  begins = part.begins;
  appends = says_behind before held new_held (take part.n (flat_map line_text part.lines)) still part.appends;
})
unanswered_behind faults.NoMemory h c before held new_held still part = (part.0, says_behind before held new_held [] still part.1)

-- a command by which a node is fed
pub fed_command : (n : ℕ) (bytes : List ℕ) (c : Command) → IsFeedOf n bytes c → Feed n bytes ≡ c
fed_command n bytes (Feed m piece) is = λ i. Feed (sym is.0 i) (sym is.1 i)
fed_command n bytes (Declare s) is = absurd is
fed_command n bytes (Take m o k b) is = absurd is
fed_command n bytes (Retire m o k) is = absurd is
fed_command n bytes (RetireTo m o k) is = absurd is
fed_command n bytes (Listing m) is = absurd is
fed_command n bytes (Ask m t) is = absurd is
fed_command n bytes (Put m s) is = absurd is
fed_command n bytes (Get s m) is = absurd is

-- a body that is kept may find no memory
pub kept_may_lack : (h : List Step) (c : Command) → KeepsBody c → MayLackMemory h c
kept_may_lack h (Declare s) kept = kept
kept_may_lack h (Take m o k b) kept = kept
kept_may_lack h (Retire m o k) kept = absurd kept
kept_may_lack h (RetireTo m o k) kept = absurd kept
kept_may_lack h (Listing m) kept = tt
kept_may_lack h (Ask m t) kept = kept
kept_may_lack h (Feed m p) kept = tt
kept_may_lack h (Put m s) kept = tt
kept_may_lack h (Get s m) kept = absurd kept

-- so may what a node is told, asked, puts or gets, where the slot that it gets was put, and the name that it retires is not retired
pub order_may_lack : (n : ℕ) (order : Order) (h : List Step) (c : Command) → IsOrderAt n order c
    → ((k : ℕ) → order ≡ orders.Get k → is_put h k ≡ true)
    → ((name : NameParts) → order ≡ orders.Retire name → MayNeedMemory (view_of (known h n)) (RetirementItem name))
    → ((name : NameParts) → order ≡ orders.RetireTo name → MayNeedMemory (view_of (known h n)) (FloorItem name)) → MayLackMemory h c
order_may_lack n (orders.Take name kept) h (Take m o k b) is put new rises = ((name, is.1), is.3)
order_may_lack n (orders.Take name kept) h (Declare s) is put new rises = is
order_may_lack n (orders.Take name kept) h (Retire m o k) is put new rises = absurd is
order_may_lack n (orders.Take name kept) h (RetireTo m o k) is put new rises = absurd is
order_may_lack n (orders.Take name kept) h (Listing m) is put new rises = tt
order_may_lack n (orders.Take name kept) h (Ask m t) is put new rises = absurd is
order_may_lack n (orders.Take name kept) h (Feed m p) is put new rises = tt
order_may_lack n (orders.Take name kept) h (Put m s) is put new rises = tt
order_may_lack n (orders.Take name kept) h (Get s m) is put new rises = absurd is
order_may_lack n (orders.Retire name) h (Take m o k b) is put new rises = absurd is
order_may_lack n (orders.Retire name) h (Declare s) is put new rises = is
order_may_lack n (orders.Retire name) h (Retire m o k) is put new rises =
    (name, is.1, subst (λ j. MayNeedMemory (view_of (known h j)) (RetirementItem name)) (sym is.0) (new name refl))
order_may_lack n (orders.Retire name) h (RetireTo m o k) is put new rises = absurd is
order_may_lack n (orders.Retire name) h (Listing m) is put new rises = tt
order_may_lack n (orders.Retire name) h (Ask m t) is put new rises = absurd is
order_may_lack n (orders.Retire name) h (Feed m p) is put new rises = tt
order_may_lack n (orders.Retire name) h (Put m s) is put new rises = tt
order_may_lack n (orders.Retire name) h (Get s m) is put new rises = absurd is
order_may_lack n (orders.RetireTo name) h (Take m o k b) is put new rises = absurd is
order_may_lack n (orders.RetireTo name) h (Declare s) is put new rises = is
order_may_lack n (orders.RetireTo name) h (Retire m o k) is put new rises = absurd is
order_may_lack n (orders.RetireTo name) h (RetireTo m o k) is put new rises =
    (name, is.1, subst (λ j. MayNeedMemory (view_of (known h j)) (FloorItem name)) (sym is.0) (rises name refl))
order_may_lack n (orders.RetireTo name) h (Listing m) is put new rises = tt
order_may_lack n (orders.RetireTo name) h (Ask m t) is put new rises = absurd is
order_may_lack n (orders.RetireTo name) h (Feed m p) is put new rises = tt
order_may_lack n (orders.RetireTo name) h (Put m s) is put new rises = tt
order_may_lack n (orders.RetireTo name) h (Get s m) is put new rises = absurd is
order_may_lack n orders.List h (Take m o k b) is put new rises = absurd is
order_may_lack n orders.List h (Declare s) is put new rises = is
order_may_lack n orders.List h (Retire m o k) is put new rises = absurd is
order_may_lack n orders.List h (RetireTo m o k) is put new rises = absurd is
order_may_lack n orders.List h (Listing m) is put new rises = tt
order_may_lack n orders.List h (Ask m t) is put new rises = absurd is
order_may_lack n orders.List h (Feed m p) is put new rises = tt
order_may_lack n orders.List h (Put m s) is put new rises = tt
order_may_lack n orders.List h (Get s m) is put new rises = absurd is
order_may_lack n (orders.Ask kept) h (Take m o k b) is put new rises = absurd is
order_may_lack n (orders.Ask kept) h (Declare s) is put new rises = is
order_may_lack n (orders.Ask kept) h (Retire m o k) is put new rises = absurd is
order_may_lack n (orders.Ask kept) h (RetireTo m o k) is put new rises = absurd is
order_may_lack n (orders.Ask kept) h (Listing m) is put new rises = tt
order_may_lack n (orders.Ask kept) h (Ask m t) is put new rises = is.2
order_may_lack n (orders.Ask kept) h (Feed m p) is put new rises = tt
order_may_lack n (orders.Ask kept) h (Put m s) is put new rises = tt
order_may_lack n (orders.Ask kept) h (Get s m) is put new rises = absurd is
order_may_lack n (orders.Put k) h (Take m o j b) is put new rises = absurd is
order_may_lack n (orders.Put k) h (Declare s) is put new rises = is
order_may_lack n (orders.Put k) h (Retire m o j) is put new rises = absurd is
order_may_lack n (orders.Put k) h (RetireTo m o j) is put new rises = absurd is
order_may_lack n (orders.Put k) h (Listing m) is put new rises = tt
order_may_lack n (orders.Put k) h (Ask m t) is put new rises = absurd is
order_may_lack n (orders.Put k) h (Feed m p) is put new rises = tt
order_may_lack n (orders.Put k) h (Put m s) is put new rises = tt
order_may_lack n (orders.Put k) h (Get s m) is put new rises = absurd is
order_may_lack n (orders.Get k) h (Take m o j b) is put new rises = absurd is
order_may_lack n (orders.Get k) h (Declare s) is put new rises = is
order_may_lack n (orders.Get k) h (Retire m o j) is put new rises = absurd is
order_may_lack n (orders.Get k) h (RetireTo m o j) is put new rises = absurd is
order_may_lack n (orders.Get k) h (Listing m) is put new rises = tt
order_may_lack n (orders.Get k) h (Ask m t) is put new rises = absurd is
order_may_lack n (orders.Get k) h (Feed m p) is put new rises = tt
order_may_lack n (orders.Get k) h (Put m s) is put new rises = tt
order_may_lack n (orders.Get k) h (Get s m) is put new rises = subst (λ j. is_put h j ≡ true) (sym is.0) (put k refl)
