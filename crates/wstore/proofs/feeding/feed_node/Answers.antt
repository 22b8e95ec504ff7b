use Rattle.std.proofs.Common.{◌≡◌, Bool, true, false, Result, Err, refl, inl, inr}
use Rattle.wstream.specs.declared.message.PushFault.{PushFault}
use Rattle.wstream.specs.declared.message.PushFault.TheVariants.{Bad, NoMemory}
use Rattle.wstore.proofs.Handling.{on_ok_then, on_err_then}
use Rattle.wstore.proofs.feeding.feed_node.Goals as goal

pub returns-in-Ok-clause-ok : goal.returns-in-Ok-clause-ok
returns-in-Ok-clause-ok g c = on_ok_then c.tell_messages.result _ _
    (λ sends. inl (c.in-Ok.ensures.good, rw c.in-Ok.ensures.ok at sends)) c.tell_messages.ensures.ok

pub returns-in-Ok-clause-part : goal.returns-in-Ok-clause-part
returns-in-Ok-clause-part g c = on_err_then c.tell_messages.result _ _
    (λ sends. inl (c.in-Ok.ensures.good, rw c.in-Ok.ensures.ok at sends)) c.tell_messages.ensures.part

pub returns-in-Err-Bad-clause-ok : goal.returns-in-Err-Bad-clause-ok
returns-in-Err-Bad-clause-ok g c =
    let bad = rw c.in-Err-Bad.field-0-is at c.in-Err-Bad.ensures.bad in
    on_ok_then c.send.result _ _ (λ k. inr (inl (bad refl, c.in-Err-Bad.ensures.err, k))) c.send.ensures.ok

pub returns-in-Err-Bad-clause-part : goal.returns-in-Err-Bad-clause-part
returns-in-Err-Bad-clause-part g c =
    let bad = rw c.in-Err-Bad.field-0-is at c.in-Err-Bad.ensures.bad in
    on_err_then c.send.result _ _ (λ w. inr (inl (bad refl, w))) c.send.ensures.front

abbrev refused : PushFault → Result (Unit {0}) PushFault
refused f = Err f

-- a stream for whose piece there is no memory is good
is_good : (bad : Bool) → (bad ≡ true → refused NoMemory ≡ refused Bad) → bad ≡ false
is_good true told = absurd (let e = told refl in cc)
is_good false told = refl

pub returns-in-Err-NoMemory-clause-ok : goal.returns-in-Err-NoMemory-clause-ok
returns-in-Err-NoMemory-clause-ok g c = on_ok_then c.send-in-Err-NoMemory.result _ _
    (λ k. inr (inr (
      is_good _ (rw c.in-Err-NoMemory.field-0-is at c.in-Err-NoMemory.ensures.stays_bad),
      c.in-Err-NoMemory.ensures.err,
      k,
    ))) c.send-in-Err-NoMemory.ensures.ok

pub returns-in-Err-NoMemory-clause-part : goal.returns-in-Err-NoMemory-clause-part
returns-in-Err-NoMemory-clause-part g c =
    on_err_then c.send-in-Err-NoMemory.result _ _
    (λ w. inr (inr (is_good _ (rw c.in-Err-NoMemory.field-0-is at c.in-Err-NoMemory.ensures.stays_bad), w)))
    c.send-in-Err-NoMemory.ensures.front
