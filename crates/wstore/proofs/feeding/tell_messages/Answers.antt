use Rattle.std.proofs.Common.{arith}
use Rattle.wreplies.specs.Texts.{bytes_of}
use Rattle.wstore.proofs.Handling.{on_ok_then, on_err_then, nothing_told, one_more, some_told, all_told}
use Rattle.wstore.proofs.Handling.{all_told_part, bad_told, bad_told_part, room, fewer}
use Rattle.wstore.proofs.feeding.tell_messages.Goals as goal

pub messages-init : goal.messages-init
messages-init g c = record { sound = c.requires.output; so_far = nothing_told c.args.node.now _ }

pub messages-preserved-in_default : goal.messages-preserved-in_default
messages-preserved-in_default g c =
    let handles = rw c.in-Ok-Some.field-0-is at c.in-Ok-Some.ensures in
    record {
      sound = c.in_default.ensures.sound;
      so_far = one_more c.args.node.now c.messages.node c.next_reply.new.self _ _ _ c.messages.count
          c.messages.invariant.so_far c.in-Ok-Some.reply (bytes_of c.reply_text-text.result) handles
          c.reply_text-text.ensures (rw c.as_slice.ensures at c.in_default.ensures.ok);
    }

pub messages-preserved : goal.messages-preserved
messages-preserved g c =
    let handles = rw c.in-Ok-Some.field-0-is at c.in-Ok-Some.ensures in
    record {
      sound = c.in_default.ensures.sound;
      so_far = one_more c.args.node.now c.messages.node c.next_reply.new.self _ _ _ c.messages.count
          c.messages.invariant.so_far c.in-Ok-Some.reply (bytes_of c.reply_text-text.result) handles
          c.reply_text-text.ensures (rw c.as_slice.ensures at c.in_default.ensures.ok);
    }

pub messages-smaller : goal.messages-smaller
messages-smaller g c =
    let handles = rw c.in-Ok-Some.field-0-is at c.in-Ok-Some.ensures in
    fewer c.messages.node c.next_reply.new.self c.in-Ok-Some.reply handles

pub overflow_add-count : goal.overflow_add-count
overflow_add-count g c =
    let handles = rw c.in-Ok-Some.field-0-is at c.in-Ok-Some.ensures in
    omega (
      arith,
      room c.args.node.now c.messages.node _ _ c.messages.count c.messages.invariant.so_far,
      fewer c.messages.node c.next_reply.new.self c.in-Ok-Some.reply handles,
      c.pending-most.ensures,
    )

pub returns-in-Ok-None-clause-ok : goal.returns-in-Ok-None-clause-ok
returns-in-Ok-None-clause-ok g c =
    let ends = rw c.in-Ok-None.field-0-is at c.in-Ok-None.ensures in
    on_ok_then c.send_fed.result _ _ (λ k. all_told c.args.node.now c.messages.node c.next_reply.new.self _ _ _
    c.messages.count c.messages.invariant.so_far ends k) c.send_fed.ensures.ok

pub returns-in-Ok-None-clause-part : goal.returns-in-Ok-None-clause-part
returns-in-Ok-None-clause-part g c =
    let ends = rw c.in-Ok-None.field-0-is at c.in-Ok-None.ensures in
    on_err_then c.send_fed.result _ _ (λ w. all_told_part c.args.node.now c.messages.node c.next_reply.new.self _ _ _
    c.messages.count c.messages.invariant.so_far ends w) c.send_fed.ensures.front

pub returns-in-Err-send-clause-part : goal.returns-in-Err-send-clause-part
returns-in-Err-send-clause-part g c =
    let handles = rw c.in-Ok-Some.field-0-is at c.in-Ok-Some.ensures in
    let front = c.in-Err-send.ensures.front in
    some_told c.args.node.now c.messages.node c.next_reply.new.self _ _ _ c.messages.count c.messages.invariant.so_far
    c.in-Ok-Some.reply (bytes_of c.reply_text-text.result) handles c.reply_text-text.ensures (front.0, rw c.as_slice.ensures at front.1)

pub returns-in-Err-clause-ok : goal.returns-in-Err-clause-ok
returns-in-Err-clause-ok g c =
    on_ok_then c.send.result _ _ (λ k. bad_told c.args.node.now c.messages.node c.next_reply.new.self _ _ _ c.messages.count
    c.messages.invariant.so_far c.requires.good c.in-Err.ensures k) c.send.ensures.ok

pub returns-in-Err-clause-part : goal.returns-in-Err-clause-part
returns-in-Err-clause-part g c =
    on_err_then c.send.result _ _ (λ w. bad_told_part c.args.node.now c.messages.node c.next_reply.new.self _ _ _
    c.messages.count c.messages.invariant.so_far c.requires.good c.in-Err.ensures w) c.send.ensures.front
