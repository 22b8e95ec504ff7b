use Rattle.std.proofs.Common.{◌∙◌, ◌++◌, ℕ, List, Global, ap, arith}
use Rattle.std.specs.declared.rc.RcStr.{RcStr}
use Rattle.std.specs.Rc.{rc_str_bytes}
use Rattle.wprinted.specs.Printing.{text_field}
use Rattle.wprinted.proofs.Lines.{joined-first, joined-more}
use Rattle.wprinted.proofs.printing.push_names.Goals as goal
use Rattle.wprinted.proofs.printing.push_names.Goals.{then-i-gt0+in_ok-push, else-i-gt0}

pub loop-i-preserved : goal.loop-i-preserved
loop-i-preserved c =
    let text : RcStr Global → List ℕ = λ name. text_field (rc_str_bytes name) in
    let pushed = c.in_ok-push_text.ensures ∙ ap (λ bytes. c.if-i-gt0.bytes.items ++ text_field bytes)
    (c.as_bytes.ensures.value ∙ c.as_str.ensures.value) in
    elim c.if-i-gt0.branch [
      | then-i-gt0+in_ok-push w ↦ joined-more 44 text c.args.names.now c.loop-i.i c.index-names-i.result
          c.args.bytes.now.items c.loop-i.bytes.items c.if-i-gt0.bytes.items c.push_text.new.bytes.items
          w.if-i-gt0.true c.loop-i-test.true c.index-names-i.is c.loop-i.invariant (ap (λ bytes. bytes.items) w.bytes-is
          ∙ w.in_ok-push.ensures.items) pushed
      | else-i-gt0 w ↦ joined-first 44 text c.args.names.now c.loop-i.i c.index-names-i.result c.args.bytes.now.items
          c.if-i-gt0.bytes.items c.push_text.new.bytes.items
          (omega (arith, w.if-i-gt0.false)) c.loop-i-test.true c.index-names-i.is (ap (λ bytes. bytes.items) w.bytes-is
          ∙ c.loop-i.invariant) pushed
    ]
