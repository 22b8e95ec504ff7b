use Rattle.std.proofs.Common.{◌≡◌, ◌∙◌, ◌++◌, [], ◌∷◌, ℕ, List, get_or, map, take, sym, ap, append_assoc, arith}
use Rattle.std.proofs.lemmas.List.{get_or_default, take_all}
use Rattle.std.proofs.lemmas.Simd.{map-map}
use Rattle.std.specs.List.{join_with_byte}
use Rattle.wvalues.specs.Meaning.{Null}
use Rattle.wprinted.specs.Beside.{values_of}
use Rattle.wprinted.specs.Printing.{comma, field_text, line_text}
use Rattle.wprinted.proofs.Lines.{joined-first, joined-more}
use Rattle.wprinted.proofs.batch.push_values.Goals as goal
use Rattle.wprinted.proofs.batch.push_values.Goals.{then-i-gt0+in_ok-push, else-i-gt0}

pub loop-i-preserved : goal.loop-i-preserved
loop-i-preserved c =
    let text : ℕ → List ℕ = λ place. field_text (get_or (values_of c.args.row.now) place Null) in
    let place : ℕ = get_or c.args.places.now c.loop-i.i 0 in
    let is = get_or_default c.args.places.now c.loop-i.i 0 place c.loop-i-test.true in
    let pushed = c.in_ok-push_field.ensures ∙ ap (λ value. c.if-i-gt0.bytes.items ++ field_text value) c.field_at.ensures in
    elim c.if-i-gt0.branch [
      | then-i-gt0+in_ok-push w ↦ joined-more 44 text c.args.places.now c.loop-i.i place c.args.bytes.now.items
          c.loop-i.bytes.items c.if-i-gt0.bytes.items c.push_field.new.bytes.items
          w.if-i-gt0.true c.loop-i-test.true is c.loop-i.invariant (ap (λ bytes. bytes.items) w.bytes-is
          ∙ w.in_ok-push.ensures.items) pushed
      | else-i-gt0 w ↦ joined-first 44 text c.args.places.now c.loop-i.i place c.args.bytes.now.items c.if-i-gt0.bytes.items
          c.push_field.new.bytes.items
          (omega (arith, w.if-i-gt0.false)) c.loop-i-test.true is (ap (λ bytes. bytes.items) w.bytes-is ∙ c.loop-i.invariant) pushed
    ]

pub returns : goal.returns
returns c =
    let ps = c.args.places.now in
    let row = values_of c.args.row.now in
    let text : ℕ → List ℕ = λ place. field_text (get_or row place Null) in
    let all : take c.loop-i.i ps ≡ ps = take_all c.loop-i.i ps (omega (arith, c.loop-i-test.false)) in
    c.in_ok-push-2.ensures.items ∙ ap (λ front. front ++ 10 ∷ []) c.loop-i.invariant
    ∙ append_assoc c.args.bytes.now.items (join_with_byte comma (map text (take c.loop-i.i ps))) (10 ∷ [])
    ∙ ap (λ l. c.args.bytes.now.items ++ line_text (map text l)) all
    ∙ ap (λ l. c.args.bytes.now.items ++ line_text l) (sym (map-map field_text (λ place. get_or row place Null) ps))
