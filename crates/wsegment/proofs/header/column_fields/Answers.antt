use Rattle.std.proofs.Common.{◌∙◌, inr, refl, sym, suc, add-one, arith, drop, map}
use Rattle.std.proofs.lemmas.Grind.{common_steps}
use Rattle.std.specs.Str.{bytes_eq}
use Rattle.wsegment.specs.Declaration.{Described}
use Rattle.wsegment.specs.Header.{field_of}
use Rattle.wsegment.proofs.HeaderFacts.{complete-go, complete-stop, fields-go}
use Rattle.wsegment.proofs.ListFacts.{item-drop, position-map}
use Rattle.wsegment.proofs.header.column_fields.Goals as goal

pub returns-in_default-clause-gives : goal.returns-in_default-clause-gives
returns-in_default-clause-gives c =
    let column = c.column-item.result in
    let columns = c.args.columns.now in
    let i = c.loop-column.column-index in
    let none = c.in_default.ensures ∙ sym (position-map (λ (other : Described). bytes_eq other.name column.name)
    (λ other. other.now) c.args.header.now) in
    inr (
      refl,
      c.loop-column.invariant.complete ∙ complete-stop (map (λ c. c.now) c.args.header.now) (drop i columns)
          (drop (suc i) columns) column (item-drop columns i column c.loop-column-test.true c.column-item.is) none,
    )

pub loop-column-preserved : goal.loop-column-preserved
loop-column-preserved c =
    let column = c.column-item.result in
    let columns = c.args.columns.now in
    let i = c.loop-column.column-index in
    let front = item-drop columns i column c.loop-column-test.true c.column-item.is in
    let found = c.in-Some.ensures ∙ sym (position-map (λ (other : Described). bytes_eq other.name column.name)
    (λ other. other.now) c.args.header.now) in
    record {
      so_far = rw (c.in_ok-push.ensures.items, add-one i) (fields-go (map (λ c. c.now) c.args.header.now) (drop i columns)
          (drop (suc i) columns) c.loop-column.fields.items column c.in-Some.field
          (map (field_of (map (λ c. c.now) c.args.header.now)) columns) front found c.loop-column.invariant.so_far);
      complete = rw (add-one i) (c.loop-column.invariant.complete ∙ complete-go (map (λ c. c.now) c.args.header.now)
          (drop i columns) (drop (suc i) columns) column c.in-Some.field front found);
      within = rw c.in_ok-push.ensures.items (grind (arith, common_steps, c.loop-column.invariant.within));
    }
