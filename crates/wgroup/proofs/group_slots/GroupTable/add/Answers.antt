use Rattle.std.proofs.Common.{◌≡◌, ◌≤◌, ◌<◌, ◌+◌, ◌-◌, ◌++◌, ◌∷◌, [], length, length-append, map, suc, take}
use Rattle.std.proofs.Common.{drop, set, get_or, refl, subst, sym, ap, ◌∙◌, arith}
use Rattle.std.specs.Prelude.{Some, nat_le}
use Rattle.std.specs.List.{position}
use Rattle.std.proofs.lemmas.List.{length-set}
use Rattle.wvalues.specs.Meaning.{meaning}
use Rattle.wgroup.specs.Sight.{key_in}
use Rattle.wgroup.specs.declared.group_slots.GroupTable.{GroupTable}
use Rattle.wgroup.specs.Table.{AreMet, HasKeys}
use Rattle.wgroup.proofs.TableFacts.{IsPut, free_near, held_new, keys_more, apart_more, apart_still, met_apart, met_near}
use Rattle.wgroup.proofs.group_slots.GroupTable.add.Goals as goal
use Rattle.wgroup.proofs.group_slots.GroupTable.add.Goals.{in-Some, in-None+in_ok-push-in-None}

pub returns-clause-held : goal.returns-clause-held
returns-clause-held c =
    let keyed = c.args.keyed.now in
    let table = c.args.self.now in
    let firsts = table.firsts.items in
    let slots = table.slots.items in
    let apart = table.apart.items in
    let first = c.args.first in
    let row = c.args.row in
    let met : AreMet keyed firsts slots apart = c.requires.held.met in
    let last : length firsts ≡ c.len-groups.result = sym (c.len-groups.ensures ∙ table.firsts.ok.0) in
    let after = c.match-free_slot.self in
    let put : IsPut keyed row table after
    = elim c.match-free_slot.branch [
      | in-Some w ↦
          let eight : 8 ≡ (first + 8) - first = omega arith in
          let found : position (nat_le (length firsts)) (take 8 (drop first slots)) ≡ Some w.in-Some.step
          = ap (λ n. position (nat_le n) (take 8 (drop first slots))) last
          ∙ ap (λ l. position (nat_le c.len-groups.result) (take 8 (drop first l))) (sym c.deref.ensures.value)
          ∙ ap (λ n. position (nat_le c.len-groups.result) (take n (drop first c.deref.result.now))) eight
          ∙ sym c.free_slot.ensures ∙ w.in-Some.is in
          let free : (w.in-Some.step < 8) × (length firsts ≤ get_or slots (first + w.in-Some.step) 0) =
          free_near slots first (length firsts) w.in-Some.step c.requires.within found in
          let near : AreMet keyed (firsts ++ row ∷ []) (set slots (first + w.in-Some.step) c.len-groups.result) apart
          = subst (λ n. AreMet keyed (firsts ++ row ∷ []) (set slots (first + w.in-Some.step) n) apart) last
          (met_near keyed firsts slots apart met first row c.requires.first w.in-Some.step free.0 c.requires.within free.1) in
          subst (IsPut keyed row table) (sym w.self-is) (record {
            firsts = refl;
            keys = refl;
            long =
                length-set slots (first + w.in-Some.step) c.len-groups.result;
            met = near;
            more = omega arith;
          })
      | in-None+in_ok-push-in-None w ↦
          let far : AreMet keyed (firsts ++ row ∷ []) slots w.push.new.self.items
          = subst (AreMet keyed (firsts ++ row ∷ []) slots) (ap (λ n. apart ++ n ∷ []) last
          ∙ sym w.in_ok-push-in-None.ensures.items) (met_apart keyed firsts slots apart met first row c.requires.first) in
          let longer : length w.push.new.self.items ≡ suc (length apart) =
          omega (arith, ap length w.in_ok-push-in-None.ensures.items, length-append apart (c.len-groups.result ∷ [])) in
          subst (IsPut keyed row table) (sym w.self-is) (record {
            firsts = refl;
            keys = refl;
            long = refl;
            met = far;
            more = omega (arith, longer);
          })
    ] in
    let keys : HasKeys keyed (firsts ++ row ∷ []) c.push_key.new.cells.items
    = keys_more keyed firsts table.keys.items c.requires.held.keys row (map meaning c.cells_at.result.now)
    c.push_key.new.cells.items c.cells_at.ensures
    (c.in_ok-push_key.ensures ∙ ap (λ l. map meaning l ++ key_in keyed.columns.now (map meaning c.cells_at.result.now)) put.keys) in
    held_new keyed row table c.requires.held c.requires.new _ (c.in_ok-push.ensures.items
    ∙ ap (λ l. l ++ row ∷ []) put.firsts) keys put.long put.met put.more

pub returns-clause-apart : goal.returns-clause-apart
returns-clause-apart c =
    let table = c.args.self.now in
    let slots = table.slots.items in
    let first = c.args.first in
    let last : length table.firsts.items ≡ c.len-groups.result = sym (c.len-groups.ensures ∙ table.firsts.ok.0) in
    let eight : 8 ≡ (first + 8) - first = omega arith in
    let found : position (nat_le (length table.firsts.items)) (take 8 (drop first slots)) ≡ c.free_slot.result
    = ap (λ n. position (nat_le n) (take 8 (drop first slots))) last
    ∙ ap (λ l. position (nat_le c.len-groups.result) (take 8 (drop first l))) (sym c.deref.ensures.value)
    ∙ ap (λ n. position (nat_le c.len-groups.result) (take n (drop first c.deref.result.now))) eight
    ∙ sym c.free_slot.ensures in
    elim c.match-free_slot.branch [
      | in-Some w ↦ ap (λ (t : GroupTable). t.apart.items) w.self-is ∙ apart_still table first w.in-Some.step (found ∙ w.in-Some.is)
      | in-None+in_ok-push-in-None w ↦
          ap (λ (t : GroupTable). t.apart.items) w.self-is ∙ w.in_ok-push-in-None.ensures.items
          ∙ ap (λ n. table.apart.items ++ n ∷ []) (sym last) ∙ apart_more table first (found ∙ w.in-None.is)
    ]
