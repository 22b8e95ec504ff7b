use Rattle.std.proofs.Common.{◌≡◌, map, sym, ap, ◌∙◌}
use Rattle.wplan.specs.Plans.{key_plan}
use Rattle.wrows.specs.Columns.{lists_of}
use Rattle.wrows.specs.Laid.{formulas_seen, rows_seen}
use Rattle.wcalls.proofs.parts.window_keys.Goals as goal

pub returns-clause-gives : goal.returns-clause-gives
returns-clause-gives c =
    let rows = rows_seen c.args.rows.now in
    let answer : formulas_seen c.deref-2.result.now ≡ map (λ k. k.value) (map key_plan c.args.window.now.keys.items)
    = ap formulas_seen c.deref-2.ensures.value ∙ c.in_ok-values.ensures.values
    ∙ ap (λ l. map (λ k. k.value) (map key_plan l)) c.deref.ensures.value in
    sym (ap (λ ts. lists_of ts rows) answer) ∙ c.in_ok-lists.ensures.gives
