use Rattle.std.proofs.Common.{◌≡◌, ◌-◌, min, refl, ◌<◌, ◌++◌, ◌∷◌, [], length, take, append_assoc, sym, ap, ◌∙◌, arith}
use Rattle.std.proofs.lemmas.List.{map-append, take_more}
use Rattle.wrows.specs.Laid.{row_seen, rows_seen}
use Rattle.wtable.proofs.FrontFacts.{front_taken}
use Rattle.wtable.proofs.front.push_front.Goals as goal

pub loop-row-preserved : goal.loop-row-preserved
loop-row-preserved c =
    let stored = c.in_ok-segment.segment.now.rows in
    let old = rows_seen c.args.rows.now.items in
    let i = c.loop-row.row in
    let within : i < length stored = omega (arith, c.loop-row-test.true, c.at_most-count.ensures, c.rows.ensures.count) in
    ap rows_seen c.in_ok-push.ensures.items ∙ map-append row_seen c.loop-row.rows.items (_ ∷ [])
    ∙ ap (λ l. l ++ row_seen c.row.result ∷ []) c.loop-row.invariant
    ∙ append_assoc old (take i stored) (row_seen c.row.result ∷ [])
    ∙ ap (λ x. old ++ (take i stored ++ x ∷ [])) c.row.ensures.values
    ∙ ap (λ l. old ++ l) (sym (take_more stored i [] within))

pub returns : goal.returns
returns c =
    let stored = c.in_ok-segment.segment.now.rows in
    let old = rows_seen c.args.rows.now.items in
    let left = c.saturating_sub-left.result in
    let is : left ≡ c.args.most - length c.args.rows.now.items = omega (arith, c.saturating_sub-left.ensures, c.len.ensures) in
    let end : c.loop-row.row ≡ min left (length stored) =
    omega (arith, c.loop-row-test.false, c.at_most-count.ensures, c.rows.ensures.count) in
    c.loop-row.invariant ∙ ap (λ l. old ++ l) (front_taken left (length stored) stored c.loop-row.row refl end)
    ∙ ap (λ n. old ++ take n stored) is
    ∙ ap (λ content. old ++ take (c.args.most - length c.args.rows.now.items) content.rows) c.in_ok-segment.ensures
