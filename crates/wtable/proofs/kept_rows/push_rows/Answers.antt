use Rattle.std.proofs.Common.{◌<◌, ◌++◌, ◌∷◌, [], length, take, append_assoc, sym, ap, ◌∙◌, arith}
use Rattle.std.proofs.lemmas.List.{map-append, take_more}
use Rattle.wrows.specs.Laid.{row_seen, rows_seen}
use Rattle.wtable.proofs.kept_rows.push_rows.Goals as goal

pub loop-row-preserved : goal.loop-row-preserved
loop-row-preserved c =
    let stored = c.in_ok-segment.segment.now.rows in
    let old = rows_seen c.args.rows.now.items in
    let i = c.loop-row.row in
    let within : i < length stored = omega (arith, c.loop-row-test.true, c.rows-row-end.ensures.count) in
    ap rows_seen c.in_ok-push.ensures.items ∙ map-append row_seen c.loop-row.rows.items (_ ∷ [])
    ∙ ap (λ l. l ++ row_seen c.row.result ∷ []) c.loop-row.invariant
    ∙ append_assoc old (take i stored) (row_seen c.row.result ∷ [])
    ∙ ap (λ x. old ++ (take i stored ++ x ∷ [])) c.row.ensures.values
    ∙ ap (λ l. old ++ l) (sym (take_more stored i [] within))
