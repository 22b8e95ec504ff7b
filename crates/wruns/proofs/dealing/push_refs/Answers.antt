use Rattle.std.proofs.Common.{◌++◌, ◌∷◌, [], map, ap, sym, ◌∙◌, append_assoc}
use Rattle.std.proofs.lemmas.List.{map-append}
use Rattle.wframe.specs.Places.{places}
use Rattle.wruns.specs.Lists.{ref}
use Rattle.wruns.proofs.DealingFacts.{places_more}
use Rattle.wruns.proofs.dealing.push_refs.Goals as goal

pub loop-row-preserved : goal.loop-row-preserved
loop-row-preserved c =
    let segment = c.args.segment in
    let row = c.loop-row.row in
    let old = c.args.refs.now.items in
    c.in_ok-push.ensures.items ∙ ap (λ l. l ++ ref segment row ∷ []) c.loop-row.invariant
    ∙ append_assoc old (map (ref segment) (places row)) (ref segment row ∷ [])
    ∙ ap (λ l. old ++ l) (sym (map-append (ref segment) (places row) (row ∷ [])) ∙ ap (map (ref segment)) (sym (places_more row)))
