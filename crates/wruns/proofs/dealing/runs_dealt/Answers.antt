use Rattle.std.proofs.Common.{◌<◌, length, ap, sym, ◌∙◌, arith}
use Rattle.std.specs.Borrow.{Bor}
use Rattle.std.proofs.lemmas.List.{length-map}
use Rattle.std.proofs.lemmas.List.Elements.{All-same}
use Rattle.wsegment.specs.Rows.{Content}
use Rattle.wruns.specs.Dealing.{dealt_places, lists_seen, segment_rows}
use Rattle.wruns.specs.Refs.{refs_by}
use Rattle.wruns.proofs.DealingFacts.{dealt_in_order, segments_within}
use Rattle.wruns.proofs.dealing.runs_dealt.Goals as goal

pub places_dealt-requires : goal.places_dealt-requires
places_dealt-requires c =
    let keys = c.args.table.now.keys.now in
    let segments = c.args.table.now.segments.now in
    let s = segment_rows segments in
    let long = length-map segments (λ (x : Bor Content). x.now.rows) in
    All-same (λ r. r.segment < length segments) c.args.rows.now (refs_by keys s) c.requires
    (λ k d h. omega (arith, segments_within keys s k d h, long))

pub runs_of-requires : goal.runs_of-requires
runs_of-requires c =
    let keys = c.args.table.now.keys.now in
    let segments = c.args.table.now.segments.now in
    let s = segment_rows segments in
    ap lists_seen c.deref.ensures.value ∙ c.in_ok-lists.ensures ∙ ap (λ l. dealt_places l (length segments)) c.requires
    ∙ ap (dealt_places (refs_by keys s)) (sym (length-map segments (λ (x : Bor Content). x.now.rows))) ∙ dealt_in_order keys s
