use Rattle.std.proofs.Common.{◌≡◌, sym, ap, subst, ◌∙◌}
use Rattle.std.specs.Prelude.{All}
use Rattle.std.specs.List.{IsAmong}
use Rattle.std.proofs.lemmas.List.Elements.{recursion_from_All}
use Rattle.wruns.specs.Merging.{rows_seen}
use Rattle.wruns.specs.Refs.{refs_by}
use Rattle.wentries.specs.Blocks.{flat}
use Rattle.wentries.specs.Keeping.{orders_in, rows_in}
use Rattle.wset.specs.Sets.{DeclaredView}
use Rattle.wset.proofs.RunFacts.{rows_live}
use Rattle.wset.proofs.set.SegmentSet.merged.Goals as goal

pub sources-requires : goal.sources-requires
sources-requires c =
    let same : orders_in (flat c.deref.result.now) ≡ c.args.self.now.orders =
    ap (λ b. orders_in (flat b)) c.deref.ensures.value ∙ ap (λ (s : DeclaredView). s.orders) c.self.view_is in
    recursion_from_All (λ o. IsAmong o c.args.keys.now) (orders_in (flat c.deref.result.now))
    (subst (All (λ o. IsAmong o c.args.keys.now)) (sym same) c.requires)

pub returns : goal.returns
returns c =
    let rows = ap rows_seen c.deref-2.ensures.value ∙ c.in_ok-sources.ensures.rows ∙ ap (λ b. rows_in (flat b))
    c.deref.ensures.value ∙ rows_live c.self.inside c.args.self.now c.self.invariant c.self.view_is in
    c.in_ok-rows.ensures ∙ ap (refs_by c.args.keys.now) rows
