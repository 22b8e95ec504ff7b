use Rattle.std.proofs.Common.{◌≡◌, length, subst, ap, ◌∙◌, IfOk, arith}
use Rattle.std.proofs.lemmas.List.Elements.{recursion_from_All}
use Rattle.wruns.specs.Lists.{run_refs}
use Rattle.wruns.specs.Merging.{has_keys}
use Rattle.wruns.proofs.HeadFacts.{one_alone}
use Rattle.wruns.proofs.ordering.ordered.Goals as goal

pub returns-then-sources-eq1 : goal.returns-then-sources-eq1
returns-then-sources-eq1 c =
    let ss = c.args.sources.now in
    let keys = c.args.keys.now in
    let one : length ss ≡ 1 = omega (arith, c.if-sources-eq1.true) in
    let told = one_alone keys ss c.index-sources-0.result one c.index-sources-0.is (recursion_from_All (has_keys keys) ss c.requires) in
    subst (λ l. IfOk c.rows_alone.result (λ refs. refs.items ≡ l)) (ap (run_refs 0) c.run.ensures.same ∙ told) c.rows_alone.ensures
