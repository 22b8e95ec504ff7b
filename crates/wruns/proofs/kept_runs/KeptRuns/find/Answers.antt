use Rattle.std.proofs.Common.{ap, subst}
use Rattle.std.specs.Prelude.{All, IfSome}
use Rattle.wruns.specs.Runs.{IsRunOf}
use Rattle.wruns.specs.KeptRuns.{KeptParts, runs_in}
use Rattle.wruns.proofs.kept_runs.KeptRuns.find.Goals as goal

pub returns-in-Some-clause-one : goal.returns-in-Some-clause-one
returns-in-Some-clause-one c =
    let rows = c.self.inside.segment.value.rows in
    let all = subst (λ o. All (λ r. IsRunOf rows r.value) (runs_in o)) c.in-Some.is c.self.invariant.one in
    subst (λ l. IfSome c.find_in.result (λ run. IsRunOf l run.now)) (ap (λ (k : KeptParts). k.content.rows) c.self.view_is)
    (c.find_in.ensures.one rows all)
