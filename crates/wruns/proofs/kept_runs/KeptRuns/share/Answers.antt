use Rattle.std.proofs.Common.{◌≡◌, map, ap, subst, sym, ◌∙◌}
use Rattle.std.specs.Prelude.{All, List}
use Rattle.wvalues.specs.declared.key.SortKey.{SortKey}
use Rattle.wruns.specs.Runs.{IsRunOf}
use Rattle.wruns.specs.KeptRuns.{KeptParts, keys_kept, runs_in}
use Rattle.wruns.proofs.RunFacts.{all_alike, map-seen}
use Rattle.wruns.proofs.kept_runs.KeptRuns.share.Goals as goal

pub invariant_of-result : goal.invariant_of-result
invariant_of-result c =
    let old = c.self.inside.segment.value in
    let rows = ap (λ s. s.rows) c.in_ok-segment.ensures.cases in
    let all = all_alike (λ r. r.value) (IsRunOf old.rows) (runs_in c.in_ok-runs.runs) (runs_in c.self.inside.runs)
    c.in_ok-runs.ensures.runs c.self.invariant.one in
    record {
      one = subst (λ l. All (λ r. IsRunOf l r.value) (runs_in c.in_ok-runs.runs)) (sym rows) all;
      room = c.in_ok-runs.ensures.room;
    }

pub returns : goal.returns
returns c =
    let new = runs_in c.in_ok-runs.runs in
    let old = runs_in c.self.inside.runs in
    let keys : keys_kept new ≡ keys_kept old = sym (map-seen (λ r. r.value) (λ p. p.keys) new)
    ∙ ap (map (λ p. p.keys)) c.in_ok-runs.ensures.runs ∙ map-seen (λ r. r.value) (λ p. p.keys) old in
    let parts : KeptParts = record { content = c.in_ok-segment.segment.value; orders = keys_kept new } in
    ap (λ s. record parts { content = s }) c.in_ok-segment.ensures.cases
    ∙ ap (λ (o : List (List SortKey)). record parts { content = c.self.inside.segment.value; orders = o }) keys
    ∙ c.self.view_is
