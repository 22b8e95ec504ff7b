use Rattle.std.proofs.Common.{◌≡◌, ◌++◌, ◌∷◌, [], ap, subst, sym, ◌∙◌}
use Rattle.std.specs.Prelude.{OnOk}
use Rattle.std.specs.List.{IsAmong}
use Rattle.circular_buffer.specs.Buffer.{keep_last}
use Rattle.wruns.specs.Runs.{IsRunOf}
use Rattle.wruns.specs.KeptRuns.{KeptParts, runs_in, keys_kept}
use Rattle.wruns.proofs.RunFacts.{all_after, key_among, keys_after}
use Rattle.wruns.proofs.kept_runs.KeptRuns.make.Goals as goal

pub invariant_of-self : goal.invariant_of-self
invariant_of-self c =
    let rows = c.self.inside.segment.value.rows in
    let here : IsRunOf rows c.in-Ok.shared.value =
    subst (IsRunOf rows) (sym c.in-Ok.ensures.ok) (subst (λ l. IsRunOf l c.in_ok-run.run')
    (ap (λ s. s.rows) c.as_ref.ensures) c.in_ok-run.ensures.run) in
    record {
      one = all_after (λ r. r.value.keys) (runs_in c.self.inside.runs) (runs_in c.keep.new.runs) c.in-Ok.shared
          c.keep.result c.keep.ensures.ok (λ r. IsRunOf rows r.value) c.keep.ensures.err (ap runs_in) c.self.invariant.one here;
      room = c.keep.ensures.room;
    }

pub returns-clause-made : goal.returns-clause-made
returns-clause-made c = λ h.
    let keys : c.in-Ok.shared.value.keys ≡ c.args.keys.now = ap (λ r. r.keys) c.in-Ok.ensures.ok ∙ c.in_ok-run.ensures.keys in
    let old : keys_kept (runs_in c.self.inside.runs) ≡ c.args.self.now.orders = ap (λ (k : KeptParts). k.orders) c.self.view_is in
    let after = keys_after (λ r. r.value.keys) (runs_in c.self.inside.runs) (runs_in c.keep.new.runs) c.in-Ok.shared
    c.keep.result c.keep.ensures.ok in
    subst (λ l. OnOk c.keep.result (keys_kept (runs_in c.keep.new.runs) ≡ keep_last 4 l))
    (ap (λ l. l ++ c.in-Ok.shared.value.keys ∷ []) old ∙ ap (λ k. c.args.self.now.orders ++ k ∷ []) keys) after

pub returns-clause-has : goal.returns-clause-has
returns-clause-has c =
    let keys : c.in-Ok.shared.value.keys ≡ c.args.keys.now = ap (λ r. r.keys) c.in-Ok.ensures.ok ∙ c.in_ok-run.ensures.keys in
    subst (λ k. OnOk c.keep.result (IsAmong (keys_kept (runs_in c.keep.new.runs)) k)) keys
    (key_among (λ r. r.value.keys) (runs_in c.self.inside.runs) (runs_in c.keep.new.runs) c.in-Ok.shared c.keep.result c.keep.ensures.ok)
