use Rattle.std.proofs.Common.{◌≡◌, ◌++◌, ◌∷◌, [], ap, subst, sym}
use Rattle.std.specs.Prelude.{OnOk}
use Rattle.circular_buffer.specs.Buffer.{keep_last}
use Rattle.wruns.specs.Runs.{IsRunOf}
use Rattle.wruns.specs.KeptRuns.{KeptParts, runs_in, keys_kept}
use Rattle.wruns.proofs.RunFacts.{all_after, key_among, keys_after}
use Rattle.wruns.proofs.kept_runs.KeptRuns.keep_run.Goals as goal

pub invariant_of-self : goal.invariant_of-self
invariant_of-self c =
    let rows = c.self.inside.segment.value.rows in
    let here : IsRunOf rows c.args.run.value = subst (λ (k : KeptParts). IsRunOf k.content.rows c.args.run.value)
    (sym c.self.view_is) c.requires in
    record {
      one = all_after (λ r. r.value.keys) (runs_in c.self.inside.runs) (runs_in c.keep.new.runs) c.args.run c.keep.result
          c.keep.ensures.ok (λ r. IsRunOf rows r.value) c.keep.ensures.err (ap runs_in) c.self.invariant.one here;
      room = c.keep.ensures.room;
    }

pub returns-clause-made : goal.returns-clause-made
returns-clause-made c = λ h.
    let old : keys_kept (runs_in c.self.inside.runs) ≡ c.args.self.now.orders = ap (λ (k : KeptParts). k.orders) c.self.view_is in
    let after = keys_after (λ r. r.value.keys) (runs_in c.self.inside.runs) (runs_in c.keep.new.runs) c.args.run
    c.keep.result c.keep.ensures.ok in
    subst (λ l. OnOk c.keep.result (keys_kept (runs_in c.keep.new.runs) ≡ keep_last 4 l))
    (ap (λ l. l ++ c.args.run.value.keys ∷ []) old) after

pub returns-clause-has : goal.returns-clause-has
returns-clause-has c = key_among (λ r. r.value.keys) (runs_in c.self.inside.runs) (runs_in c.keep.new.runs) c.args.run
    c.keep.result c.keep.ensures.ok
