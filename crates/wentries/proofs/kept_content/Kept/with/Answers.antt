use Rattle.std.proofs.Common.{◌≡◌, Result, Ok, Err, IfOk, subst, sym}
use Rattle.std.specs.List.{IsAmong}
use Rattle.wruns.specs.Runs.{RunParts}
use Rattle.wentries.proofs.kept_content.Kept.with.Goals as goal

of_equal : {A E : Type 0} (P : A → Type 0) (r : Result A E) (x : A) → IfOk r (λ y. y ≡ x) → P x → IfOk r P
of_equal P (Ok y) x is p = subst P (sym is) p
of_equal P (Err e) x is p = tt

pub returns-clause-has : goal.returns-clause-has
returns-clause-has c =
    let has = subst (λ (r : RunParts). IsAmong c.keep_run.new.self.orders r.keys) c.in_ok-shared.ensures.cases
    c.in_ok-keep_run.ensures.has in
    of_equal (λ kept. IsAmong kept.orders c.args.run.now.value.keys) c.of.result c.keep_run.new.self c.of.ensures has
