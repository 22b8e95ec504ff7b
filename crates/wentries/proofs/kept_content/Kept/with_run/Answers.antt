use Rattle.std.proofs.Common.{◌≡◌, Result, Ok, Err, IfOk, subst, sym}
use Rattle.std.specs.List.{IsAmong}
use Rattle.wentries.proofs.kept_content.Kept.with_run.Goals as goal

of_equal : {A E : Type 0} (P : A → Type 0) (r : Result A E) (x : A) → IfOk r (λ y. y ≡ x) → P x → IfOk r P
of_equal P (Ok y) x is p = subst P (sym is) p
of_equal P (Err e) x is p = tt

pub returns-clause-has : goal.returns-clause-has
returns-clause-has c = of_equal (λ kept. IsAmong kept.orders c.args.keys.now) c.of.result c.make.new.self c.of.ensures
    c.in_ok-make.ensures.has
