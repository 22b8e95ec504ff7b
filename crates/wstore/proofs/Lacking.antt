-- What needs no memory finds some.
use Rattle.std.proofs.Common.{◌≡◌, Result, Ok, Err, OnErr}

-- a result that is good wherever P holds was refused only where it does not
pub err_needs : {A E : Type 0} (r : Result A E) (x : A) (e : E) (P : Type 0) → r ≡ Err e → (P → r ≡ Ok x) → P → ⊥
err_needs (Ok y) x e P is good p = let w = is in cc
err_needs (Err d) x e P is good p = let w = good p in cc

pub on_err_needs : {A E : Type 0} (r : Result A E) (x : A) (P : Type 0) → (P → r ≡ Ok x) → OnErr r (P → ⊥)
on_err_needs (Ok y) x P good = tt
on_err_needs (Err d) x P good = λ p. let w = good p in cc
