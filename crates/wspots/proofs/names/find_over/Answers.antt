use Rattle.std.proofs.Common.{Result, Ok, Err}
use Rattle.std.specs.Prelude.{IfOk}
use Rattle.wspots.proofs.names.find_over.Goals as goal

then : {X E : Type 0} (P Q : X → Type 0) (result : Result X E) → ((x : X) → P x → Q x) → IfOk result P → IfOk result Q
then P Q (Ok x) f h = f x h
then P Q (Err e) f h = h

pub returns-clause-told : goal.returns-clause-told
returns-clause-told c = then _ _ c.find_in.result (λ found told. (c.in_ok-scene.scene, c.in_ok-scene.ensures, told)) c.find_in.ensures.first
