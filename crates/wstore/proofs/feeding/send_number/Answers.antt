use Rattle.std.proofs.Common.{◌∷◌, []}
use Rattle.std.specs.Fmt.{decimal}
use Rattle.wlines.proofs.Saying.{says_more}
use Rattle.wstore.proofs.Handling.{on_ok_then, on_err_then, front_first, front_behind}
use Rattle.wstore.proofs.feeding.send_number.Goals as goal

pub returns-in-Err-clause-front : goal.returns-in-Err-clause-front
returns-in-Err-clause-front g c = front_first _ _ (decimal c.args.number) (10 ∷ []) c.in-Err.ensures.front

pub returns-clause-front : goal.returns-clause-front
returns-clause-front g c = on_err_then c.send.result _ _ (λ f. front_behind _ _ _ (decimal c.args.number) (10 ∷ [])
    c.in_default.ensures.ok f) c.send.ensures.front

pub returns-clause-ok : goal.returns-clause-ok
returns-clause-ok g c = on_ok_then c.send.result _ _ (λ k. says_more _ _ _ (decimal c.args.number) (10 ∷ [])
    c.in_default.ensures.ok k) c.send.ensures.ok
