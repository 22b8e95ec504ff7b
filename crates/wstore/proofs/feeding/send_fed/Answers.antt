use Rattle.std.proofs.Common.{◌∷◌, [], ◌++◌, codes}
use Rattle.std.specs.Fmt.{decimal}
use Rattle.wlines.proofs.Saying.{says_more}
use Rattle.wstore.proofs.Handling.{on_ok_then, on_err_then, front_first, front_behind}
use Rattle.wstore.proofs.feeding.send_fed.Goals as goal

pub returns-in-Err-clause-front : goal.returns-in-Err-clause-front
returns-in-Err-clause-front g c = front_first _ _ (codes "fed ") (decimal c.args.count ++ 10 ∷ []) c.in-Err.ensures.front

pub returns-clause-front : goal.returns-clause-front
returns-clause-front g c = on_err_then c.send_number.result _ _ (λ f. front_behind _ _ _ (codes "fed ")
    (decimal c.args.count ++ 10 ∷ []) c.in_default.ensures.ok f) c.send_number.ensures.front

pub returns-clause-ok : goal.returns-clause-ok
returns-clause-ok g c = on_ok_then c.send_number.result _ _ (λ k. says_more _ _ _ (codes "fed ")
    (decimal c.args.count ++ 10 ∷ []) c.in_default.ensures.ok k) c.send_number.ensures.ok
