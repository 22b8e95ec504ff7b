use Rattle.std.proofs.Common.{[], ◌∷◌}
use Rattle.wshell.proofs.Fronts.{first_front, next_front, next_whole}
use Rattle.wshell.proofs.replying.write_next.Goals as goal

pub returns-in-Err-clause-front : goal.returns-in-Err-clause-front
returns-in-Err-clause-front g c = first_front _ _ (10 ∷ []) c.args.text.now c.in-Err.ensures.front

pub returns-clause-ok : goal.returns-clause-ok
returns-clause-ok g c = next_whole c.write_text-2.result _ _ _ (10 ∷ []) c.args.text.now c.in_default.ensures.ok c.write_text-2.ensures.ok

pub returns-clause-front : goal.returns-clause-front
returns-clause-front g c = next_front c.write_text-2.result _ _ _ (10 ∷ []) c.args.text.now c.in_default.ensures.ok
    c.write_text-2.ensures.front
