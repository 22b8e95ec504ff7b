use Rattle.wreplies.specs.Texts.{bytes_of}
use Rattle.wstore.proofs.Writing.{answered}
use Rattle.wstore.proofs.script_run.declare.Goals as goal

pub returns-clause-ok : goal.returns-clause-ok
returns-clause-ok g c = λ h undeclared stands.
    answered c.declare.new.self h _ (bytes_of c.in-Ok.text) _ _ (c.in-Ok.ensures.replies h undeclared stands)
    (rw c.as_slice.ensures at c.in_default-send.ensures.ok)
