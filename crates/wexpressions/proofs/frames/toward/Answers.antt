use Rattle.wexpressions.proofs.Steps.{other_token, after_got, after_never, either_first, either_second, done_got}
use Rattle.wexpressions.proofs.frames.toward.Goals as goal

pub returns-in-Some : goal.returns-in-Some
returns-in-Some c = either_first (other_token c.in-Some.ensures (λ q. cc)) (after_got c.in-Some.ensures done_got)

pub returns : goal.returns
returns c = either_second (after_never c.in_default.ensures) (after_got c.in_ok-rest.ensures done_got)
