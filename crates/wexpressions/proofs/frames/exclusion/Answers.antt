use Rattle.std.proofs.Common.{refl}
use Rattle.wexpressions.proofs.Steps.{pair_never, missing, other_token, never_either, after_got}
use Rattle.wexpressions.proofs.Steps.{after_never, either_first, either_second, done_got}
use Rattle.wexpressions.proofs.frames.exclusion.Goals as goal

pub returns-in-Some : goal.returns-in-Some
returns-in-Some c = either_first (never_either (other_token c.in-Some.ensures (λ q. cc))
    (never_either (other_token c.in-Some.ensures (λ q. cc)) (other_token c.in-Some.ensures (λ q. cc))))
    (after_got c.in-Some.ensures (after_got refl done_got))

pub returns-in-Some-keyword : goal.returns-in-Some-keyword
returns-in-Some-keyword c = either_second (pair_never c.in_default.ensures)
    (either_first (never_either (other_token c.in-Some-keyword.ensures (λ q. cc)) (other_token c.in-Some-keyword.ensures
    (λ q. cc))) (after_got c.in-Some-keyword.ensures done_got))

pub returns-in-Some-keyword-2 : goal.returns-in-Some-keyword-2
returns-in-Some-keyword-2 c = either_second (pair_never c.in_default.ensures)
    (either_second (after_never c.in_default-keyword.ensures)
    (either_first (other_token c.in-Some-keyword-2.ensures (λ q. cc)) (after_got c.in-Some-keyword-2.ensures done_got)))

pub returns-in_err-rest : goal.returns-in_err-rest
returns-in_err-rest c = rw c.from_residual.ensures (either_second (pair_never c.in_default.ensures)
    (either_second (after_never c.in_default-keyword.ensures) (either_second (after_never c.in_default-keyword-2.ensures)
    (missing (pair_never c.in_err-rest.ensures)))))

pub returns : goal.returns
returns c = either_second (pair_never c.in_default.ensures) (either_second (after_never c.in_default-keyword.ensures)
    (either_second (after_never c.in_default-keyword-2.ensures) (after_got c.in_ok-rest.ensures (after_got refl done_got))))
