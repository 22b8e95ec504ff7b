use Rattle.std.proofs.Common.{refl}
use Rattle.wexpressions.proofs.Steps.{pair_never, missing, other_token, not_said, never_either, never_then, any_leads, then_got}
use Rattle.wexpressions.proofs.Steps.{after_got, after_never, one_got, either_first, either_second, done_got}
use Rattle.wexpressions.proofs.frames.bound.Goals as goal

pub returns-in-Some : goal.returns-in-Some
returns-in-Some c = either_first (never_either (other_token c.in-Some.ensures (λ q. cc))
    (never_then (not_said c.in-Some.ensures refl))) (after_got c.in-Some.ensures c.toward.ensures)

pub returns-in-Some-keyword_pair : goal.returns-in-Some-keyword_pair
returns-in-Some-keyword_pair c = either_second (after_never c.in_default.ensures)
    (either_first (never_then (not_said c.in-Some-keyword_pair.ensures refl)) (after_got c.in-Some-keyword_pair.ensures
    (after_got refl done_got)))

pub returns-in_err-n : goal.returns-in_err-n
returns-in_err-n c = rw c.from_residual.ensures (either_second (after_never c.in_default.ensures)
    (either_second (pair_never c.in_default-keyword_pair.ensures) (missing (never_then c.in_err-n.ensures))))

pub returns : goal.returns
returns c = either_second (after_never c.in_default.ensures) (either_second (pair_never c.in_default-keyword_pair.ensures)
    (then_got {j = 31} (λ n. any_leads) (one_got c.in_ok-n.ensures) c.toward-2.ensures))
