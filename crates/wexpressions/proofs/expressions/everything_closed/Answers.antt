use Rattle.std.proofs.Common.{refl, arith}
use Rattle.wquery.proofs.Says.{star_says}
use Rattle.wexpressions.proofs.Steps.{got_along, after_got, done_got, room_answers}
use Rattle.wexpressions.proofs.expressions.everything_closed.Goals as goal

pub returns : goal.returns
returns c = got_along star_says refl (room_answers (omega arith) (after_got c.in_ok-rest.ensures done_got))
