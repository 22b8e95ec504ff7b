-- Where nothing is said.
use Rattle.std.proofs.Common.{[]}
use Rattle.wlines.specs.Sent.{Sent, Says}
use Rattle.wlines.proofs.Saying.{says_nothing, says_still}

pub nothing_said : (a : Sent) → Says a a []
nothing_said a = says_nothing a

pub still_quiet : (a b c : Sent) → Says a b [] → Says b c [] → Says a c []
still_quiet a b c p q = says_still a b c p q
