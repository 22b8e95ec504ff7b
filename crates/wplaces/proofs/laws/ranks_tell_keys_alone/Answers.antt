use Rattle.std.proofs.Common.{◌+◌, List, length, filter, ap}
use Rattle.std.specs.Ordering.{is_lt}
use Rattle.wvalues.specs.Meaning.{Meaning}
use Rattle.wvalues.specs.Order.{keys_cmp}
use Rattle.wframe.specs.Peers.{distinct}
use Rattle.wplaces.proofs.laws.ranks_tell_keys_alone.Goals as goal

pub returns-clause-rank : goal.returns-clause-rank
returns-clause-rank c = λ p i k e. ap (λ (key : List Meaning). 1 + length
    (filter (λ (other : List Meaning). is_lt (keys_cmp p.order other key)) p.keys)) e

pub returns-clause-dense_rank : goal.returns-clause-dense_rank
returns-clause-dense_rank c = λ p i k e.
    ap (λ (key : List Meaning). 1 + length
    (distinct (keys_cmp p.order) (filter (λ (other : List Meaning). is_lt (keys_cmp p.order other key)) p.keys))) e
