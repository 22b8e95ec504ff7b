use Rattle.wvalues.specs.OrderLaws.{keys_total}
use Rattle.wframe.proofs.NumberFacts.{first_number, peers_number, others_number}
use Rattle.wframe.proofs.laws.group_numbers_step.Goals as goal

pub returns-clause-first : goal.returns-clause-first
returns-clause-first c ks keys ordered h = first_number (keys_total ks) keys ordered h

pub returns-clause-peers : goal.returns-clause-peers
returns-clause-peers c ks keys i ordered h e = peers_number (keys_total ks) keys ordered i e

pub returns-clause-others : goal.returns-clause-others
returns-clause-others c ks keys i ordered h e = others_number (keys_total ks) keys ordered i h e
