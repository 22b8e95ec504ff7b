use Rattle.wlexer.proofs.SomeLexing.{some_lexing}
use Rattle.wlexer.proofs.OneLexing.{one_list, tokens_or_fault, one_place}
use Rattle.wlexer.proofs.lexer.one_lexing.Goals as goal

pub returns-clause-some : goal.returns-clause-some
returns-clause-some c = some_lexing

pub returns-clause-one_list : goal.returns-clause-one_list
returns-clause-one_list c = one_list

pub returns-clause-tokens_or_fault : goal.returns-clause-tokens_or_fault
returns-clause-tokens_or_fault c = tokens_or_fault

pub returns-clause-one_place : goal.returns-clause-one_place
returns-clause-one_place c = one_place
