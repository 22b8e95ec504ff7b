use Rattle.wexchange.proofs.OneJudgement.{one_judgement, own_judgement}
use Rattle.wexchange.proofs.Texts.{texts_alone}
use Rattle.wexchange.proofs.laws.one_judgement.Goals as goal

pub returns-clause-one : goal.returns-clause-one
returns-clause-one c = one_judgement

pub returns-clause-own : goal.returns-clause-own
returns-clause-own c = own_judgement

pub returns-clause-alone : goal.returns-clause-alone
returns-clause-alone c = texts_alone
