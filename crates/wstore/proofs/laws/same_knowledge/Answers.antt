use Rattle.wstore.proofs.Histories.{same_views, same_files, same_answers, same_lists}
use Rattle.wstore.proofs.laws.same_knowledge.Goals as goal

pub returns-clause-views : goal.returns-clause-views
returns-clause-views c = same_views

pub returns-clause-answers : goal.returns-clause-answers
returns-clause-answers c = same_answers

pub returns-clause-lists : goal.returns-clause-lists
returns-clause-lists c = same_lists

pub returns-clause-files : goal.returns-clause-files
returns-clause-files c = same_files
