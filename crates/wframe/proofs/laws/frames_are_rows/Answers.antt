use Rattle.wframe.proofs.RowFacts.{rows_below, rows_shorter}
use Rattle.wframe.proofs.laws.frames_are_rows.Goals as goal

pub returns-clause-below : goal.returns-clause-below
returns-clause-below c = rows_below

pub returns-clause-few : goal.returns-clause-few
returns-clause-few c = rows_shorter
