use Rattle.wsegment.proofs.TableFacts.{table}
use Rattle.wsegment.proofs.laws.values_stand_under_their_names.Goals as goal

pub returns : goal.returns
returns c = table
