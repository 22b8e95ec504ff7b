use Rattle.wset.proofs.Later.{dispute_later, floor_later, retire_later, take_later}
use Rattle.wset.proofs.laws.later_names.Goals as goal

pub returns : goal.returns
returns c = record { take = take_later; retire = retire_later; dispute = dispute_later; retire_to = floor_later }
