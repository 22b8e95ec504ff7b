use Rattle.wstore.proofs.OneReading.{one_reading}
use Rattle.wstore.proofs.laws.one_reading.Goals as goal

pub returns : goal.returns
returns c = one_reading
