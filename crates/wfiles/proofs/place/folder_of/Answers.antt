use Rattle.std.proofs.Common.{rules}
use Rattle.wfiles.proofs.Places.{split_is}
use Rattle.wfiles.proofs.place.folder_of.Goals as goal

pub returns-in-Some : goal.returns-in-Some
returns-in-Some c = let parts = split_is _ _ c.rsplit_once.ensures.cases in rw parts (grind rules)

pub returns-in-None : goal.returns-in-None
returns-in-None c = let parts = split_is _ _ c.rsplit_once.ensures.cases in rw parts (grind rules)
