use Rattle.wfolder.proofs.Steps.{placed, unplaced}
use Rattle.wfolder.proofs.replacing.put.Goals as goal

pub returns-clause-placed : goal.returns-clause-placed
returns-clause-placed g c = placed c.rename.result c.path.ensures.path c.in_ok-fill.ensures.filled c.rename.ensures.calls

pub returns-clause-left : goal.returns-clause-left
returns-clause-left g c = unplaced c.rename.result c.rename.ensures.kind c.path.ensures.path c.in_ok-fill.ensures.filled
    c.rename.ensures.calls
