use Rattle.std.proofs.Common.{sym, length}
use Rattle.wframe.proofs.ListFacts.{length-lists}
use Rattle.wframe.proofs.key_rows.KeyRows.count.Goals as goal

pub returns : goal.returns
returns c = let r = c.args.self.now in sym (length-lists r.lists (length r.keys.now) r.count r.laid)
