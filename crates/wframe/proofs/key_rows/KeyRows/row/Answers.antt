use Rattle.std.proofs.Common.{length, arith}
use Rattle.wframe.proofs.ListFacts.{length-lists}
use Rattle.wframe.proofs.key_rows.KeyRows.row.Goals as goal

pub list_at-requires-clause-row : goal.list_at-requires-clause-row
list_at-requires-clause-row c =
    let r = c.args.self.now in
    omega (arith, length-lists r.lists (length r.keys.now) r.count r.laid)
