use Rattle.std.proofs.Common.{length, arith}
use Rattle.wvalues.specs.Order.{keys_cmp}
use Rattle.wframe.specs.KeyRows.{key_lists}
use Rattle.wframe.proofs.CodeFacts.{part_told}
use Rattle.wframe.proofs.ListFacts.{length-lists}
use Rattle.wframe.proofs.key_rows.KeyRows.part.Goals as goal

pub part_of-requires-clause-within : goal.part_of-requires-clause-within
part_of-requires-clause-within c =
    let r = c.args.self.now in
    omega (arith, length-lists r.lists (length r.keys.now) r.count r.laid)

pub invariant_of-result-clause-coded : goal.invariant_of-result-clause-coded
invariant_of-result-clause-coded c = λ x some.
    let r = c.args.self.now in
    part_told (keys_cmp r.keys.now) (key_lists r) c.args.span.from c.args.span.to c.requires.ordered c.requires.within _
    r.codes c.part_codes.result x c.part_of.ensures.part r.coded c.part_codes.ensures some
