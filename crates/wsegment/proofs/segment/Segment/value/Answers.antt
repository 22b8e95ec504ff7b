use Rattle.std.proofs.Common.{◌<◌, arith, length}
use Rattle.wsegment.proofs.KeptFacts.{row-value}
use Rattle.wsegment.proofs.segment.Segment.value.Goals as goal

pub returns : goal.returns
returns c =
    let within : c.args.col < length c.row-values.result.now = omega (arith, c.row-values.ensures.width, c.requires.col) in
    row-value c.row-values.result.now c.args.self.now.rows c.args.row c.args.col c.index-values-col.result
    c.index-values-col.is within c.row-values.ensures.values
