use Rattle.waggregate.specs.Feeding.{values_of}
use Rattle.wrows.specs.Picked.{is_text}
use Rattle.waggregate.proofs.CopyFacts.{none_at}
use Rattle.waggregate.proofs.picking.push_without_texts.Goals as goal

pub copy_at-requires-clause-none : goal.copy_at-requires-clause-none
copy_at-requires-clause-none c = none_at is_text (values_of c.args.argument) c.args.rows.now c.loop-row.row-index c.loop-row-test.true
    c.requires.none
