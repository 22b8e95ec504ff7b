use Rattle.wstore_program.proofs.Streamed.{fed_by}
use Rattle.wstore_program.proofs.acting.fed_to.Goals as goal

pub returns : goal.returns
returns c = fed_by c.args.work.now _ _ c.feed_store.result c.requires.feed (rw c.hashed_of.ensures at c.feed_store.ensures)
