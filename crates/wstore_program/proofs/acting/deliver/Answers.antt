use Rattle.wact.proofs.Delivering.{acts_opened}
use Rattle.wstore_program.proofs.Streamed.{declared_by}
use Rattle.wstore_program.proofs.acting.deliver.Goals as goal

pub finish-requires-clause-gives : goal.finish-requires-clause-gives
finish-requires-clause-gives g c =
    let declared : _ = declared_by _ _ _ c.args.node c.requires.feeds.2 c.requires.declared in (
      (c.requires.feeds.0, declared, c.requires.goes_on, c.requires.whole),
      acts_opened _ _ _ _ c.args.node _ c.requires.feeds.2 c.requires.feeds.0 (rw c.requires.feeds.1 at c.in-Ok.ensures.feeds),
    )
