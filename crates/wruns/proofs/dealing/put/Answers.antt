use Rattle.wruns.proofs.DealingFacts.{put_is}
use Rattle.wruns.proofs.dealing.put.Goals as goal

pub returns-clause-lists : goal.returns-clause-lists
returns-clause-lists c = put_is c.args.lists.now.items c.args.row.segment c.index_mut.result.now c.push.new.self
    c.args.row.row c.requires c.index_mut.ensures.value c.in_ok-push.ensures.items
