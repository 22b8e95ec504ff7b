use Rattle.std.proofs.Common.{ap, not}
use Rattle.wvalues.specs.OrderLaws.{keys_total}
use Rattle.wframe.specs.KeyRows.{key_lists, sort_keys}
use Rattle.wframe.proofs.FrameFacts.{own_peer}
use Rattle.wframe.proofs.ModeFacts.{mode_end_cut}
use Rattle.wframe.proofs.TieFacts.{ends_alike}
use Rattle.wframe.proofs.bounds.push_ends.Goals as goal

pub push_group_cuts-requires-clause-cut : goal.push_group_cuts-requires-clause-cut
push_group_cuts-requires-clause-cut c =
    let rows = c.args.peers.now.rows in
    mode_end_cut (sort_keys rows) (key_lists rows) c.args.peers.now.ordered c.args.mode c.args.bound

pub push_group_cuts-requires-clause-alike : goal.push_group_cuts-requires-clause-alike
push_group_cuts-requires-clause-alike c i k j h =
    let rows = c.args.peers.now.rows in
    let ks = sort_keys rows in
    ap not (ends_alike ks (key_lists rows) i k j j h (own_peer (keys_total ks) (key_lists rows) j) c.args.mode c.args.bound
    c.requires.together)
