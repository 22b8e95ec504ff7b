use Rattle.std.proofs.Common.{sym, ap, not}
use Rattle.wvalues.specs.OrderLaws.{keys_total}
use Rattle.wframe.specs.KeyRows.{key_lists, sort_keys}
use Rattle.wframe.proofs.FrameFacts.{own_peer}
use Rattle.wframe.proofs.TieFacts.{ends_alike}
use Rattle.wframe.proofs.bounds.EndsCut.end_of_equals.Goals as goal

pub returns-clause-places : goal.returns-clause-places
returns-clause-places c i j l h =
    let s = c.args.self.now in
    let ks = sort_keys s.peers.rows in
    let keys = key_lists s.peers.rows in
    sym (ap not (ends_alike ks keys i i c.args.row j (own_peer (keys_total ks) keys i) (c.end.ensures.peers j l h) s.mode
    s.bound s.together))

pub returns-clause-rows : goal.returns-clause-rows
returns-clause-rows c i j l h =
    let s = c.args.self.now in
    let ks = sort_keys s.peers.rows in
    let keys = key_lists s.peers.rows in
    sym (ap not (ends_alike ks keys c.args.row i j j (c.end.ensures.peers i l h) (own_peer (keys_total ks) keys j) s.mode
    s.bound s.together))
