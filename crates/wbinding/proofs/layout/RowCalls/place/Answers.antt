use Rattle.wquery.specs.Tree.{view_call}
use Rattle.wdistinct.specs.Places.{calls_in}
use Rattle.wbinding.proofs.Placed.{place_in_first, place_behind}
use Rattle.wbinding.proofs.layout.RowCalls.place.Goals as goal

pub returns-then-place-len-clause-place : goal.returns-then-place-len-clause-place
returns-then-place-len-clause-place c =
    place_in_first (calls_in c.args.self.now.grouped) (calls_in c.args.self.now.windowed) (view_call c.args.call.now)
    c.place-place.result c.len.result c.place-place.ensures.place c.len.ensures c.if-place-len.true

pub returns-clause-place : goal.returns-clause-place
returns-clause-place c =
    place_behind (calls_in c.args.self.now.grouped) (calls_in c.args.self.now.windowed) (view_call c.args.call.now)
    c.place-place.result c.place.result c.len.result c.place-place.ensures.place c.place.ensures.place c.len.ensures
    c.if-place-len.false
