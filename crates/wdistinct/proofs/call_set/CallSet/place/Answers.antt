use Rattle.std.proofs.Common.{◌≡◌, ◌∙◌, ◌≤◌, ◌^◌, length, arith}
use Rattle.wquery.specs.Tree.{view_call}
use Rattle.wdistinct.specs.declared.call_key.CallKey.{CallKey}
use Rattle.wdistinct.specs.Places.{calls_in, place_of_same}
use Rattle.wdistinct.proofs.Among.{place_or_length, within}
use Rattle.wdistinct.proofs.call_set.CallSet.place.Goals as goal

pub returns-clause-place : goal.returns-clause-place
unfolding calls_in
returns-clause-place c =
    c.place_or.ensures ∙ place_or_length (λ (k : CallKey). view_call k.call.now) (view_call c.args.call.now)
    c.args.self.now.keys.keys c.get_index_of.result c.len.result c.get_index_of.ensures.index c.len.ensures.len

pub returns-clause-few : goal.returns-clause-few
unfolding calls_in
returns-clause-few c =
    let at : c.place_or.result ≡ place_of_same (calls_in c.args.self.now) (view_call c.args.call.now) = returns-clause-place c in
    let below : place_of_same (calls_in c.args.self.now) (view_call c.args.call.now) ≤ length c.args.self.now.keys.keys =
    within (λ (k : CallKey). view_call k.call.now) (view_call c.args.call.now) c.args.self.now.keys.keys in
    let few : length c.args.self.now.keys.keys ≤ 2 ^ 62 = c.args.self.now.few in
    omega arith
