use Rattle.std.proofs.Common.{ap, ◌∙◌, map}
use Rattle.indexmap.proofs.MapLemmas.{OnOk-map}
use Rattle.wquery.specs.Tree.{view_call}
use Rattle.wdistinct.specs.declared.call_key.CallKey.{CallKey}
use Rattle.wdistinct.specs.Places.{calls_in}
use Rattle.wdistinct.proofs.Among.{absent, added, on_err}
use Rattle.wdistinct.proofs.call_set.CallSet.add.Goals as goal

pub returns-clause-ok : goal.returns-clause-ok
unfolding calls_in
returns-clause-ok c =
    OnOk-map c.keep.result _ _ (λ kept. ap (map (λ (k : CallKey). view_call k.call.now)) kept
    ∙ added (λ (k : CallKey). view_call k.call.now) c.args.self.now.keys.keys (record { call = c.args.call })) c.keep.ensures.ok

pub returns-clause-err : goal.returns-clause-err
unfolding calls_in
returns-clause-err c = on_err c.keep.result (ap (map (λ (k : CallKey). view_call k.call.now))) c.keep.ensures.err

pub returns-clause-other : goal.returns-clause-other
unfolding calls_in
returns-clause-other c =
    on_err c.keep.result (absent (λ (k : CallKey). view_call k.call.now) c.args.self.now.keys.keys
    (record { call = c.args.call })) c.keep.ensures.other
