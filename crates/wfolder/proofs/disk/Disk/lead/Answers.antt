use Rattle.std.proofs.Common.{◌∙◌, ap, is_ok, map, set, vec_len}
use Rattle.std.proofs.lemmas.Result.{on_ok_weaker, on_err_weaker}
use Rattle.wfolder.specs.Disk.{entries_of}
use Rattle.wfolder.specs.Memory.{leading_of}
use Rattle.wfolder.proofs.Memory.{led_none, led_same, led_some, new_leading}
use Rattle.wfolder.proofs.Distinct.{kept_by, kept_push}
use Rattle.wfolder.proofs.disk.Disk.lead.Goals as goal

pub returns-in-Some-clause-ok : goal.returns-in-Some-clause-ok
returns-in-Some-clause-ok c = on_ok_weaker c.lead.result
    (λ h. led_some c.args.path.now c.args.file c.args.self.now.entries.items c.place_of.result c.in-Some.place c.index_mut.result.now
    c.lead.new.self c.place_of.ensures c.in-Some.is c.index_mut.ensures.value h) c.lead.ensures.ok

pub returns-in-Some-clause-err : goal.returns-in-Some-clause-err
returns-in-Some-clause-err c = on_err_weaker c.lead.result
    (λ h. led_same c.args.path.now c.args.self.now.entries.items c.place_of.result c.in-Some.place c.index_mut.result.now
    c.lead.new.self c.place_of.ensures c.in-Some.is c.index_mut.ensures.value h) c.lead.ensures.err

pub invariant_of-self : goal.invariant_of-self
invariant_of-self c =
    let kept = kept_by c.lead.result c.args.file c.args.path.now (entries_of c.args.self.now)
    (map leading_of (set c.args.self.now.entries.items c.in-Some.place c.lead.new.self)) (vec_len c.args.self.now.files) c.requires
    c.args.self.now.known c.args.self.now.distinct
    (on_ok_weaker c.lead.result (λ h. led_some c.args.path.now c.args.file c.args.self.now.entries.items c.place_of.result
    c.in-Some.place c.index_mut.result.now c.lead.new.self c.place_of.ensures c.in-Some.is c.index_mut.ensures.value h) c.lead.ensures.ok)
    (on_err_weaker c.lead.result (λ h. led_same c.args.path.now c.args.self.now.entries.items c.place_of.result c.in-Some.place
    c.index_mut.result.now c.lead.new.self c.place_of.ensures c.in-Some.is c.index_mut.ensures.value h) c.lead.ensures.err) in
    record { known = kept.0; distinct = kept.1 }

pub invariant_of-self-2 : goal.invariant_of-self-2
invariant_of-self-2 c =
    let kept = kept_push (is_ok c.push.result) c.args.file c.args.path.now c.args.self.now.entries.items c.push.new.self.items
    record { path = c.in_ok-path.path; earlier = c.in_ok-earlier.earlier; file = c.args.file } (vec_len c.args.self.now.files) c.requires
    c.args.self.now.known c.args.self.now.distinct c.push.ensures.items
    (led_none c.args.path.now c.args.file c.args.self.now.entries.items c.place_of.result
    record { path = c.in_ok-path.path; earlier = c.in_ok-earlier.earlier; file = c.args.file } c.place_of.ensures c.in_default.is
    (new_leading _ _ c.args.file _ c.in_ok-path.ensures.ok c.in_ok-earlier.ensures.items)) in
    record { known = kept.0; distinct = kept.1 }

pub returns-clause-ok : goal.returns-clause-ok
returns-clause-ok c = ap (map leading_of) c.in_ok-push.ensures.items
    ∙ led_none c.args.path.now c.args.file c.args.self.now.entries.items c.place_of.result
    record { path = c.in_ok-path.path; earlier = c.in_ok-earlier.earlier; file = c.args.file } c.place_of.ensures c.in_default.is
    (new_leading _ _ c.args.file _ c.in_ok-path.ensures.ok c.in_ok-earlier.ensures.items)
