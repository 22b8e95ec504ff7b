use Rattle.std.proofs.Common.{refl, sym, ap, subst, ◌∙◌}
use Rattle.std.specs.Prelude.{All}
use Rattle.std.specs.List.{IsAmong}
use Rattle.wruns.specs.Refs.{refs_by}
use Rattle.wset.specs.Sets.{DeclaredView}
use Rattle.wset.proofs.RunFacts.{added_between, added_still, live_same}
use Rattle.wset.proofs.set.SegmentSet.sort_and_deal.Goals as goal

pub keep_costly-requires : goal.keep_costly-requires
keep_costly-requires c =
    c.deref-3.ensures.value ∙ c.in_ok-rows.ensures.rows ∙ ap (refs_by c.args.keys.now)
    (sym (live_same c.make.new.self c.keep_runs.new.self c.in_ok-keep_runs.ensures.same))

pub returns-clause-has : goal.returns-clause-has
returns-clause-has c = subst (λ (s : DeclaredView). All (λ o. IsAmong o c.args.keys.now) s.orders)
    (sym c.keep_costly.ensures) c.in_ok-keep_runs.ensures.has

pub returns-in_err-make-clause-adds : goal.returns-in_err-make-clause-adds
returns-in_err-make-clause-adds c = added_still c.args.keys.now c.args.self.now c.make.new.self c.make.ensures

pub returns-in_err-rows-clause-adds : goal.returns-in_err-rows-clause-adds
returns-in_err-rows-clause-adds c = added_still c.args.keys.now c.args.self.now c.make.new.self c.make.ensures

pub returns-in_err-keep_runs-clause-adds : goal.returns-in_err-keep_runs-clause-adds
returns-in_err-keep_runs-clause-adds c =
    added_between c.args.keys.now c.args.self.now c.make.new.self c.keep_runs.new.self c.keep_runs.new.self c.make.ensures
    c.keep_runs.ensures.adds refl

pub returns-clause-adds : goal.returns-clause-adds
returns-clause-adds c =
    added_between c.args.keys.now c.args.self.now c.make.new.self c.keep_runs.new.self c.keep_costly.new.self c.make.ensures
    c.keep_runs.ensures.adds c.keep_costly.ensures
