use Rattle.std.proofs.Common.{◌≡◌, IfSome, refl, subst, sym}
use Rattle.std.specs.Prelude.{All, IfOk}
use Rattle.std.specs.List.{IsAmong}
use Rattle.wruns.specs.Refs.{refs_by}
use Rattle.wset.specs.Running.{live_rows}
use Rattle.wset.specs.Sets.{DeclaredView}
use Rattle.wset.proofs.KeptOrderFacts.{at_any_rate}
use Rattle.wset.proofs.RunFacts.{added_between, live_same}
use Rattle.wset.proofs.set.SegmentSet.make_and_merge.Goals as goal

pub returns-in-None-clause-list : goal.returns-in-None-clause-list
returns-in-None-clause-list c =
    subst (λ l. IfOk c.merge.result (λ refs. refs.items ≡ refs_by c.args.keys.now l))
    (live_same c.args.self.now c.make_runs.new.self c.make_runs.ensures.same) c.merge.ensures.list

pub returns-in-None-clause-has : goal.returns-in-None-clause-has
returns-in-None-clause-has c =
    at_any_rate c.merge.result (subst (λ (s : DeclaredView). All (λ orders. IsAmong orders c.args.keys.now) s.orders)
    (sym c.merge.ensures.same) c.in_ok-make_runs.ensures.has)

pub returns-in-Some-clause-list : goal.returns-in-Some-clause-list
returns-in-Some-clause-list c =
    subst (λ l. c.in-Some.rows.items ≡ refs_by c.args.keys.now l) (live_same c.args.self.now c.make_runs.new.self c.make_runs.ensures.same)
    (subst (λ o. IfSome o (λ refs. refs.items ≡ refs_by c.args.keys.now (live_rows c.make_runs.new.self))) c.in-Some.is
    c.in_ok-kept.ensures)

pub returns-in-None-clause-adds : goal.returns-in-None-clause-adds
returns-in-None-clause-adds c =
    added_between c.args.keys.now c.args.self.now c.args.self.now c.make_runs.new.self c.merge.new.self refl
    c.make_runs.ensures.adds c.merge.ensures.same
