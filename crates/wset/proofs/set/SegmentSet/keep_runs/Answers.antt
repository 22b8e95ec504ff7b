use Rattle.std.proofs.Common.{ap, refl, subst, sym}
use Rattle.std.specs.FinMap.{from_sorted}
use Rattle.std.specs.List.{IsAmong}
use Rattle.std.proofs.lemmas.List.Elements.{All-from_recursion}
use Rattle.wruns.specs.Dealing.{AreRunsOf}
use Rattle.wentries.specs.Blocks.{flat}
use Rattle.wentries.specs.Keeping.{AreAdded, orders_in}
use Rattle.wset.specs.Sets.{DeclaredView}
use Rattle.wset.proofs.RunFacts.{all_have, flat_plain, known_same, orderly_same, rows_live}
use Rattle.wset.proofs.Sets.{changed}
use Rattle.wset.proofs.set.SegmentSet.keep_runs.Goals as goal

pub invariant_of-self : goal.invariant_of-self
invariant_of-self c = orderly_same c.self.inside _ refl refl refl refl refl c.keep_in.ensures.plain c.self.invariant

pub invariant_of-self-2 : goal.invariant_of-self-2
invariant_of-self-2 c = orderly_same c.self.inside _ refl refl refl refl refl c.keep_in.ensures.plain c.self.invariant

pub returns-in_err-keep_in-clause-same : goal.returns-in_err-keep_in-clause-same
returns-in_err-keep_in-clause-same c =
    changed c.self.inside.schema _ _ _ _ c.args.self.now (λ v. v) c.self.view_is
    (ap from_sorted (known_same (flat c.keep_in.new.blocks.items) (flat c.self.inside.blocks.items)
    (flat_plain c.keep_in.new.blocks.items c.self.inside.blocks.items c.keep_in.ensures.plain)))

pub returns-in_err-keep_in-clause-adds : goal.returns-in_err-keep_in-clause-adds
returns-in_err-keep_in-clause-adds c =
    subst (λ (s : DeclaredView). AreAdded c.args.keys.now s.orders (orders_in (flat c.keep_in.new.blocks.items))) c.self.view_is
    c.keep_in.ensures.adds

pub returns-clause-adds : goal.returns-clause-adds
returns-clause-adds c =
    subst (λ (s : DeclaredView). AreAdded c.args.keys.now s.orders (orders_in (flat c.keep_in.new.blocks.items))) c.self.view_is
    c.keep_in.ensures.adds

pub returns-clause-same : goal.returns-clause-same
returns-clause-same c =
    changed c.self.inside.schema _ _ _ _ c.args.self.now (λ v. v) c.self.view_is
    (ap from_sorted (known_same (flat c.keep_in.new.blocks.items) (flat c.self.inside.blocks.items)
    (flat_plain c.keep_in.new.blocks.items c.self.inside.blocks.items c.keep_in.ensures.plain)))

pub returns-clause-has : goal.returns-clause-has
returns-clause-has c =
    All-from_recursion (λ o. IsAmong o c.args.keys.now) (orders_in (flat c.keep_in.new.blocks.items))
    (all_have c.args.keys.now c.keep_in.new.blocks.items c.in_ok-keep_in.ensures.has)

pub keep_in-requires : goal.keep_in-requires
keep_in-requires c = subst (λ l. AreRunsOf c.args.keys.now l c.args.runs.now)
    (sym (rows_live c.self.inside c.args.self.now c.self.invariant c.self.view_is)) c.requires
