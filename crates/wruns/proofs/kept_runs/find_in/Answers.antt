use Rattle.std.proofs.Common.{◌≡◌, [], false, drop, ap, ◌∙◌, subst, arith}
use Rattle.std.specs.Bool.{IsTrue}
use Rattle.std.specs.List.{IsAmong}
use Rattle.std.proofs.lemmas.List.{drop_all}
use Rattle.wruns.specs.KeptRuns.{keys_kept}
use Rattle.wruns.proofs.RunFacts.{got, no_item, passed}
use Rattle.wruns.proofs.kept_runs.find_in.Goals as goal

apart : IsTrue false → ⊥
apart h = absurd (cc)

pub loop-i-preserved : goal.loop-i-preserved
loop-i-preserved c = λ among.
    let runs = c.args.runs.now.items in
    let at = got runs c.loop-i.i c.get.result c.in-Some.run' c.in-Some.is c.get.ensures in
    passed (λ r. r.value.keys) runs c.loop-i.i c.in-Some.run'.now
    c.args.keys.now at (λ e. absurd (apart (c.if-is_by.ensures.1 (ap (λ r. r.keys) c.as_ref.ensures ∙ e)))) (c.loop-i.invariant among)

pub returns-clause-found : goal.returns-clause-found
returns-clause-found c =
    let runs = c.args.runs.now.items in
    let none : drop c.loop-i.i runs ≡ [] = drop_all c.loop-i.i runs (omega (arith, c.loop-i-test.false, c.len-i-end.ensures.len)) in (
      λ h. absurd (cc),
      λ among. absurd (no_item c.args.keys.now (subst (λ l. IsAmong (keys_kept l) c.args.keys.now) none
          (c.loop-i.invariant among))),
    )
