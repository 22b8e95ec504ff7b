use Rattle.std.proofs.Common.{◌≡◌, ◌+◌, ◌-◌, suc, true, false, is_lt, length, get_or, ap, refl, sym, subst, true≢false, ◌∙◌, arith}
use Rattle.std.specs.Ordering.{on}
use Rattle.std.proofs.lemmas.Cmp.{on_total}
use Rattle.wvalues.specs.Order.{keys_cmp}
use Rattle.wvalues.specs.OrderLaws.{keys_total}
use Rattle.wruns.specs.Dealing.{segment_rows}
use Rattle.wruns.specs.Lists.{ref}
use Rattle.wruns.specs.Refs.{ref_keys}
use Rattle.wruns.proofs.DifferFacts.{neighbours_differ, rise_more, shared, RiseTo}
use Rattle.wruns.proofs.differing.all_differ.Goals as goal

pub loop-place-init : goal.loop-place-init
loop-place-init c = λ k h. absurd (omega (arith, h))

pub loop-place-preserved : goal.loop-place-preserved
loop-place-preserved c =
    let keys = c.args.keys.now in
    let s = segment_rows c.args.segments.now in
    let place = c.loop-place.place in
    let next : suc (place - 1) ≡ place = omega (arith, c.loop-place.auto.place) in
    let more : suc place ≡ place + 1 = omega arith in
    let told : is_lt (keys_cmp keys (ref_keys keys s (get_or c.args.rows.now (place - 1) (ref 0 0)))
    (ref_keys keys s (get_or c.args.rows.now place (ref 0 0)))) ≡ true =
    sym (ap is_lt c.compare_keys.ensures) ∙ sym c.is_lt.ensures ∙ c.if-not-is_lt.false in
    let total = on_total (ref_keys keys s) (keys_total keys) in
    subst (RiseTo (on (ref_keys keys s) (keys_cmp keys)) total (ref 0 0) c.args.rows.now) more
    (rise_more (on (ref_keys keys s) (keys_cmp keys)) total (ref 0 0) c.args.rows.now (place - 1) place next c.loop-place.invariant told)

pub returns-then-not-is_lt : goal.returns-then-not-is_lt
returns-then-not-is_lt c =
    let keys = c.args.keys.now in
    let s = segment_rows c.args.segments.now in
    let rows = c.args.rows.now in
    let place = c.loop-place.place in
    let next : suc (place - 1) ≡ place = omega (arith, c.loop-place.auto.place) in
    let told : is_lt (keys_cmp keys (ref_keys keys s (get_or rows (place - 1) (ref 0 0))) (ref_keys keys s (get_or rows place (ref 0 0))))
    ≡ false = sym (ap is_lt c.compare_keys.ensures) ∙ sym c.is_lt.ensures ∙ c.if-not-is_lt.true in (
      λ h. absurd (true≢false (sym h)),
      λ differ. absurd (shared keys s rows (place - 1) place next (omega (arith, c.loop-place-test.true)) told c.requires differ),
    )

pub returns : goal.returns
returns c =
    let keys = c.args.keys.now in
    let s = segment_rows c.args.segments.now in (
      λ u. neighbours_differ keys s (subst (λ found. RiseTo (on (ref_keys keys s) (keys_cmp keys))
          (on_total (ref_keys keys s) (keys_total keys)) (ref 0 0) found (length found)) c.requires
          (λ k h. c.loop-place.invariant k (omega (arith, h, c.loop-place-test.false)))),
      λ differ. refl,
    )
