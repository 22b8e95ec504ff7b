use Rattle.std.proofs.Common.{◌≡◌, ◌∙◌, ◌++◌, ◌∷◌, [], ◌<◌, ◌-◌, suc, length, ap, subst, arith}
use Rattle.wentries.specs.Blocks.{flat}
use Rattle.wentries.proofs.Cutting.{filled_pushed, flat_begun, flat_grown, grown_begun, grown_set}
use Rattle.wentries.specs.Keeping.{kept_in}
use Rattle.wentries.proofs.Falls.{lives_set}
use Rattle.wentries.proofs.blocks.append.Goals as goal

pub returns-then-end_full-clause-ok : goal.returns-then-end_full-clause-ok
returns-then-end_full-clause-ok c = ap flat c.in_ok-begin.ensures.ok ∙ flat_begun c.args.blocks.now.items (c.args.entry ∷ [])

pub returns-clause-ok : goal.returns-clause-ok
returns-clause-ok c =
    let some : 0 < length c.args.blocks.now.items =
    subst (λ bs. 0 < length bs) c.deref.ensures.value (c.end_full.ensures.some c.if-end_full.false) in
    let end : suc (c.len-last.result - 1) ≡ length c.args.blocks.now.items = omega (arith, some, c.len-last.ensures) in
    flat_grown c.args.blocks.now.items (c.len-last.result - 1) c.index_mut.result.now c.push.new.self (c.args.entry ∷ []) end
    (c.in_ok-changes.ensures.ok ∙ ap (λ b. b ++ c.args.entry ∷ []) c.index_mut.ensures.value)

pub returns-clause-filled : goal.returns-clause-filled
returns-clause-filled c n le filled =
    filled_pushed n c.args.blocks.now.items (c.len-last.result - 1) c.index_mut.result.now c.push.new.self c.args.entry
    c.index_mut.ensures.value c.in_ok-changes.ensures.ok filled

pub returns-then-end_full-clause-grown : goal.returns-then-end_full-clause-grown
returns-then-end_full-clause-grown c = grown_begun c.args.blocks.now.items _ (c.args.entry ∷ []) c.in_ok-begin.ensures.ok

pub returns-clause-grown : goal.returns-clause-grown
returns-clause-grown c =
    let some : 0 < length c.args.blocks.now.items =
    subst (λ bs. 0 < length bs) c.deref.ensures.value (c.end_full.ensures.some c.if-end_full.false) in
    let end : suc (c.len-last.result - 1) ≡ length c.args.blocks.now.items = omega (arith, some, c.len-last.ensures) in
    grown_set c.args.blocks.now.items (c.len-last.result - 1) c.push.new.self end

pub returns-clause-lives : goal.returns-clause-lives
returns-clause-lives c same =
    let some : 0 < length c.args.blocks.now.items =
    subst (λ bs. 0 < length bs) c.deref.ensures.value (c.end_full.ensures.some c.if-end_full.false) in
    lives_set c.args.blocks.now.items (c.len-last.result - 1) c.push.new.self c.index_mut.result.now
    (omega (arith, some, c.len-last.ensures))
    (c.in_ok-changes.ensures.lives same ∙ ap (λ b. length (kept_in b)) c.index_mut.ensures.value)
