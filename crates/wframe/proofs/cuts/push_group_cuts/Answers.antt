use Rattle.std.proofs.Common.{◌≡◌, ◌+◌, ◌<◌, [], ◌∷◌, ◌++◌, length, sym, ap, ◌∙◌, refl, subst, arith}
use Rattle.wframe.specs.KeyRows.{key_lists}
use Rattle.wframe.specs.Cuts.{CutsAt}
use Rattle.wframe.proofs.CutFacts.{front_more, long_more}
use Rattle.wframe.proofs.NumberedFacts.{cuts_more, known_more}
use Rattle.wframe.proofs.cuts.push_group_cuts.Goals as goal

pub loop-row-preserved : goal.loop-row-preserved
loop-row-preserved g c =
    let p = c.args.peers.now in
    let n = length (key_lists p.rows) in
    let first = p.first in
    let ns = p.numbers.now in
    let passes = g.C.Cut.passes c.args.cut.now in
    let row = c.loop-row.row in
    let inv = c.loop-row.invariant in
    let hr : row < n = omega (arith, c.loop-row-test.true, c.count-rows.ensures, ap (λ r. length (key_lists r)) c.rows.ensures) in
    let found = subst (λ m. CutsAt m (passes row) c.advance-end.result) (c.count-rows.ensures
    ∙ ap (λ r. length (key_lists r)) c.rows.ensures) c.advance-end.ensures in
    let end = c.advance-end.result in
    let next = c.end-row.result in
    let peers = c.end-row.ensures in
    let old = c.loop-row.cuts.items in
    let new = c.push.new.self.items in
    let pushed : new ≡ old ++ (first + end) ∷ [] = c.in_ok-push.ensures.items ∙ ap (λ k. old ++ (k + end) ∷ []) c.first-first.ensures in
    let longer = long_more old new (length old) (first + end) pushed refl in
    let here = inv.here hr in
    record {
      row_within = peers.within;
      end_within = found.within;
      before = λ h j l. c.requires.cut.rises row next j (omega (arith, peers.more)) h (omega (arith, found.within)) (found.passed j l);
      here = λ h. peers.next h ∙ ap (λ x. x + 1) here ∙ sym longer;
      last = λ h. longer ∙ ap (λ x. x + 1) (sym here) ∙ peers.last h;
      stays = front_more c.args.cuts.now.items old new (first + end) pushed inv.stays;
      known = known_more first row next (first + end) ns old new pushed here peers.same inv.known;
      each = cuts_more first n row next end passes ns old new pushed found here peers.same
          (λ i j l h. c.requires.alike row i j (peers.peers i l h)) inv.known inv.each;
    }
