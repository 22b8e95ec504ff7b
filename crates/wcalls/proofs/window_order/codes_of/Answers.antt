use Rattle.std.proofs.Common.{◌≡◌, ◌<◌, length, map, subst, sym, ap, ◌∙◌}
use Rattle.std.specs.Prelude.{All}
use Rattle.wvalues.specs.Order.{keys_cmp}
use Rattle.wframe.specs.Codes.{TellApart}
use Rattle.wframe.specs.Peers.{key_at}
use Rattle.wrows.specs.CodedRows.{AreRowCodes, code_at}
use Rattle.wcalls.proofs.CodeFacts.{apart_by_codes}
use Rattle.wcalls.proofs.window_order.codes_of.Goals as goal

pub returns-in_ok-picked-in-Some-clause-apart : goal.returns-in_ok-picked-in-Some-clause-apart
returns-in_ok-picked-in-Some-clause-apart c = λ keys lists h.
    let rows = c.args.rows.now in
    let codes = c.in-Some.codes.items in
    let answer : AreRowCodes keys lists codes = rw c.in-Some.is at h in
    let below : All (λ i. i < length codes) rows = rw c.in-Some.is at c.requires in
    let picked : c.in_ok-picked-in-Some.picked.items ≡ map (code_at codes) rows = c.in_ok-picked-in-Some.ensures
    ∙ ap (λ l. map (code_at l) rows) c.deref.ensures.value in
    subst (TellApart (keys_cmp keys) (map (key_at lists) rows)) (sym picked) (apart_by_codes keys lists rows codes answer below)
