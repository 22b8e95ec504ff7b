use Rattle.std.proofs.Common.{◌∙◌, sym, refl}
use Rattle.wset.proofs.Singles.{take_same}
use Rattle.wset.proofs.Sets.{same_view}
use Rattle.wset.proofs.set.SegmentSet.take_judged.Goals as goal

pub returns-then-is_some-clause-ok : goal.returns-then-is_some-clause-ok
returns-then-is_some-clause-ok c =
    let known = rw (c.bytes.ensures, c.deref.ensures) at c.known_segment.ensures.known in
    let bytes = c.args.judged.now.value.bytes in
    same_view c.args.self.now _ (take_same c.args.self.now.view c.args.name bytes bytes c.known_segment.ensures.settled
    (known.0 (sym c.is_some.ensures ∙ c.if-is_some.true)) refl)
