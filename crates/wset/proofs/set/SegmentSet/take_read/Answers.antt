use Rattle.std.proofs.Common.{◌∙◌, sym, refl}
use Rattle.wset.proofs.Singles.{other_content, take_new, take_other, take_low, take_beaten}
use Rattle.wentries.specs.Knowledge.{Disputed, Retired, Floor}
use Rattle.wset.proofs.Sets.{same_view, then_view}
use Rattle.wset.proofs.set.SegmentSet.take_read.Goals as goal

pub returns-then-is_low-clause-ok : goal.returns-then-is_low-clause-ok
returns-then-is_low-clause-ok c =
    same_view c.args.self.now _ (take_low c.args.self.now.view c.args.name c.args.kept.content.bytes
    c.is_low.ensures.settled (sym c.is_low.ensures.low ∙ c.if-is_low.true))

pub returns-in-None-clause-ok : goal.returns-in-None-clause-ok
returns-in-None-clause-ok c =
    then_view c.args.self.now c.put.new.self _ _ c.in_ok-put-in-None.ensures.ok (take_new c.args.self.now.view c.args.name
    c.args.kept.content.bytes c.is_low.ensures.settled (sym c.is_low.ensures.low ∙ c.if-is_low.false) (sym c.in-None.ensures.known))

pub returns-in-Some-Live-clause-ok : goal.returns-in-Some-Live-clause-ok
returns-in-Some-Live-clause-ok c =
    let was = sym (rw c.in-Some-Live.field-0-is at c.in-Some-Live.ensures.known) in
    then_view c.args.self.now c.put-in-Some-Live.new.self _ _ c.in_ok-put-in-Some-Live.ensures.ok
    (take_other c.args.self.now.view c.args.name _ c.args.kept.content.bytes c.is_low.ensures.settled
    (sym c.is_low.ensures.low ∙ c.if-is_low.false) was
    (other_content c.args.self.now.view c.args.name _ c.args.kept.content.bytes c.requires.other was))

pub returns-in-Some-Disputed-clause-ok : goal.returns-in-Some-Disputed-clause-ok
returns-in-Some-Disputed-clause-ok c =
    same_view c.args.self.now _ (take_beaten c.args.self.now.view c.args.name Disputed c.args.kept.content.bytes
    c.is_low.ensures.settled (sym (rw c.in-Some-Disputed.field-0-is at c.in-Some-Disputed.ensures.known)) refl)

pub returns-in-Some-Retired-clause-ok : goal.returns-in-Some-Retired-clause-ok
returns-in-Some-Retired-clause-ok c =
    same_view c.args.self.now _ (take_beaten c.args.self.now.view c.args.name Retired c.args.kept.content.bytes
    c.is_low.ensures.settled (sym (rw c.in-Some-Retired.field-0-is at c.in-Some-Retired.ensures.known)) refl)

pub returns-clause-ok : goal.returns-clause-ok
returns-clause-ok c =
    same_view c.args.self.now _ (take_beaten c.args.self.now.view c.args.name Floor c.args.kept.content.bytes
    c.is_low.ensures.settled (sym (rw c.in-Some-Floor.field-0-is at c.in-Some-Floor.ensures.known)) refl)
