use Rattle.std.proofs.Common.{◌<◌, length, sym, ap, arith, subst, rules}
use Rattle.wentries.specs.Entries.{IsRising}
use Rattle.wentries.specs.Blocks.{IsHome}
use Rattle.wentries.proofs.BlockFacts.{rising_at}
use Rattle.wentries.proofs.Cutting.{cut_filled, cut_flat, cut_home_first, cut_home_later, cut_room_first}
use Rattle.wentries.proofs.Cutting.{cut_room_later, cut_within, length_halved}
use Rattle.wentries.proofs.blocks.roomy_home.Goals as goal

pub has_room-requires : goal.has_room-requires
has_room-requires c =
    let h = subst (λ bs. IsHome bs c.args.name.now c.home-k.result) c.deref.ensures.value c.home-k.ensures in
    subst IsRising (sym c.index.ensures) (rising_at c.args.blocks.now.items c.home-k.result c.index.result.now h.in_range c.requires.rising)

pub index-requires-2 : goal.index-requires-2
index-requires-2 c =
    let h = subst (λ bs. IsHome bs c.args.name.now c.home-k.result) c.deref.ensures.value c.home-k.ensures in
    let within : c.home-k.result < length c.cut.new.blocks.items =
    cut_within c.args.blocks.now.items c.cut.new.blocks.items c.args.name.now c.home-k.result c.index.result.now
    c.in_ok-cut.ensures.ok h.in_range c.requires.rising in
    search (rules, within)

pub returns-then-ends_before-clause-home : goal.returns-then-ends_before-clause-home
returns-then-ends_before-clause-home c =
    let h = subst (λ bs. IsHome bs c.args.name.now c.home-k.result) c.deref.ensures.value c.home-k.ensures in
    cut_home_later c.args.blocks.now.items c.cut.new.blocks.items c.args.name.now c.home-k.result c.index-2.result.now
    c.in_ok-cut.ensures.ok h.in_range c.requires.rising h c.index-2.ensures
    (c.ends_before.ensures.before c.if-ends_before.true)

pub returns-clause-home : goal.returns-clause-home
returns-clause-home c =
    let h = subst (λ bs. IsHome bs c.args.name.now c.home-k.result) c.deref.ensures.value c.home-k.ensures in
    cut_home_first c.args.blocks.now.items c.cut.new.blocks.items c.args.name.now c.home-k.result c.index-2.result.now
    c.in_ok-cut.ensures.ok h.in_range c.requires.rising h c.index-2.ensures
    (c.ends_before.ensures.behind c.if-ends_before.false)

pub returns-then-ends_before-clause-room : goal.returns-then-ends_before-clause-room
returns-then-ends_before-clause-room c d =
    let h = subst (λ bs. IsHome bs c.args.name.now c.home-k.result) c.deref.ensures.value c.home-k.ensures in
    cut_room_later c.args.blocks.now.items c.cut.new.blocks.items c.args.name.now c.home-k.result c.index.result.now
    c.in_ok-cut.ensures.ok h.in_range c.requires.rising
    c.index.result.now c.index.ensures (c.has_room.ensures.full c.if-has_room.false) d

pub returns-clause-room : goal.returns-clause-room
returns-clause-room c d =
    let h = subst (λ bs. IsHome bs c.args.name.now c.home-k.result) c.deref.ensures.value c.home-k.ensures in
    cut_room_first c.args.blocks.now.items c.cut.new.blocks.items c.args.name.now c.home-k.result c.index.result.now
    c.in_ok-cut.ensures.ok h.in_range c.requires.rising
    c.index.result.now c.index.ensures (c.has_room.ensures.full c.if-has_room.false) d

pub returns-then-ends_before-clause-same : goal.returns-then-ends_before-clause-same
returns-then-ends_before-clause-same c =
    let h = subst (λ bs. IsHome bs c.args.name.now c.home-k.result) c.deref.ensures.value c.home-k.ensures in
    cut_flat c.args.blocks.now.items c.cut.new.blocks.items c.args.name.now c.home-k.result c.index.result.now
    c.in_ok-cut.ensures.ok h.in_range c.requires.rising

pub returns-clause-same : goal.returns-clause-same
returns-clause-same c =
    let h = subst (λ bs. IsHome bs c.args.name.now c.home-k.result) c.deref.ensures.value c.home-k.ensures in
    cut_flat c.args.blocks.now.items c.cut.new.blocks.items c.args.name.now c.home-k.result c.index.result.now
    c.in_ok-cut.ensures.ok h.in_range c.requires.rising

pub returns-then-ends_before-clause-filled : goal.returns-then-ends_before-clause-filled
returns-then-ends_before-clause-filled c =
    let h = subst (λ bs. IsHome bs c.args.name.now c.home-k.result) c.deref.ensures.value c.home-k.ensures in
    cut_filled c.args.blocks.now.items c.cut.new.blocks.items c.args.name.now c.home-k.result c.index.result.now
    c.in_ok-cut.ensures.ok h.in_range c.requires.rising
    c.index.result.now c.index.ensures (c.has_room.ensures.full c.if-has_room.false)

pub returns-clause-filled : goal.returns-clause-filled
returns-clause-filled c =
    let h = subst (λ bs. IsHome bs c.args.name.now c.home-k.result) c.deref.ensures.value c.home-k.ensures in
    cut_filled c.args.blocks.now.items c.cut.new.blocks.items c.args.name.now c.home-k.result c.index.result.now
    c.in_ok-cut.ensures.ok h.in_range c.requires.rising
    c.index.result.now c.index.ensures (c.has_room.ensures.full c.if-has_room.false)

pub returns-then-ends_before-clause-long : goal.returns-then-ends_before-clause-long
returns-then-ends_before-clause-long c =
    let h = subst (λ bs. IsHome bs c.args.name.now c.home-k.result) c.deref.ensures.value c.home-k.ensures in
    omega (arith, ap length c.in_ok-cut.ensures.ok, length_halved c.args.blocks.now.items c.home-k.result h.in_range)

pub returns-clause-long : goal.returns-clause-long
returns-clause-long c =
    let h = subst (λ bs. IsHome bs c.args.name.now c.home-k.result) c.deref.ensures.value c.home-k.ensures in
    omega (arith, ap length c.in_ok-cut.ensures.ok, length_halved c.args.blocks.now.items c.home-k.result h.in_range)

pub returns-then-ends_before-clause-uncut : goal.returns-then-ends_before-clause-uncut
returns-then-ends_before-clause-uncut c same =
    let h = subst (λ bs. IsHome bs c.args.name.now c.home-k.result) c.deref.ensures.value c.home-k.ensures in
    absurd (omega (arith, same, ap length c.in_ok-cut.ensures.ok, length_halved c.args.blocks.now.items c.home-k.result h.in_range))

pub returns-clause-uncut : goal.returns-clause-uncut
returns-clause-uncut c same =
    let h = subst (λ bs. IsHome bs c.args.name.now c.home-k.result) c.deref.ensures.value c.home-k.ensures in
    absurd (omega (arith, same, ap length c.in_ok-cut.ensures.ok, length_halved c.args.blocks.now.items c.home-k.result h.in_range))
