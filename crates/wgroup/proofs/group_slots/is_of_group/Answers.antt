use Rattle.std.proofs.Common.{◌≡◌, ◌+◌, ◌*◌, ◌<◌, ◌≤◌, length, take, drop, subst, sym, ap, ◌∙◌, arith}
use Rattle.wgroup.proofs.TableFacts.{is_one, key_within}
use Rattle.wgroup.proofs.group_slots.is_of_group.Goals as goal

pub slice_of-key-requires : goal.slice_of-key-requires
slice_of-key-requires c =
    let table = c.args.table.now in
    let width = length c.args.keyed.now.columns.now in
    let within : c.args.number < length table.firsts.items = omega (arith, c.if-number-len.false, c.len.ensures, table.firsts.ok.0) in
    subst (λ keys. c.args.number * width + width ≤ length keys) (sym c.deref.ensures.value)
    (key_within c.args.keyed.now table.firsts.items table.keys.items c.requires c.args.number within)

pub returns : goal.returns
returns c =
    let table = c.args.table.now in
    let width = length c.args.keyed.now.columns.now in
    let within : c.args.number < length table.firsts.items = omega (arith, c.if-number-len.false, c.len.ensures, table.firsts.ok.0) in
    let key : c.slice_of-key.result.now ≡ take width (drop (c.args.number * width) table.keys.items) =
    c.slice_of-key.ensures.list ∙ ap (λ keys. take width (drop (c.args.number * width) keys)) c.deref.ensures.value in
    c.has_key.ensures ∙ is_one c.args.keyed.now table.firsts.items table.keys.items c.requires c.args.row c.args.number
    c.slice_of-key.result.now within key
