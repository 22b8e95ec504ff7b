use Rattle.std.proofs.Common.{◌<◌, ◌+◌, slice_set, length, sym, ap, ◌∙◌, arith, take_all}
use Rattle.std.proofs.lemmas.List.Elements.{All-same}
use Rattle.wentries.specs.Keeping.{HeldHasRun, orders_held, plain_entry}
use Rattle.wentries.specs.declared.entries.Entry.{Entry}
use Rattle.wentries.proofs.AddedFacts.{added_next, entries_added}
use Rattle.wentries.proofs.Lists.{all_more, same_length, set_keeps}
use Rattle.wentries.proofs.entries.make_runs.Goals as goal

pub loop-i-preserved : goal.loop-i-preserved
loop-i-preserved c =
    let xs = c.loop-i.entries.items in
    let i = c.loop-i.i in
    let x = c.index_mut-entry.result.now in
    let new : Entry = record { name = x.name; held = c.make.new.self } in
    let long = same_length plain_entry xs c.args.entries.now.items c.loop-i.invariant.plain in
    let lt : i < length xs = omega (arith, c.loop-i-test.true, c.len-i-end.ensures, c.args.entries.now.ok.0, long) in
    record {
      plain = set_keeps plain_entry xs i x new c.index_mut-entry.ensures.value
          (ap (λ h. (x.name, h)) c.in_ok-make.ensures.plain) ∙ c.loop-i.invariant.plain;
      has = all_more (λ e. HeldHasRun c.args.keys.now e.held) xs i new lt c.loop-i.invariant.has c.in_ok-make.ensures.has;
      adds = added_next (λ (e : Entry). orders_held e.held) c.args.keys.now c.args.entries.now.items xs i x new
          c.index_mut-entry.ensures.value c.in_ok-make.ensures.adds c.loop-i.invariant.adds;
    }

pub returns-in_err-make-clause-plain : goal.returns-in_err-make-clause-plain
returns-in_err-make-clause-plain c =
    let x = c.index_mut-entry.result.now in
    let new : Entry = record { name = x.name; held = c.make.new.self } in
    set_keeps plain_entry c.loop-i.entries.items c.loop-i.i x new c.index_mut-entry.ensures.value
    (ap (λ h. (x.name, h)) c.make.ensures.plain) ∙ c.loop-i.invariant.plain

pub returns-in_err-make-clause-adds : goal.returns-in_err-make-clause-adds
returns-in_err-make-clause-adds c =
    let xs = c.loop-i.entries.items in
    let i = c.loop-i.i in
    let x = c.index_mut-entry.result.now in
    let new : Entry = record { name = x.name; held = c.make.new.self } in
    entries_added c.args.keys.now (i + 1) c.args.entries.now.items (slice_set xs i new)
    (added_next (λ (e : Entry). orders_held e.held) c.args.keys.now c.args.entries.now.items xs i x new
    c.index_mut-entry.ensures.value c.make.ensures.adds c.loop-i.invariant.adds)

pub returns-clause-adds : goal.returns-clause-adds
returns-clause-adds c =
    entries_added c.args.keys.now c.loop-i.i c.args.entries.now.items c.loop-i.entries.items c.loop-i.invariant.adds

pub returns-clause-has : goal.returns-clause-has
returns-clause-has c =
    let xs = c.loop-i.entries.items in
    let long = same_length plain_entry xs c.args.entries.now.items c.loop-i.invariant.plain in
    All-same (λ e. HeldHasRun c.args.keys.now e.held) xs _
    (sym (take_all c.loop-i.i xs (omega (
      arith,
      c.loop-i-test.false,
      c.len-i-end.ensures,
      c.args.entries.now.ok.0,
      long,
    )))) c.loop-i.invariant.has
