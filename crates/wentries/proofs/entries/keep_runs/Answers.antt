use Rattle.std.proofs.Common.{◌≡◌, ◌<◌, ◌+◌, slice_set, [], length, drop, refl, sym, ap, subst, ◌∙◌, arith, take_all}
use Rattle.std.specs.List.{flat_map}
use Rattle.std.proofs.lemmas.List.{drop_all}
use Rattle.std.proofs.lemmas.List.Elements.{All-same}
use Rattle.wentries.specs.Keeping.{BeginWithRuns, HeldHasRun, orders_held, plain_entry, rows_held}
use Rattle.wentries.specs.declared.entries.Entry.{Entry}
use Rattle.wentries.proofs.AddedFacts.{added_next, entries_added}
use Rattle.wentries.proofs.DealtFacts.{begin_here, begin_next, left_next, rows_by_entry}
use Rattle.wentries.proofs.Lists.{all_more, same_length, set_keeps}
use Rattle.wentries.proofs.entries.keep_runs.Goals as goal

pub loop-i-init : goal.loop-i-init
loop-i-init c =
    let es = c.args.entries.now.items in
    record {
      plain = refl;
      has = λ k d h. absurd (omega (arith, h));
      adds = refl;
      runs = subst (λ l. BeginWithRuns c.args.keys.now l c.args.runs.now) (sym (rows_by_entry es)) c.requires;
      left = ap (λ l. drop (length l) c.args.runs.now) (rows_by_entry es);
    }

pub keep_run-requires : goal.keep_run-requires
keep_run-requires c =
    let xs = c.loop-i.entries.items in
    let x = c.index_mut-entry.result.now in
    let long = same_length plain_entry xs c.args.entries.now.items c.loop-i.invariant.plain in
    let lt : c.loop-i.i < length xs = omega (arith, c.loop-i-test.true, c.len-i-end.ensures, c.args.entries.now.ok.0, long) in
    begin_here (λ (e : Entry). rows_held e.held) c.args.keys.now xs c.loop-i.i x x lt c.index_mut-entry.ensures.value
    c.loop-i.left.now c.loop-i.invariant.runs

pub loop-i-preserved : goal.loop-i-preserved
loop-i-preserved c =
    let xs = c.loop-i.entries.items in
    let i = c.loop-i.i in
    let x = c.index_mut-entry.result.now in
    let new : Entry = record { name = x.name; held = c.keep_run.new.self } in
    let long = same_length plain_entry xs c.args.entries.now.items c.loop-i.invariant.plain in
    let lt : i < length xs = omega (arith, c.loop-i-test.true, c.len-i-end.ensures, c.args.entries.now.ok.0, long) in
    let f : Entry → _ = λ e. rows_held e.held in
    record {
      plain = set_keeps plain_entry xs i x new c.index_mut-entry.ensures.value
          (ap (λ h. (x.name, h)) c.in_ok-left.ensures.plain) ∙ c.loop-i.invariant.plain;
      has = all_more (λ e. HeldHasRun c.args.keys.now e.held) xs i new lt c.loop-i.invariant.has c.in_ok-left.ensures.has;
      adds = added_next (λ (e : Entry). orders_held e.held) c.args.keys.now c.args.entries.now.items xs i x new
          c.index_mut-entry.ensures.value c.in_ok-left.ensures.adds c.loop-i.invariant.adds;
      runs = begin_next f c.args.keys.now xs i x new lt c.index_mut-entry.ensures.value c.loop-i.left.now
          c.in_ok-left.left.now c.in_ok-left.ensures.left c.loop-i.invariant.runs;
      left = left_next f c.args.keys.now xs i x new lt c.index_mut-entry.ensures.value c.loop-i.left.now
          c.in_ok-left.left.now c.in_ok-left.ensures.left ∙ c.loop-i.invariant.left;
    }

pub returns-in_err-left-clause-plain : goal.returns-in_err-left-clause-plain
returns-in_err-left-clause-plain c =
    let x = c.index_mut-entry.result.now in
    let new : Entry = record { name = x.name; held = c.keep_run.new.self } in
    set_keeps plain_entry c.loop-i.entries.items c.loop-i.i x new c.index_mut-entry.ensures.value
    (ap (λ h. (x.name, h)) c.keep_run.ensures.plain) ∙ c.loop-i.invariant.plain

pub returns-in_err-left-clause-adds : goal.returns-in_err-left-clause-adds
returns-in_err-left-clause-adds c =
    let xs = c.loop-i.entries.items in
    let i = c.loop-i.i in
    let x = c.index_mut-entry.result.now in
    let new : Entry = record { name = x.name; held = c.keep_run.new.self } in
    entries_added c.args.keys.now (i + 1) c.args.entries.now.items (slice_set xs i new)
    (added_next (λ (e : Entry). orders_held e.held) c.args.keys.now c.args.entries.now.items xs i x new
    c.index_mut-entry.ensures.value c.keep_run.ensures.adds c.loop-i.invariant.adds)

pub returns-clause-adds : goal.returns-clause-adds
returns-clause-adds c =
    entries_added c.args.keys.now c.loop-i.i c.args.entries.now.items c.loop-i.entries.items c.loop-i.invariant.adds

pub returns-clause-has : goal.returns-clause-has
returns-clause-has c =
    let xs = c.loop-i.entries.items in
    let long = same_length plain_entry xs c.args.entries.now.items c.loop-i.invariant.plain in
    All-same (λ e. HeldHasRun c.args.keys.now e.held) xs _
    (sym (take_all c.loop-i.i xs (omega (
      arith,
      c.loop-i-test.false,
      c.len-i-end.ensures,
      c.args.entries.now.ok.0,
      long,
    )))) c.loop-i.invariant.has

pub returns-clause-left : goal.returns-clause-left
returns-clause-left c =
    let xs = c.loop-i.entries.items in
    let long = same_length plain_entry xs c.args.entries.now.items c.loop-i.invariant.plain in
    let none : drop c.loop-i.i xs ≡ [] =
    drop_all c.loop-i.i xs (omega (arith, c.loop-i-test.false, c.len-i-end.ensures, c.args.entries.now.ok.0, long)) in
    sym (ap (λ l. drop (length (flat_map (λ (e : Entry). rows_held e.held) l)) c.loop-i.left.now) none) ∙ c.loop-i.invariant.left
