use Rattle.std.proofs.Common.{◌+◌, List, ap, ◌∙◌}
use Rattle.wscope.specs.declared.full_window.FullEntry.{FullEntry}
use Rattle.wscope.specs.Windows.{named_windows}
use Rattle.wscope.specs.Indexes.{is_place, place_of}
use Rattle.wwindows.proofs.Repeated.{passed_on, repeated}
use Rattle.wwindows.proofs.windows.repeats_names.Goals as goal

pub returns-then-not-is_first : goal.returns-then-not-is_first
returns-then-not-is_first c =
    repeated c.args.entries.now c.entries.entry-index c.entries.place c.entry-item.result c.is_first.result
    c.entries.invariant.0 c.entries-test.true c.entry-item.is c.entries.invariant.1
    (c.is_first.ensures ∙ ap (λ (es : List FullEntry). is_place c.entries.place (place_of c.entry-item.result.name.now
    (named_windows es))) c.requires) c.if-not-is_first.true

pub entries-preserved : goal.entries-preserved
entries-preserved c = (
  ap (λ n. n + 1) c.entries.invariant.0,
  passed_on c.args.entries.now c.entries.entry-index c.entries.place c.entry-item.result c.is_first.result
      c.entries.invariant.0 c.entries-test.true c.entry-item.is c.entries.invariant.1
      (c.is_first.ensures ∙ ap (λ (es : List FullEntry). is_place c.entries.place (place_of c.entry-item.result.name.now
      (named_windows es))) c.requires) c.if-not-is_first.false,
)
