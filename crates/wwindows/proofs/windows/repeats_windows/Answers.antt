use Rattle.std.proofs.Common.{List, [], ap, ◌∙◌}
use Rattle.wscope.specs.declared.full_window.FullEntry.{FullEntry}
use Rattle.wscope.specs.Earlier.{windows_in}
use Rattle.wscope.specs.Indexes.{repeats}
use Rattle.wscope.specs.Scoped.{scope_clauses}
use Rattle.wscope.specs.Windows.{named_windows}
use Rattle.wwindows.proofs.Repeated.{repeats_entries}
use Rattle.wwindows.proofs.windows.repeats_windows.Goals as goal

pub returns : goal.returns
returns c = c.repeats_names.ensures ∙ ap (λ (l : List FullEntry). repeats [] (named_windows l)) c.as_slice.ensures.value
    ∙ repeats_entries (windows_in c.args.scope.now.windows) (scope_clauses c.args.scope.now).windows c.requires
