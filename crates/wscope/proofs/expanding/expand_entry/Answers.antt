use Rattle.std.proofs.Common.{◌∙◌}
use Rattle.wquery.specs.Tree.{view_window}
use Rattle.wscope.specs.Windows.{named_windows, optional_window}
use Rattle.wscope.proofs.Placed.{entry_is_expanded, expanded_is}
use Rattle.wscope.proofs.expanding.expand_entry.Goals as goal

pub returns : goal.returns
returns c = entry_is_expanded c.args.entry.now c.as_str.result c.expand_over-window.result
    (named_windows c.args.entries.now) c.as_str.ensures.value (c.expand_over-window.ensures
    ∙ expanded_is (named_windows c.args.entries.now) (optional_window c.copied_of-found.result)
    (view_window c.args.entry.now.window) c.copied_of-found.ensures)
