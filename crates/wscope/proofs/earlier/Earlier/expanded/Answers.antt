use Rattle.std.proofs.Common.{◌∙◌}
use Rattle.wquery.specs.Tree.{view_window}
use Rattle.wscope.specs.Earlier.{seen}
use Rattle.wscope.specs.Windows.{optional_window}
use Rattle.wscope.proofs.Placed.{expanded_is}
use Rattle.wscope.proofs.earlier.Earlier.expanded.Goals as goal

pub returns : goal.returns
returns c = c.expand_over.ensures ∙ expanded_is (seen c.args.self) (optional_window c.find_copied-found.result)
    (view_window c.args.window.now) c.find_copied-found.ensures
