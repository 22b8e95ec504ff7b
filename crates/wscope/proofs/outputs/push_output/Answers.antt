use Rattle.std.proofs.Common.{◌≡◌, ◌++◌, List, IfOk, subst, sym}
use Rattle.wscope.specs.Sources.{all_titled}
use Rattle.wscope.specs.Types.{Titled}
use Rattle.wscope.proofs.StarColumns.{item_answered}
use Rattle.wscope.proofs.outputs.push_output.Goals as goal

pub returns-in-All : goal.returns-in-All
returns-in-All c =
    subst (λ (ts : List Titled). IfOk c.push_columns.result (λ _. all_titled c.push_columns.new.made.items
    ≡ all_titled c.args.made.now.items ++ ts))
    (sym (item_answered (all_titled c.args.columns.now) c.args.item.now c.in-All.is)) c.push_columns.ensures
