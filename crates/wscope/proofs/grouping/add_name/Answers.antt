use Rattle.std.proofs.Common.{◌∙◌}
use Rattle.wscope.proofs.Grouped.{adds_column}
use Rattle.wscope.proofs.grouping.add_name.Goals as goal

pub returns : goal.returns
returns c = adds_column c.args.known.now c.insert.new.self c.in_ok-name.name c.args.column.now (c.in_ok-name.ensures.ok
    ∙ c.as_str.ensures.value) c.in_ok-insert.ensures.updates
