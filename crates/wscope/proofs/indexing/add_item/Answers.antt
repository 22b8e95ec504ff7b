use Rattle.std.proofs.Common.{List, OnOk, subst}
use Rattle.wquery.specs.Tree.{view}
use Rattle.wscope.specs.Sources.{ShownItem, all_titled, written_out}
use Rattle.wscope.specs.Types.{type_of}
use Rattle.wscope.specs.Outputs.{IsIndex}
use Rattle.wscope.proofs.Indexed.{star_behind, value_behind}
use Rattle.wscope.proofs.indexing.add_item.Goals as goal

pub returns-in-All : goal.returns-in-All
returns-in-All c = λ items e known.
    subst (λ (zs : List ShownItem). OnOk c.add_star.result (IsIndex c.add_star.new.called (all_titled c.args.columns.now)
    zs)) (star_behind (all_titled c.args.columns.now) items c.args.item.now c.in-All.is) (c.add_star.ensures items e known)

pub returns-in-Value : goal.returns-in-Value
returns-in-Value c = λ items e known.
    subst (λ (zs : List ShownItem). OnOk c.add.result (IsIndex c.add.new.called (all_titled c.args.columns.now) zs))
    (value_behind (all_titled c.args.columns.now) items c.args.item.now c.in-Value.expression c.in-Value.alias
    c.output_name-name.result.now c.in-Value.is c.output_name-name.ensures)
    (c.add.ensures (written_out (all_titled c.args.columns.now) items) (type_of (all_titled c.args.columns.now)
    (view c.in-Value.expression)) known)
