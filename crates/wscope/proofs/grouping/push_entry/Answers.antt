use Rattle.std.proofs.Common.{◌≡◌, ◌++◌, OnOk, List, map, subst, sym, ap, ◌∙◌}
use Rattle.std.specs.List.{flat_map}
use Rattle.std.specs.declared.alloc.Global.{Global}
use Rattle.std.specs.declared.vec.Vec.{Vec}
use Rattle.wquery.specs.declared.expression.Column.{Column}
use Rattle.wquery.specs.declared.query.GroupEntry.{GroupEntry}
use Rattle.wquery.specs.GroupElements.{entry_columns, view_group_entry, view_part}
use Rattle.wquery.specs.Tree.{Tree}
use Rattle.wscope.specs.Groups.{lent_columns}
use Rattle.wscope.proofs.grouping.push_entry.Goals as goal

pub returns-in-Rollup : goal.returns-in-Rollup
returns-in-Rollup c =
    subst (λ (l : List Tree). OnOk c.push_parts.result (lent_columns c.push_parts.new.made.items ≡ lent_columns c.args.made.now.items ++ l))
    (ap (λ (ps : List (Vec Column Global)). flat_map (λ part. part) (map view_part ps)) c.as_slice-in-Rollup.ensures.value
    ∙ sym (ap (λ (e : GroupEntry). entry_columns (view_group_entry e)) c.in-Rollup.is)) c.push_parts.ensures

pub returns-in-Cube : goal.returns-in-Cube
returns-in-Cube c =
    subst (λ (l : List Tree). OnOk c.push_parts-in-Cube.result (lent_columns c.push_parts-in-Cube.new.made.items
    ≡ lent_columns c.args.made.now.items ++ l))
    (ap (λ (ps : List (Vec Column Global)). flat_map (λ part. part) (map view_part ps)) c.as_slice-in-Cube.ensures.value
    ∙ sym (ap (λ (e : GroupEntry). entry_columns (view_group_entry e)) c.in-Cube.is)) c.push_parts-in-Cube.ensures
