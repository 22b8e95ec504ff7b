use Rattle.std.proofs.Common.{◌≡◌, ◌++◌, drop, map}
use Rattle.wquery.specs.GroupElements.{all_columns, view_element}
use Rattle.wscope.specs.Groups.{lent_columns}
use Rattle.wscope.proofs.grouping.grouped_columns.Given as goal

abbrev pub invariant-grouping : goal.invariant-grouping
invariant-grouping l = lent_columns l.made.items ++ all_columns (map view_element (drop l.element-index l.grouping))
    ≡ all_columns (map view_element l.grouping)
