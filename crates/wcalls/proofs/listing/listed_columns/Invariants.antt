use Rattle.std.proofs.Common.{◌≡◌, map, take}
use Rattle.wcolumns.specs.Columns.{columns_seen}
use Rattle.wcalls.specs.ListedValues.{is_lent, keeps_values, listed_seen}
use Rattle.wcalls.proofs.listing.listed_columns.Given as goal

abbrev pub invariant-loop-lent : goal.invariant-loop-lent
invariant-loop-lent l = record {
  seen : map listed_seen l.lists.items ≡ columns_seen (take l.lent-index l.columns);
  lent : map is_lent l.lists.items ≡ map (λ lent. keeps_values lent.column.now) (take l.lent-index l.columns);
}
