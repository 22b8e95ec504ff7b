use Rattle.std.proofs.Common.{◌≡◌, ℕ, List, take}
use Rattle.std.specs.BTreeSet.{contains_text}
use Rattle.std.specs.List.{list_any}
use Rattle.wscope.specs.Called.{names}
use Rattle.wscope.specs.Groups.{lent_columns}
use Rattle.wscope.proofs.grouping.column_names.Given as goal

abbrev pub invariant-columns : goal.invariant-columns
invariant-columns l = (q : List ℕ) → contains_text l.known q ≡ list_any (names q) (lent_columns (take l.column-index l.columns))
