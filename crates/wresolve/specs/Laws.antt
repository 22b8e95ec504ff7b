-- What is made of a query is grouped where the rules call it grouped.
use Rattle.std.specs.Prelude.{◌≡◌, List}
use Rattle.wquery.specs.QueryTree.{Clauses}
use Rattle.wscope.specs.Types.{Titled}
use Rattle.wnames.specs.Groups
use Rattle.wdistinct.specs.Calls.{group_calls}
use Rattle.wresolve.specs.Selecting.{is_grouped}

-- a query that is grouped by its list of aggregates without OVER is one that the rule on columns outside GROUP BY means
abbrev pub GroupedAlike : Type 0
GroupedAlike = (cs : List Titled) (c : Clauses) → is_grouped c (group_calls c) ≡ Groups.is_grouped cs c
