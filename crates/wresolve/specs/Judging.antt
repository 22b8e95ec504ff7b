-- What resolving a query, or the source of one, makes of the SELECTs so far, or the least rule that it breaks.
use Rattle.std.specs.Prelude.{◌≡◌, List, [], ◌∷◌, ◌++◌, Option, Some, None, Result, Ok, Err, map}
use Rattle.std.specs.declared.alloc.Global.{Global}
use Rattle.std.specs.declared.vec.Vec.{Vec}
use Rattle.wsegment.specs.Declaration.{Declaration}
use Rattle.wquery.specs.declared.query.Query.{Query}
use Rattle.wquery.specs.QueryTree.{QueryTree, SourceTree, view_query, view_source}
use Rattle.wplan.specs.Plans.{SelectPlan, select_plan}
use Rattle.wplan.specs.declared.resolved.Selection.{Selection}
use Rattle.wscope.specs.Clauses.{clauses_in}
use Rattle.wscope.specs.Sources.{all_titled, origin_of, answer_columns}
use Rattle.wscope.specs.Types.{Titled}
use Rattle.wscope.specs.declared.source.SourceColumn.{SourceColumn}
use Rattle.wrules.specs.declared.rule.Rule.{Rule}
use Rattle.wrules.specs.Rules.{least, least_broken, least_source, or_else, sets_rule}
use Rattle.wresolve.specs.declared.made.Made.{Made}
use Rattle.wresolve.specs.declared.resolve_fault.ResolveFault.{ResolveFault}
use Rattle.wresolve.specs.declared.resolve_fault.ResolveFault.TheVariants.{Broken, NoMemory}
use Rattle.wresolve.specs.Selecting.{resolved_query, resolved_source, select_made}

-- the SELECTs so far
abbrev pub plans_made : Made → List SelectPlan
plans_made m = map select_plan m.selections.items

-- the least rule that a query over these columns breaks, its derived table aside, with the last but that on the number of
-- its sets
abbrev pub rule_over : Declaration → Option Rule → List Titled → Query → Option Rule
rule_over d last cs q =
    or_else (least_broken d.table (origin_of d (view_source q.source)).alias cs (clauses_in q) (view_source q.source))
    (or_else last (sets_rule (view_query q)))

-- a SELECT over these columns
abbrev pub ResolvesOver : Declaration → Option Rule → List Titled → Query → Result Selection ResolveFault → Type 0
ResolvesOver d last cs q (Ok s) = (rule_over d last cs q ≡ None) × (select_plan s ≡ select_made cs (clauses_in q))
ResolvesOver d last cs q (Err (Broken rule)) = rule_over d last cs q ≡ Some rule
ResolvesOver d last cs q (Err NoMemory) = Unit {0}

-- a query: its SELECTs go behind those so far, and the columns of its answer are told
abbrev pub ResolvesQuery : Declaration → Option Rule → QueryTree → List SelectPlan → List SelectPlan
    → Result (Vec SourceColumn Global) ResolveFault → Type 0
ResolvesQuery d last q old new (Ok cs) =
    (or_else (least d q) (or_else last (sets_rule q)) ≡ None) × (all_titled cs.items ≡ answer_columns d q)
    × (new ≡ old ++ resolved_query d q)
ResolvesQuery d last q old new (Err (Broken rule)) = or_else (least d q) (or_else last (sets_rule q)) ≡ Some rule
ResolvesQuery d last q old new (Err NoMemory) = Unit {0}

-- a source: the SELECTs of a derived table go behind those so far, and the columns of the source are told
abbrev pub ResolvesSource : Declaration → SourceTree → List SelectPlan → List SelectPlan
    → Result (Vec SourceColumn Global) ResolveFault → Type 0
ResolvesSource d s old new (Ok cs) =
    (least_source d s ≡ None) × (all_titled cs.items ≡ (origin_of d s).columns) × (new ≡ old ++ resolved_source d s)
ResolvesSource d s old new (Err (Broken rule)) = least_source d s ≡ Some rule
ResolvesSource d s old new (Err NoMemory) = Unit {0}
