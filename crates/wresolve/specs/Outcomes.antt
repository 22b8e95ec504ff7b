-- What resolving a query answers.
use Rattle.std.specs.Prelude.{◌≡◌, Result, Ok, Err, Some, None}
use Rattle.wsegment.specs.Declaration.{Declaration}
use Rattle.wquery.specs.QueryTree.{QueryTree}
use Rattle.wplan.specs.declared.resolved.Resolved.{Resolved}
use Rattle.wplan.specs.Plans.{plans}
use Rattle.wrules.specs.Rules.{first_broken_rule}
use Rattle.wresolve.specs.declared.resolve_fault.ResolveFault.{ResolveFault}
use Rattle.wresolve.specs.declared.resolve_fault.ResolveFault.TheVariants.{Broken, NoMemory}
use Rattle.wresolve.specs.Selecting.{resolved_query}

-- the SELECTs that the query stands for, where it breaks no rule, or the least rule that it breaks, unless memory was refused
abbrev pub Resolves : Declaration → QueryTree → Result Resolved ResolveFault → Type 0
Resolves d q (Ok r) = (first_broken_rule d q ≡ None) × (plans r ≡ resolved_query d q)
Resolves d q (Err (Broken rule)) = first_broken_rule d q ≡ Some rule
Resolves d q (Err NoMemory) = Unit {0}
