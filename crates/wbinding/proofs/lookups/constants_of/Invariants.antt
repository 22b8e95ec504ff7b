use Rattle.std.proofs.Common.{◌≡◌, true, map, take}
use Rattle.wvalues.specs.Meaning.{meaning}
use Rattle.wplan.specs.Formula.{constant, formula}
use Rattle.wbinding.specs.Lookups.{are_constants}
use Rattle.wbinding.proofs.lookups.constants_of.Given as goal

abbrev pub invariant-list : goal.invariant-list
invariant-list l = record {
  found : are_constants (take l.e-index l.list) ≡ true;
  values : map constant (map meaning l.values.items) ≡ map formula (take l.e-index l.list);
}
