use Rattle.std.proofs.Common.{◌≡◌, map, take, drop}
use Rattle.std.specs.Cmp.Lexicographic.{pointwise}
use Rattle.wplan.specs.Formula.{formula, operand_of}
use Rattle.wshare.specs.Sameness.{is_same, is_same_link}
use Rattle.wshare.proofs.sameness.+sameness.Given as goal

abbrev pub invariant-same_values-values : goal.invariant-same_values-values
invariant-same_values-values l = record {
  place : l.place ≡ l.x-index;
  exact : pointwise is_same l.others l.list ≡ pointwise is_same (drop l.x-index l.others) (drop l.x-index l.list);
  alike : map formula (take l.x-index l.others) ≡ map formula (take l.x-index l.list);
}

abbrev pub invariant-same_links-links : goal.invariant-same_links-links
invariant-same_links-links l = record {
  place : l.place ≡ l.x-index;
  exact : pointwise is_same_link l.others l.links ≡ pointwise is_same_link (drop l.x-index l.others) (drop l.x-index l.links);
  alike : map operand_of (take l.x-index l.others) ≡ map operand_of (take l.x-index l.links);
}
