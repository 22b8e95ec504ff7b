use Rattle.std.proofs.Common.{◌≡◌, true, map, take}
use Rattle.std.specs.List.{list_all}
use Rattle.wplan.specs.Formula.{operand_of}
use Rattle.weval.specs.Joining.{Joins}
use Rattle.weval.specs.NumberTests.{is_number_link}
use Rattle.weval.proofs.comparing.push_links.Given as goal

abbrev pub invariant-links : goal.invariant-links
invariant-links l = record {
  found : list_all is_number_link (take l.link-index l.links) ≡ true;
  joins : Joins l.fn.tests.items l.tests.items (map operand_of (take l.link-index l.links));
}
