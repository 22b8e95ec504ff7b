use Rattle.std.proofs.Common.{map}
use Rattle.std.proofs.lemmas.List.{append-nil}
use Rattle.wquery.specs.Tree.{view_link}
use Rattle.wnodes.specs.Children.{nodes_left, operands}
use Rattle.wnodes.proofs.Beside.{linked_all}
use Rattle.wnodes.proofs.children.Children.chained.Goals as goal

pub returns : goal.returns
unfolding nodes_left
returns c = search (c.alone.ensures, linked_all (map view_link c.args.links.now), append-nil (operands (map view_link c.args.links.now)))
