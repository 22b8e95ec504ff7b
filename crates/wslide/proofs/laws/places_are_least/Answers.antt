use Rattle.wslide.specs.Lawful.{by_value_total, by_value_descending_total}
use Rattle.wslide.proofs.LeastRows.{least_row}
use Rattle.wslide.proofs.laws.places_are_least.Goals as goal

pub returns-clause-least : goal.returns-clause-least
returns-clause-least c = least_row by_value_total

pub returns-clause-greatest : goal.returns-clause-greatest
returns-clause-greatest c = least_row by_value_descending_total
