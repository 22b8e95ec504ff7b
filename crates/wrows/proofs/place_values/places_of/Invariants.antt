use Rattle.std.proofs.Common.{◌≡◌, drop, map, take}
use Rattle.std.specs.List.{list_all}
use Rattle.wplan.specs.Formula.{At}
use Rattle.wrows.specs.Laid.{formulas_seen}
use Rattle.wrows.specs.PlainColumns.{is_plain}
use Rattle.wrows.proofs.place_values.places_of.Given as goal

abbrev pub invariant-loop-expr : goal.invariant-loop-expr
invariant-loop-expr l = record {
  plain : list_all is_plain l.exprs ≡ list_all is_plain (drop l.expr-index l.exprs);
  places : formulas_seen (take l.expr-index l.exprs) ≡ map At l.places.items;
}
