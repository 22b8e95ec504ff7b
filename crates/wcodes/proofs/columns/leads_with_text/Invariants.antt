use Rattle.std.proofs.Common.{◌≡◌, drop}
use Rattle.wcodes.specs.CodedRows.{leads_with_text, values_seen}
use Rattle.wcodes.proofs.columns.leads_with_text.Given as goal

abbrev pub invariant-values : goal.invariant-values
invariant-values l = leads_with_text (values_seen l.column) ≡ leads_with_text (values_seen (drop l.value-index l.column))
