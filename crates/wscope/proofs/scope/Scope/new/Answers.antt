use Rattle.std.proofs.Common.{List, ap, ◌∙◌, map}
use Rattle.std.specs.Borrow.{Bor}
use Rattle.std.specs.List.{list_any}
use Rattle.wquery.specs.GroupElements.{all_columns, view_element}
use Rattle.wquery.specs.declared.expression.Column.{Column}
use Rattle.wquery.specs.declared.query.GroupElement.{GroupElement}
use Rattle.wscope.specs.Called.{names}
use Rattle.wscope.specs.Groups.{lent_columns}
use Rattle.wscope.specs.Sources.{all_titled}
use Rattle.wscope.proofs.Made.{named_by, two_by}
use Rattle.wscope.proofs.scope.Scope.new.Goals as goal

pub invariant_of-result : goal.invariant_of-result
invariant_of-result c =
    let columns = c.in_ok-grouped.ensures ∙ ap (λ (xs : List GroupElement). all_columns (map view_element xs)) c.as_slice-2.ensures.value in
    record {
      named = named_by c.in_ok-outputs.outputs (all_titled c.args.columns.now) c.as_slice.result.now
          c.args.query.now.items.items c.as_slice.ensures.value c.in_ok-outputs.ensures;
      two = two_by c.in_ok-outputs.outputs (all_titled c.args.columns.now) c.as_slice.result.now
          c.args.query.now.items.items c.as_slice.ensures.value c.in_ok-outputs.ensures;
      listed = λ p. ap (list_any p) columns;
      kept = λ q. c.in_ok-grouping.ensures q ∙ ap (λ (xs : List (Bor Column)). list_any (names q) (lent_columns xs))
          c.as_slice-3.ensures.value ∙ ap (list_any (names q)) columns;
    }
