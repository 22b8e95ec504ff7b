use Rattle.std.proofs.Common.{List, map, take, take_all, ap, refl, ◌∙◌}
use Rattle.wquery.specs.declared.query.Item.{Item}
use Rattle.wquery.specs.QueryTree.{view_item}
use Rattle.wscope.specs.Sources.{all_titled, written_out}
use Rattle.wscope.specs.Called.{is_star}
use Rattle.wscope.proofs.Indexed.{index_along, index_empty, items_more, star_step}
use Rattle.wscope.proofs.indexing.output_index.Goals as goal

pub items-init : goal.items-init
items-init c = record {
  star = refl;
  index = index_empty c.new-called.result (all_titled c.args.columns.now) c.new-called.ensures.empty;
}

pub items-preserved : goal.items-preserved
items-preserved c = record {
  star = c.has_star_by-has_star.ensures ∙ star_step c.args.items.now c.items.item-index c.item-item.result c.items.has_star
      (is_star (view_item c.item-item.result)) c.items-test.true c.item-item.is c.items.invariant.star refl;
  index = index_along c.add_item.new.called (all_titled c.args.columns.now) _ _
      (ap (written_out (all_titled c.args.columns.now)) (items_more c.args.items.now c.items.item-index c.item-item.result
      c.items-test.true c.item-item.is))
      (c.in_ok-add_item.ensures (map view_item (take c.items.item-index c.args.items.now)) c.items.invariant.star c.items.invariant.index);
}

pub returns : goal.returns
returns c = index_along c.items.called (all_titled c.args.columns.now) _ _
    (ap (λ (ys : List Item). written_out (all_titled c.args.columns.now) (map view_item ys))
    (take_all c.items.item-index c.args.items.now c.items-test.false)) c.items.invariant.index
