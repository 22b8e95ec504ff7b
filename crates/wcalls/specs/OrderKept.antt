-- How rows in the order of a window are kept: their partition values and keys by the rows' numbers.
use Rattle.std.specs.Prelude.{◌≡◌, ◌<◌, All, IfSome, length, map}
use Rattle.wvalues.specs.Order.{keys_cmp}
use Rattle.wframe.specs.Codes.{TellApart}
use Rattle.wframe.specs.Peers.{AreOrdered, AreOrderedWithin, key_at}
use Rattle.wcalls.specs.Listed.{lists_in}
use Rattle.wcalls.specs.Ordered.{Ordered}
use Rattle.wcalls.specs.declared.window_order.WindowOrder.TheInside.{Inside}

abbrev pub order_of : Inside → Ordered
order_of o = record {
  rows = o.rows.items;
  values = map (key_at (lists_in o.values.lists)) o.rows.items;
  value_order = o.values.orders.items;
  keys = map (key_at (lists_in o.keys.lists)) o.rows.items;
  order = o.keys.orders.items;
}

-- each row has a number below their count, the rows stand by partition values and then by keys, and codes tell them apart
pub record IsKept (o : Inside) : Type 0 where
  pub below : All (λ i. i < length o.rows.items) o.rows.items
  pub each_value : length (lists_in o.values.lists) ≡ length o.rows.items
  pub each_key : length (lists_in o.keys.lists) ≡ length o.rows.items
  pub by_values : AreOrdered (keys_cmp o.values.orders.items) (order_of o).values
  pub by_keys : AreOrderedWithin (keys_cmp o.values.orders.items) (order_of o).values (keys_cmp o.keys.orders.items) (order_of o).keys
  pub value_codes : IfSome o.value_codes (λ codes. TellApart (keys_cmp o.values.orders.items) (order_of o).values codes.items)
  pub key_codes : IfSome o.key_codes (λ codes. TellApart (keys_cmp o.keys.orders.items) (order_of o).keys codes.items)
