-- What is known of rows that were sorted by partition values and by keys, a list for each row.
use Rattle.std.specs.Prelude.{◌≡◌, ◌<◌, ℕ, List, All, IfSome, length, map}
use Rattle.std.specs.Ordering.{on}
use Rattle.wvalues.specs.declared.key.SortKey.{SortKey}
use Rattle.wvalues.specs.Meaning.{Meaning}
use Rattle.wvalues.specs.Order.{keys_cmp}
use Rattle.wframe.specs.Codes.{TellApart}
use Rattle.wframe.specs.Peers.{key_at}
use Rattle.wframe.specs.Sorting.{sorted}
use Rattle.wrows.specs.Plain.{numbers_by}
use Rattle.wcalls.specs.declared.window_order.RowOrder.{RowOrder}

-- the numbers of so many rows by partition values, by keys and then by number, and codes that tell apart what they have there
pub record IsRowOrder (value_order : List SortKey) (values : List (List Meaning)) (key_order : List SortKey)
    (keys : List (List Meaning)) (count : ℕ) (o : RowOrder) : Type 0 where
  pub order : o.rows.items ≡ sorted (on (key_at values) (keys_cmp value_order)) (numbers_by key_order keys count)
  pub below : All (λ i. i < count) o.rows.items
  pub len : length o.rows.items ≡ count
  pub value_codes : IfSome o.value_codes (λ codes. TellApart (keys_cmp value_order) (map (key_at values) o.rows.items) codes.items)
  pub key_codes : IfSome o.key_codes (λ codes. TellApart (keys_cmp key_order) (map (key_at keys) o.rows.items) codes.items)
