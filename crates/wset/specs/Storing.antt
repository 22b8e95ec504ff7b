-- How a set is kept.
use Rattle.std.specs.Prelude.{◌≡◌, ◌<◌, ◌^◌, length, IfSome}
use Rattle.std.specs.FinMap.{from_sorted}
use Rattle.wset.specs.Sets.{DeclaredView}
use Rattle.wentries.specs.Entries.{AllHeldBy, AreSettled, IsRising, known_entries}
use Rattle.wentries.specs.Blocks.{flat}
use Rattle.wset.specs.KeptOrders.{IsNoteOf, IsOrderOf}
use Rattle.wset.specs.Running.{AreStarts}
use Rattle.wentries.specs.Keeping.{orders_in, rows_in}
use Rattle.wset.specs.declared.set.SegmentSet.TheInside.{Inside}

-- the view of the entries, under the declaration
abbrev pub declared_view : Inside → DeclaredView
declared_view s = record {
  schema = s.schema;
  view = from_sorted (known_entries (flat s.blocks.items));
  orders =
      orders_in (flat s.blocks.items);
}

-- the names rise, none is below a floor, they are counted by a number of 64 bits, each segment was read by the
-- declaration, the live names before each block are counted, and an order that is kept is that of the rows that are live, as is
-- what is noted of them
pub record IsOrderly (s : Inside) : Type 0 where
  pub rising : IsRising (flat s.blocks.items)
  pub settled : AreSettled (known_entries (flat s.blocks.items))
  pub counted : s.count ≡ length (flat s.blocks.items)
  pub few : s.count < 2 ^ 64
  pub read : AllHeldBy s.schema (flat s.blocks.items)
  pub placed : length s.starts.items ≡ length s.blocks.items
  pub starts : AreStarts s.blocks.items s.starts.items
  pub ordered : IfSome s.order (IsOrderOf (rows_in (flat s.blocks.items)))
  pub noted : IfSome s.differing (IsNoteOf (rows_in (flat s.blocks.items)))
