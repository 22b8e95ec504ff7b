-- The key lists of rows, as they are lent.
use Rattle.std.specs.Prelude.{ℕ, List, Option, length, option_map}
use Rattle.wvalues.specs.declared.key.SortKey.{SortKey}
use Rattle.wvalues.specs.Meaning.{Meaning}
use Rattle.wvalues.specs.Order.{keys_cmp}
use Rattle.wframe.specs.KeyLists.{lists_of}
use Rattle.wframe.specs.Peers.{AreOrdered, AreOrderedWithin}
use Rattle.wframe.specs.declared.key_rows.KeyRows.{KeyRows}

-- the key list of each row
abbrev pub key_lists : KeyRows → List (List Meaning)
key_lists r = lists_of r.lists (length r.keys.now) r.count

-- the keys by which the rows stand
abbrev pub sort_keys : KeyRows → List SortKey
sort_keys r = r.keys.now

-- a code for each row, by which rows are told apart, where they have codes
abbrev pub row_codes : KeyRows → Option (List ℕ)
row_codes r = option_map (λ codes. codes.now) r.codes

-- the rows stand in the order of their keys
abbrev pub AreInOrder : KeyRows → Type 0
AreInOrder rows = AreOrdered (keys_cmp (sort_keys rows)) (key_lists rows)

-- rows that agree on their partition values stand in the order of their keys
abbrev pub AreInOrderWithin : KeyRows → KeyRows → Type 0
AreInOrderWithin values keys = AreOrderedWithin (keys_cmp (sort_keys values)) (key_lists values) (keys_cmp (sort_keys keys))
    (key_lists keys)
