-- The groups of rows in a table of slots, where each is found by the hash of its key.
use Rattle.std.specs.Prelude.{◌≡◌, ℕ, ◌+◌, ◌-◌, ◌^◌, ◌<◌, ◌≤◌, ◌&&◌, ◌++◌, Bool, true, List, [], ◌∷◌, length, map, min, take, drop}
use Rattle.std.specs.Prelude.{get_or, nat_le, nat_lt, if◌then◌else◌}
use Rattle.std.specs.Hash as fed
use Rattle.std.specs.Hash.{HashWrites}
use Rattle.std.specs.Hash.FoldHasher as folding
use Rattle.std.specs.Int.Bits.{bit_and}
use Rattle.std.specs.List.{flat_map, fold, list_any}
use Rattle.wvalues.specs.declared.value.Value.{Value}
use Rattle.wvalues.specs.Meaning.{Meaning, Null, Int, Text, meaning}
use Rattle.wrows.specs.Laid.{rows_seen}
use Rattle.wgroupby.specs.Sets.{is_among}
use Rattle.wgroup.specs.declared.keyed.GroupingRows.{GroupingRows}
use Rattle.wgroup.specs.declared.group_slots.GroupTable.{GroupTable}
use Rattle.wgroup.specs.Grouping.{agree, group_key}
use Rattle.wgroup.specs.Sight.{first_of}

-- whether two rows have the same key
abbrev pub alike : GroupingRows → ℕ → ℕ → Bool
alike keyed = agree keyed.columns.now (rows_seen keyed.rows.now)

-- what a hash is fed of a value, in one piece: values of two kinds may be fed alike, since keys that meet are compared
abbrev pub key_input : Meaning → HashWrites
key_input Null = fed.u8 0
key_input (Int x) = fed.i128 x
key_input (Text x) = x ∷ []

-- the hash of a key, and that of a row's
abbrev pub hash_of_key : List Meaning → ℕ
hash_of_key key = folding.finish (fold folding.write folding.initial (flat_map key_input key))

abbrev pub key_hash : GroupingRows → ℕ → ℕ
key_hash keyed row = hash_of_key (group_key keyed.columns.now (rows_seen keyed.rows.now) row)

-- the slot from which on a key of this hash is looked for
abbrev pub slot_of : List ℕ → ℕ → ℕ
slot_of slots hash = bit_and hash (length slots - 8)

-- the numbers of the groups with which a key is compared: those in its slots, and those that stand apart
abbrev pub looked_at : List ℕ → List ℕ → ℕ → List ℕ
looked_at slots apart first = take 8 (drop first slots) ++ apart

-- whether a group has this number, and the row is of that group
abbrev pub is_of_group : GroupingRows → List ℕ → ℕ → ℕ → Bool
is_of_group keyed firsts row number = nat_lt number (length firsts) && alike keyed row (get_or firsts number 0)

-- with how many groups that stand apart rows were compared, once a row is looked for from a slot on: with all of these, where it is of
-- no group in its slots
abbrev pub looks_after : GroupingRows → GroupTable → ℕ → ℕ → ℕ
looks_after keyed table first row =
    if list_any (is_of_group keyed table.firsts.items row) (take 8 (drop first table.slots.items)) then table.looks
    else min (table.looks + length table.apart.items) (2 ^ 64 - 1)

-- the groups that stand apart, once a group more is added from a slot on: it is one of them, where all of its slots are taken
abbrev pub apart_after : GroupTable → ℕ → List ℕ
apart_after table first =
    if list_any (nat_le (length table.firsts.items)) (take 8 (drop first table.slots.items)) then table.apart.items
    else table.apart.items ++ length table.firsts.items ∷ []

-- each group is met where its key is looked for
abbrev pub AreMet : GroupingRows → List ℕ → List ℕ → List ℕ → Type 0
AreMet keyed firsts slots apart = (g : ℕ) → g < length firsts
    → is_among g (looked_at slots apart (slot_of slots (key_hash keyed (get_or firsts g 0)))) ≡ true

-- the keys of the groups
abbrev pub HasKeys : GroupingRows → List ℕ → List Value → Type 0
HasKeys keyed firsts keys = map meaning keys ≡ flat_map (group_key keyed.columns.now (rows_seen keyed.rows.now)) firsts

-- the table holds the groups of the first n rows
pub record Holds (keyed : GroupingRows) (n : ℕ) (table : GroupTable) : Type 0 where
  pub groups : table.firsts.items ≡ first_of (alike keyed) n
  pub keys : HasKeys keyed table.firsts.items table.keys.items
  pub wide : 8 ≤ length table.slots.items
  pub met : AreMet keyed table.firsts.items table.slots.items table.apart.items
  pub fewer : length table.apart.items ≤ length table.firsts.items
