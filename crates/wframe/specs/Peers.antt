-- Rows by their key lists, in an order of these: <window clause>, window ordering and peers.
use Rattle.std.specs.Prelude.{◌≡◌, ℕ, ◌≤◌, ◌<◌, Bool, true, false, not, List, [], ◌∷◌, length, filter, slice_index_or, if◌then◌else◌}
use Rattle.std.specs.List.{list_any}
use Rattle.std.specs.Ordering.{is_lt, is_eq, is_gt}
use Rattle.std.specs.declared.cmp.Ordering.{Ordering}
use Rattle.wvalues.specs.Meaning.{Meaning}

-- the key list of a row
abbrev pub key_at : List (List Meaning) → ℕ → List Meaning
key_at keys row = slice_index_or keys row []

-- whether two rows are equal on all keys
abbrev pub are_peers : (List Meaning → List Meaning → Ordering) → List (List Meaning) → ℕ → ℕ → Bool
are_peers cmp keys i j = is_eq (cmp (key_at keys i) (key_at keys j))

-- the key lists that are smaller than a row's
abbrev pub smaller_keys : (List Meaning → List Meaning → Ordering) → List (List Meaning) → ℕ → List (List Meaning)
smaller_keys cmp keys i = filter (λ key. is_lt (cmp key (key_at keys i))) keys

-- one of each run of equals
abbrev pub distinct : {K : Type 0} → (K → K → Ordering) → List K → List K
distinct cmp [] = []
distinct cmp (x ∷ xs) = if list_any (λ y. is_eq (cmp x y)) xs then distinct cmp xs else x ∷ distinct cmp xs

-- the number of a row's peer group: how many distinct key lists are smaller
abbrev pub group_number : (List Meaning → List Meaning → Ordering) → List (List Meaning) → ℕ → ℕ
group_number cmp keys i = length (distinct cmp (smaller_keys cmp keys i))

-- no row's key list is greater than that of a later row
abbrev pub AreOrdered : (List Meaning → List Meaning → Ordering) → List (List Meaning) → Type 0
AreOrdered cmp keys = (i j : ℕ) → i ≤ j → j < length keys → is_gt (cmp (key_at keys i) (key_at keys j)) ≡ false

-- rows that agree on their partition values stand in the order of their keys
abbrev pub AreOrderedWithin : (List Meaning → List Meaning → Ordering) → List (List Meaning)
    → (List Meaning → List Meaning → Ordering) → List (List Meaning) → Type 0
AreOrderedWithin value_cmp values cmp keys = (i j : ℕ) → i ≤ j → j < length keys → are_peers value_cmp values i j ≡ true
    → is_gt (cmp (key_at keys i) (key_at keys j)) ≡ false

-- whether row j stands before row i and all its peers
abbrev pub is_before : (List Meaning → List Meaning → Ordering) → List (List Meaning) → ℕ → ℕ → Bool
is_before cmp keys i j = is_lt (cmp (key_at keys j) (key_at keys i))

-- whether row j does not stand after row i and all its peers
abbrev pub is_upto : (List Meaning → List Meaning → Ordering) → List (List Meaning) → ℕ → ℕ → Bool
is_upto cmp keys i j = not (is_lt (cmp (key_at keys i) (key_at keys j)))
