-- Entries in blocks, one block after another.
use Rattle.std.specs.Prelude.{◌≡◌, ◌<◌, ◌≤◌, ℕ, zero, suc, List, [], ◌∷◌, ◌++◌, ◌+◌, ◌⊎◌, length}
use Rattle.std.specs.Prelude.{get_or, take, drop, not, Option, None, Some, if◌then◌else◌}
use Rattle.std.specs.FinMap.{put}
use Rattle.std.specs.List.{filter, list_all}
use Rattle.wvalues.specs.Names.{NameParts, name_cmp}
use Rattle.wentries.specs.Knowledge.{Known, is_above}
use Rattle.wentries.specs.Entries.{AreBelow, AreOriginsBelow, known_entries, AreBehind}
use Rattle.wentries.specs.declared.entries.Entry.{Entry}

-- the entries of all blocks
abbrev pub flat : List (List Entry) → List Entry
flat [] = []
flat (b ∷ bs) = b ++ flat bs

-- the most entries of a block
abbrev pub longest : ℕ
longest = 512

-- the entries of each half of such a block
abbrev pub half : ℕ
half = 256

-- each block but the last has so many entries at least
abbrev pub AreFilled : ℕ → List (List Entry) → Type 0
AreFilled n [] = Unit {0}
AreFilled n (b ∷ []) = Unit {0}
AreFilled n (b ∷ c ∷ bs) = (n ≤ length b) × AreFilled n (c ∷ bs)

-- whatever is put of the name, the block stays within its limit
abbrev pub HasRoom : List Entry → NameParts → Type 0
HasRoom b n = (k : Known) → length (put name_cmp n k (known_entries b)) ≤ longest

-- the blocks with two halves in the place of block k
abbrev pub halved : ℕ → List (List Entry) → List (List Entry)
halved k [] = []
halved zero (b ∷ bs) = take half b ∷ drop half b ∷ bs
halved (suc k) (b ∷ bs) = b ∷ halved k bs

-- the first of some entries
abbrev pub first_of : List Entry → Option Entry
first_of [] = None
first_of (e ∷ es) = Some e

-- the entries without those below a floor, unless all are
abbrev pub trimmed : NameParts → List Entry → List Entry
trimmed n es = if list_all (λ e. is_above e.name n) es then es else filter (λ e. not (is_above e.name n)) es

-- a block more at the end, or more in the last: those before the last stay
pub record IsGrown (old new : List (List Entry)) : Type 0 where
  pub more : length old ≤ length new
  pub long : length new ≤ length old + 1
  pub front : (k : ℕ) → k < length old → take k new ≡ take k old

-- no other block knows the name
pub record IsHome (blocks : List (List Entry)) (n : NameParts) (k : ℕ) : Type 0 where
  pub in_range : k < length blocks
  pub before : AreBelow n (known_entries (flat (take k blocks)))
  pub behind : AreBehind n (known_entries (flat (drop (suc k) blocks)))

-- no block before this one has an origin that does not stand before the origin, and it has one itself unless it is the last
pub record IsOriginHome (blocks : List (List Entry)) (o : List ℕ) (k : ℕ) : Type 0 where
  pub in_range : k < length blocks
  pub before : AreOriginsBelow o (known_entries (flat (take k blocks)))
  pub reached : (suc k ≡ length blocks) ⊎ (AreOriginsBelow o (known_entries (get_or blocks k [])) → ⊥)
