-- Rows in order, as groups that have ended and one that has not, and codes that tell which rows share their keys.
use Rattle.std.specs.Prelude.{◌≡◌, ◌+◌, ◌<◌, ◌≤◌, ℕ, List, All, Vec, length, slice_index_or}
use Rattle.std.specs.Global.{Global}
use Rattle.wvalues.specs.declared.key.SortKey.{SortKey}
use Rattle.wvalues.specs.Meaning.{Meaning}
use Rattle.wcodes.specs.CodedRows.{code_at}
use Rattle.wruns.specs.Cuts.{cut, AreEnds}
use Rattle.wruns.specs.Runs.{keys_at, IsGroup}

-- these groups have ended, and the rows from the first one up to a place share their keys
pub record AreGrouped (keys : List SortKey) (rows : List (List Meaning)) (xs : List ℕ) (told : List ℕ) (first place : ℕ) : Type 0 where
  pub ends : AreEnds 0 told first
  pub groups : All (IsGroup keys rows) (cut 0 told xs)
  pub begun : first < place
  pub same : (k : ℕ) → first ≤ k → k < place → keys_at keys rows (slice_index_or xs k 0) ≡ keys_at keys rows (slice_index_or xs first 0)

-- each list has one code for both rows
abbrev pub HaveOneCode : ℕ → ℕ → List (Vec ℕ Global) → Type 0
HaveOneCode a b = All (λ codes. code_at codes.items a ≡ code_at codes.items b)

-- rows of which each list has one code share their keys
abbrev pub TellShared : List SortKey → List (List Meaning) → List (Vec ℕ Global) → Type 0
TellShared keys rows codes = (a b : ℕ) → a < length rows → b < length rows → HaveOneCode a b codes
    → keys_at keys rows a ≡ keys_at keys rows b

-- the same where the first of the rows has this number, and the next ones the next
abbrev pub TellSharedFrom : ℕ → List SortKey → List (List Meaning) → List (Vec ℕ Global) → Type 0
TellSharedFrom start keys rows codes = (a b : ℕ) → a < length rows → b < length rows
    → HaveOneCode (start + a) (start + b) codes → keys_at keys rows a ≡ keys_at keys rows b
