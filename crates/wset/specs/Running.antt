-- The segments of live names with their runs.
use Rattle.std.specs.Prelude.{◌≡◌, ◌<◌, ◌≤◌, ◌+◌, ◌-◌, ◌^◌, ℕ, min, suc, List, [], ◌∷◌, get_or, length, map, take}
use Rattle.std.specs.List.{AllByRecursion, IsAmong}
use Rattle.wvalues.specs.Meaning.{Meaning}
use Rattle.wvalues.specs.declared.key.SortKey.{SortKey}
use Rattle.wruns.specs.Runs.{RunParts, joined}
use Rattle.wset.specs.Views.{lives}
use Rattle.wset.specs.Tables.{content_rows}
use Rattle.wset.specs.Sets.{DeclaredView}
use Rattle.wentries.specs.Blocks.{flat}
use Rattle.wentries.specs.declared.entries.Entry.{Entry}
use Rattle.wentries.specs.Keeping.{kept_in, orders_in, rows_in}
use Rattle.wset.specs.declared.running.RunSizes.{RunSizes}

-- the rows of each live content, in the order of names
abbrev pub live_rows : DeclaredView → List (List (List Meaning))
live_rows s = map (λ e. content_rows s.schema e.1) (lives s.view)

-- how many live names stand before a block
abbrev pub lives_before : List (List Entry) → ℕ → ℕ
lives_before blocks k = length (kept_in (flat (take k blocks)))

-- these are the numbers of live names before the first blocks
abbrev pub AreStarts : List (List Entry) → List ℕ → Type 0
AreStarts blocks starts = (k : ℕ) → k < length starts → get_or starts k 0 ≡ lives_before blocks k

-- the live name of a number is in a block
pub record IsLiveHome (starts : List ℕ) (i k : ℕ) : Type 0 where
  pub in_range : k < length starts
  pub before : get_or starts k 0 ≤ i
  pub behind : suc k < length starts → i < get_or starts (suc k) 0

-- the sum of two numbers, or the greatest number that is told
abbrev pub capped_sum : ℕ → ℕ → ℕ
capped_sum a b = min (a + b) (2 ^ 64 - 1)

-- no run
abbrev pub no_sizes : RunSizes
no_sizes = record { runs = 0; groups = 0; rows = 0 }

-- one run more, with its groups and its rows
abbrev pub with_run : RunSizes → RunParts → RunSizes
with_run s run = record {
  runs = capped_sum s.runs 1;
  groups = capped_sum s.groups (length run.groups);
  rows = capped_sum s.rows (length (joined run.groups));
}

-- more runs, one after another
abbrev pub with_runs : RunSizes → List RunParts → RunSizes
with_runs s [] = s
with_runs s (run ∷ runs) = with_runs (with_run s run) runs

-- no live segment of these has a run of the keys, and with so many rows before them all have at most so many as have numbers
pub record CanBeDealt (keys : List SortKey) (before : ℕ) (es : List Entry) : Type 0 where
  pub fresh : AllByRecursion (λ orders. IsAmong orders keys → ⊥) (orders_in es)
  pub few : before + length (joined (rows_in es)) ≤ 4294967295
