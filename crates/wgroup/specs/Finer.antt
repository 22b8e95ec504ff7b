-- Sets that are finer than others, and groups that are made of finer ones.
use Rattle.std.specs.Prelude.{◌≡◌, ℕ, ◌<◌, ◌≤◌, ◌==◌, Bool, true, false, List, map, length, slice_index_or}
use Rattle.std.specs.Prelude.{take, Option, Some, None, Ok, All, if◌then◌else◌}
use Rattle.std.specs.Borrow.{Bor}
use Rattle.std.specs.List.{list_all, list_any}
use Rattle.std.specs.declared.cmp.Ordering.{Ordering}
use Rattle.std.specs.declared.alloc.Global.{Global}
use Rattle.std.specs.declared.vec.Vec.{Vec}
use Rattle.wvalues.specs.declared.value.Value.{Value}
use Rattle.wvalues.specs.Meaning.{meaning}
use Rattle.wframe.specs.Places.{places}
use Rattle.wframe.specs.Sorting.{sorted}
use Rattle.wplan.specs.declared.resolved.AggregateFunction.{AggregateFunction}
use Rattle.wplan.specs.declared.resolved.AggregateFunction.TheVariants.{CountRows, Count, Sum, Min, Max}
use Rattle.wrows.specs.Columns.{in_range}
use Rattle.wrows.specs.Laid.{rows_seen}
use Rattle.waggregate.specs.Aggregating.{Feed}
use Rattle.wgroupby.specs.Sets.{is_among}
use Rattle.wgroup.specs.declared.found.Groups as memory
use Rattle.wgroup.specs.declared.found.FinerSet as made
use Rattle.wgroup.specs.Grouping.{agree, set_columns}
use Rattle.wgroup.specs.Sight.{IsSight}
use Rattle.wgroup.specs.Held.{row_numbers, set_answers}

-- whether all columns of a set are among others
abbrev pub is_part : List ℕ → List ℕ → Bool
is_part set columns = list_all (λ c. is_among c columns) set

-- whether groups are of a set that has all columns of another one, and their first rows are kept
abbrev pub is_finer : List ℕ → memory.Groups → Bool
is_finer set g = if length g.firsts.items == 0 then false else is_part set g.set.items

-- numbers stand in some order
abbrev pub IsOrdered : List ℕ → ℕ → Type 0
IsOrdered order n = (cmp : ℕ → ℕ → Ordering) × (order ≡ sorted cmp (places n))

-- what groups are made of, by their keys
pub record IsKeyed (set firsts numbers : List ℕ) (finer : Option made.FinerSet) (g : memory.Groups) : Type 0 where
  pub of_set : g.set.items ≡ set
  pub kept : 0 < length g.firsts.items → g.firsts.items ≡ firsts
  pub numbered : g.numbers.value.items ≡ numbers
  pub of_finer : g.finer ≡ finer
  pub as_many : g.count ≡ length firsts
  pub ordered : IsOrdered g.order.items g.count

-- groups of rows: the number of each row's group, and the groups in some order
pub record IsBase (g : memory.Groups) : Type 0 where
  pub of_rows : g.finer ≡ None
  pub ordered : IsOrdered g.order.items g.count
  pub below : All (λ i. i < g.count) g.numbers.value.items
  pub some : 0 < g.count
  pub fewer : g.count ≤ length g.numbers.value.items

-- the groups of rows that agree on the columns of a set, with the first row of each
pub record IsKept (columns : List ℕ) (rows : List (Bor (List Value))) (g : memory.Groups) : Type 0 where
  pub base : g.finer ≡ None → IsBase g
  pub sight : IsSight (agree (set_columns columns g.set.items) (rows_seen rows)) (length rows) g.firsts.items (row_numbers g)
  pub as_many : g.count ≡ length g.firsts.items

-- where first rows are kept, they are those of such groups
abbrev pub IsSeen : List ℕ → List (Bor (List Value)) → memory.Groups → Type 0
IsSeen columns rows g = 0 < length g.firsts.items → IsKept columns rows g

-- groups are made of groups of the same rows, of which each has one
pub record IsMadeOf (finer : memory.Groups) (numbers : List ℕ) (g : memory.Groups) : Type 0 where
  pub base : IsBase finer
  pub same_rows : g.numbers.value.items ≡ finer.numbers.value.items
  pub as_many : length numbers ≡ finer.count
  pub below : All (λ i. i < g.count) numbers
  pub met : (i : ℕ) → i < g.count → list_any (λ j. j == i) numbers ≡ true

-- a set stands at a place
pub record IsAt (sets : List memory.Groups) (place : ℕ) (g : memory.Groups) : Type 0 where
  pub within : place < length sets
  pub is : (d : memory.Groups) → slice_index_or sets place d ≡ g

-- groups are made of rows, or of the groups of an earlier set
pub record IsMadeOfOne (earlier : List memory.Groups) (finer : made.FinerSet) (g : memory.Groups) : Type 0 where
  pub within : finer.place < length earlier
  pub made : (d : memory.Groups) → IsMadeOf (slice_index_or earlier finer.place d) finer.numbers.items g

abbrev pub MadeFrom : List memory.Groups → memory.Groups → Option made.FinerSet → Type 0
MadeFrom earlier g None = All (λ i. i < g.count) g.numbers.value.items
MadeFrom earlier g (Some finer) = IsMadeOfOne earlier finer g

abbrev pub IsMade : List memory.Groups → memory.Groups → Type 0
IsMade earlier g = MadeFrom earlier g g.finer

-- what numbers groups have that are made of groups
abbrev pub IsLinked : memory.Groups → Type 0
IsLinked g = (finer : made.FinerSet) → g.finer ≡ Some finer → (All (λ i. i < g.count) finer.numbers.items)
    × (All (λ i. i < length finer.numbers.items) g.numbers.value.items)

-- what groups are made of that are made of a set's groups: of these, or of those that these are made of
abbrev pub IsJoined : ℕ → List ℕ → Option made.FinerSet → made.FinerSet → Type 0
IsJoined place numbers None joined = (joined.place ≡ place) × (joined.numbers.items ≡ numbers)
IsJoined place numbers (Some finer) joined = (joined.place ≡ finer.place)
    × (joined.numbers.items ≡ map (λ i. slice_index_or numbers i 0) finer.numbers.items)

-- the place of the set, made of rows, that a set's groups are made of
abbrev pub base_place : ℕ → Option made.FinerSet → ℕ
base_place place None = place
base_place place (Some finer) = finer.place

-- each set's groups are made so
abbrev pub AreMade : List memory.Groups → Type 0
AreMade sets = (i : ℕ) (d : memory.Groups) → i < length sets → IsMade (take i sets) (slice_index_or sets i d)

-- what answers for parts of groups are put together by: counts and sums are added, the least of the least is the least of all
abbrev pub function_of_parts : AggregateFunction → AggregateFunction
function_of_parts CountRows = Sum
function_of_parts Count = Sum
function_of_parts Sum = Sum
function_of_parts Min = Min
function_of_parts Max = Max

-- what an aggregate comes to is known for the groups of the first sets
abbrev pub AreAnswered : AggregateFunction → Feed → List memory.Groups → List (Vec Value Global) → Type 0
AreAnswered function feed sets answered = (i : ℕ) (d : memory.Groups) (e : Vec Value Global) → i < length answered
    → in_range (set_answers function feed (slice_index_or sets i d)) ≡ Ok (map meaning (slice_index_or answered i e).items)
