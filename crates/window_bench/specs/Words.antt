-- The words that spell a case, and the first of them that is not as it has to be.
use Rattle.std.specs.Prelude.{◌≡◌, ◌≢◌, ◌⊎◌, ◌==◌, ℕ, zero, suc, ◌<◌, ◌≤◌, ◌^◌, List, [], ◌∷◌, length, codes}
use Rattle.std.specs.Borrow.{Bor}
use Rattle.std.specs.List.{before_first, after_first}
use Rattle.std.specs.Str.Parse.{IsNumeral, digits_value, without_leading_plus}
use Rattle.wframe.specs.declared.frame.Frame.{Frame}
use Rattle.wframe.specs.declared.frame.FrameMode.{FrameMode}
use Rattle.wframe.specs.declared.frame.FrameMode.TheVariants as modes
use Rattle.wframe.specs.declared.frame.FrameBound.{FrameBound}
use Rattle.wframe.specs.declared.frame.FrameBound.TheVariants as bounds
use Rattle.wframe.specs.declared.frame.FrameExclusion.{FrameExclusion}
use Rattle.wframe.specs.declared.frame.FrameExclusion.TheVariants as exclusions
use Rattle.window_bench.specs.declared.case.Aggregate.{Aggregate}
use Rattle.window_bench.specs.declared.case.Aggregate.TheVariants as aggregates
use Rattle.window_bench.specs.declared.case.Case.{Case}
use Rattle.window_bench.specs.declared.case.CaseFault.{CaseFault}
use Rattle.window_bench.specs.declared.case.CaseFault.TheVariants as faults

-- the word at a place, which has no letters where it is missing
abbrev pub word_at : List (Bor (List ℕ)) → ℕ → List ℕ
word_at [] i = []
word_at (word ∷ words) zero = word.now
word_at (word ∷ words) (suc i) = word_at words i

-- the number that digits make, behind a plus too
abbrev pub number_of : List ℕ → ℕ
number_of word = digits_value 10 (without_leading_plus word)

-- digits of a number that has so many bits, behind a plus too
abbrev pub IsNumber : ℕ → List ℕ → Type 0
IsNumber bits word = IsNumeral 10 (without_leading_plus word) × (number_of word < 2 ^ bits)

-- a number of 32 bits that is at least 1
abbrev pub IsPositive : List ℕ → Type 0
IsPositive word = IsNumber 32 word × (0 < number_of word)

-- a number of rows
abbrev pub IsCount : List ℕ → Type 0
IsCount word = IsPositive word × (number_of word < 2 ^ 31)

abbrev pub mode_name : FrameMode → List ℕ
mode_name modes.Rows = codes "rows"
mode_name modes.Range = codes "range"
mode_name modes.Groups = codes "groups"

-- a word that names no mode
abbrev pub IsNoMode : List ℕ → Type 0
IsNoMode word = (word ≢ codes "rows") × (word ≢ codes "range") × (word ≢ codes "groups")

-- what stands before the first hyphen of a word, or the whole word
abbrev pub before_hyphen : List ℕ → List ℕ
before_hyphen word = before_first (λ b. b == 45) word

-- what stands behind the first hyphen of a word
abbrev pub behind_hyphen : List ℕ → List ℕ
behind_hyphen word = after_first (λ b. b == 45) word

-- a word that is a number, a hyphen and this side
abbrev pub IsOffset : List ℕ → List ℕ → ℕ → Type 0
IsOffset side word n = IsNumber 128 (before_hyphen word) × (n ≡ number_of (before_hyphen word)) × (behind_hyphen word ≡ side)

-- a word that spells a bound
abbrev pub IsBound : List ℕ → FrameBound → Type 0
IsBound word bounds.UnboundedPreceding = word ≡ codes "unbounded-preceding"
IsBound word (bounds.Preceding n) = IsOffset (codes "preceding") word n
IsBound word bounds.CurrentRow = word ≡ codes "current-row"
IsBound word (bounds.Following n) = IsOffset (codes "following") word n
IsBound word bounds.UnboundedFollowing = word ≡ codes "unbounded-following"

-- a word that spells no bound with an offset
abbrev pub IsNoOffset : List ℕ → Type 0
IsNoOffset word = ¬ (IsNumber 128 (before_hyphen word)) ⊎ ((behind_hyphen word ≢ codes "preceding")
    × (behind_hyphen word ≢ codes "following"))

-- a word that spells no bound
abbrev pub IsNoBound : List ℕ → Type 0
IsNoBound word = (word ≢ codes "unbounded-preceding") × (word ≢ codes "current-row") × (word ≢ codes "unbounded-following")
    × IsNoOffset word

abbrev pub exclusion_name : FrameExclusion → List ℕ
exclusion_name exclusions.CurrentRow = codes "current-row"
exclusion_name exclusions.Group = codes "group"
exclusion_name exclusions.Ties = codes "ties"
exclusion_name exclusions.NoOthers = codes "no-others"

-- a word that names no exclusion
abbrev pub IsNoExclusion : List ℕ → Type 0
IsNoExclusion word = (word ≢ codes "current-row") × (word ≢ codes "group") × (word ≢ codes "ties") × (word ≢ codes "no-others")

abbrev pub aggregate_name : Aggregate → List ℕ
aggregate_name aggregates.Count = codes "count"
aggregate_name aggregates.Sum = codes "sum"
aggregate_name aggregates.Least = codes "min"
aggregate_name aggregates.Greatest = codes "max"

-- a word that names no aggregate
abbrev pub IsNoAggregate : List ℕ → Type 0
IsNoAggregate word = (word ≢ codes "count") × (word ≢ codes "sum") × (word ≢ codes "min") × (word ≢ codes "max")

-- the first three words of a case, which are numbers
abbrev pub HasNumbers : List (Bor (List ℕ)) → Type 0
HasNumbers words = IsCount (word_at words 0) × IsPositive (word_at words 1) × IsPositive (word_at words 2)

-- the next four words spell this frame clause
pub record SpellsFrame (words : List (Bor (List ℕ))) (frame : Frame) : Type 0 where
  pub mode : word_at words 3 ≡ mode_name frame.mode
  pub start : IsBound (word_at words 4) frame.start
  pub end : IsBound (word_at words 5) frame.end
  pub exclusion : word_at words 6 ≡ exclusion_name frame.exclusion

-- the words spell this case
pub record SpellsCase (words : List (Bor (List ℕ))) (case : Case) : Type 0 where
  pub numbers : HasNumbers words
  pub rows : case.rows ≡ number_of (word_at words 0)
  pub partition : case.partition ≡ number_of (word_at words 1)
  pub peers : case.peers ≡ number_of (word_at words 2)
  pub frame : SpellsFrame words case.frame
  pub aggregate : word_at words 7 ≡ aggregate_name case.aggregate
  pub few : length words ≤ 8

-- the first bad word among the four of a frame clause
abbrev pub IsFrameFault : List (Bor (List ℕ)) → CaseFault → Type 0
IsFrameFault words faults.Rows = ⊥
IsFrameFault words faults.Partition = ⊥
IsFrameFault words faults.Peers = ⊥
IsFrameFault words faults.Mode = IsNoMode (word_at words 3)
IsFrameFault words faults.Start = (mode : FrameMode) × (word_at words 3 ≡ mode_name mode) × IsNoBound (word_at words 4)
IsFrameFault words faults.End = (mode : FrameMode) × (start : FrameBound) × (word_at words 3 ≡ mode_name mode)
    × IsBound (word_at words 4) start × IsNoBound (word_at words 5)
IsFrameFault words faults.Exclusion = (mode : FrameMode) × (start : FrameBound) × (end : FrameBound)
    × (word_at words 3 ≡ mode_name mode) × IsBound (word_at words 4) start × IsBound (word_at words 5) end × IsNoExclusion (word_at words 6)
IsFrameFault words faults.Aggregate = ⊥
IsFrameFault words faults.Behind = ⊥

-- the first bad word: those before it are as they have to be
abbrev pub IsFault : List (Bor (List ℕ)) → CaseFault → Type 0
IsFault words faults.Rows = ¬ (IsCount (word_at words 0))
IsFault words faults.Partition = IsCount (word_at words 0) × ¬ (IsPositive (word_at words 1))
IsFault words faults.Peers = IsCount (word_at words 0) × IsPositive (word_at words 1) × ¬ (IsPositive (word_at words 2))
IsFault words faults.Mode = HasNumbers words × IsFrameFault words faults.Mode
IsFault words faults.Start = HasNumbers words × IsFrameFault words faults.Start
IsFault words faults.End = HasNumbers words × IsFrameFault words faults.End
IsFault words faults.Exclusion = HasNumbers words × IsFrameFault words faults.Exclusion
IsFault words faults.Aggregate = HasNumbers words × (frame : Frame) × SpellsFrame words frame × IsNoAggregate (word_at words 7)
IsFault words faults.Behind = HasNumbers words × (frame : Frame) × (aggregate : Aggregate) × SpellsFrame words frame
    × (word_at words 7 ≡ aggregate_name aggregate) × (8 < length words)
