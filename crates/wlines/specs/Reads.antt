-- What reading a line or a body tells of the bytes, where old was left before it and new after it.
use Rattle.std.specs.Prelude.{◌≡◌, ◌≢◌, ℕ, ◌+◌, ◌≤◌, ◌<◌, Bool, true, false, List, [], ◌∷◌, ◌++◌, length, take, drop, Option, IfSome}
use Rattle.std.specs.Io.KnownBytes.{Keeps, Consumes, IsAtEnd}
use Rattle.wlines.specs.Words.{Lacks}
use Rattle.wlines.specs.declared.body.Body.{Body}
use Rattle.wlines.specs.declared.body.Body.TheVariants as bodies
use Rattle.wlines.specs.declared.line.LineEnd.{LineEnd}
use Rattle.wlines.specs.declared.line.LineEnd.TheVariants as ends

-- the bytes begin with no line of at most 200 bytes
abbrev pub HasNoLine : List ℕ → Type 0
HasNoLine xs = (line rest : List ℕ) → Lacks 10 line → length line ≤ 200 → xs ≢ line ++ (10 ∷ rest)

-- the bytes do not begin with n bytes and a line feed
abbrev pub HasNoBody : ℕ → List ℕ → Type 0
HasNoBody n xs = (body rest : List ℕ) → length body ≡ n → xs ≢ body ++ (10 ∷ rest)

-- at most n bytes were consumed
abbrev pub TakesAtMost : ℕ → Option (List ℕ) → Option (List ℕ) → Type 0
TakesAtMost n old new = (bytes : List ℕ) × Consumes old new bytes × (length bytes ≤ n)

-- at most 201 bytes were consumed, and no line feed
abbrev pub TakesNoLine : Option (List ℕ) → Option (List ℕ) → Type 0
TakesNoLine old new = (bytes : List ℕ) × Consumes old new bytes × Lacks 10 bytes × (length bytes ≤ 201)

abbrev pub LineReads : LineEnd → Option (List ℕ) → Option (List ℕ) → List ℕ → Type 0
LineReads ends.Whole old new line = Consumes old new (line ++ 10 ∷ []) × Lacks 10 line × (length line ≤ 200)
LineReads ends.Closed old new line = Keeps old new × IsAtEnd new
LineReads ends.Malformed old new line = IfSome old (λ xs. (xs ≢ []) × HasNoLine xs) × TakesNoLine old new

-- n bytes and a line feed were consumed, and are not kept
abbrev pub Skips : ℕ → Option (List ℕ) → Option (List ℕ) → Type 0
Skips n old new = (bytes : List ℕ) × Consumes old new (bytes ++ 10 ∷ []) × (length bytes ≡ n)

abbrev pub BodyReads : Body → ℕ → Option (List ℕ) → Option (List ℕ) → Type 0
BodyReads (bodies.Whole bytes) n old new = Consumes old new (bytes.items ++ 10 ∷ []) × (length bytes.items ≡ n)
BodyReads bodies.NoMemory n old new = Skips n old new
BodyReads bodies.Malformed n old new = IfSome old (λ xs. HasNoBody n xs) × TakesAtMost (n + 1) old new

-- what skipping a body tells: whether it was there
abbrev pub SkipReads : Bool → ℕ → Option (List ℕ) → Option (List ℕ) → Type 0
SkipReads true n old new = Skips n old new
SkipReads false n old new = IfSome old (λ xs. HasNoBody n xs) × TakesAtMost (n + 1) old new

-- what looking for one line feed tells: whether it was there
abbrev pub FeedReads : Bool → Option (List ℕ) → Option (List ℕ) → Type 0
FeedReads true old new = Consumes old new (10 ∷ [])
FeedReads false old new = IfSome old (λ xs. (rest : List ℕ) → xs ≢ 10 ∷ rest) × TakesAtMost 1 old new

-- the front of what is held went over to the bytes that are kept
pub record MovesFront (old_kept kept old_held held : List ℕ) : Type 0 where
  pub n : ℕ
  pub some : 0 < n
  pub within : n ≤ length old_held
  pub kept_is : kept ≡ old_kept ++ take n old_held
  pub held_is : held ≡ drop n old_held
