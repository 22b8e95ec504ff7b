-- What has a text that goes out in parts.
use Rattle.std.specs.Prelude.{◌≡◌, ℕ, List, ◌++◌}
use Rattle.sha2.specs.Hashers.{Holds256}
use Rattle.wexchange.specs.declared.hashing.Course.{Course}
use Rattle.wexchange.specs.declared.hashing.Course.TheVariants.{Same, Other}
use Rattle.wexchange.specs.declared.hashing.Hashing.{Hashing}

-- the text is that beginning of the known bytes which stands before the rest, or the hasher has it
abbrev pub HasBeside : List ℕ → Course → List ℕ → Type 0
HasBeside known (Same rest) text = known ≡ text ++ rest.now
HasBeside known (Other hasher) text = Holds256 hasher text

abbrev pub Has : Hashing → List ℕ → Type 0
Has h text = HasBeside h.known.now h.course text
