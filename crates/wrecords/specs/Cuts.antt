-- Cutting a body off the front of bytes.
use Rattle.std.specs.Prelude.{◌≡◌, ◌≢◌, ◌≤◌, ℕ, List, ◌∷◌, ◌++◌, length}
use Rattle.wrecords.specs.declared.cut.Body.{Body}
use Rattle.wrecords.specs.declared.cut.Body.TheVariants as bodies

-- a body, and behind it a byte that is no line feed
pub record IsUnfed (len : ℕ) (bytes : List ℕ) : Type 0 where
  pub body : List ℕ
  pub byte : ℕ
  pub more : List ℕ
  pub bytes_are : bytes ≡ body ++ (byte ∷ more)
  pub length_is : length body ≡ len
  pub other : byte ≢ 10

-- what cutting a body off tells
abbrev pub CutsBody : ℕ → List ℕ → Body → Type 0
CutsBody len bytes (bodies.Whole body rest) = (bytes ≡ body.now ++ (10 ∷ rest.now)) × (length body.now ≡ len)
CutsBody len bytes bodies.Short = length bytes ≤ len
CutsBody len bytes bodies.Unfed = IsUnfed len bytes
