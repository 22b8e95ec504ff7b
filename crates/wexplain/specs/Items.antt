-- Lines of exchange files and streams, with their bodies.
use Rattle.std.specs.Prelude.{◌≡◌, ◌++◌, ◌≤◌, ℕ, List, [], ◌∷◌, Option, None, Some, length}
use Rattle.wvalues.specs.Names.{NameParts}
use Rattle.wrecords.specs.Forms.{IsForm, line_of}
use Rattle.wrecords.specs.declared.form.Form.{Form}
use Rattle.wrecords.specs.declared.form.Form.TheVariants as forms

-- how many bytes the body of a line has, if it has one
abbrev pub body_length : Form → Option ℕ
body_length (forms.Table len) = Some len
body_length (forms.Content name len) = Some len
body_length other = None

-- a body of so many bytes stands in front, with its line feed, or none does
abbrev pub HasBody : Option ℕ → List ℕ → List ℕ → List ℕ → Type 0
HasBody None bytes body rest = (body ≡ []) × (bytes ≡ rest)
HasBody (Some len) bytes body rest = (bytes ≡ body ++ (10 ∷ rest)) × (length body ≡ len)

-- the line in front, which says this, with its body, and what stands behind
pub record IsItem (bytes : List ℕ) (form : Form) (body rest : List ℕ) : Type 0 where
  pub behind : List ℕ
  pub is_form : IsForm form
  pub line : bytes ≡ line_of form ++ (10 ∷ behind)
  pub body_is : HasBody (body_length form) behind body rest

-- the line in front is that of the segment of a name, and the bytes end inside it or before its line feed
pub record IsCutShort (bytes : List ℕ) (name : NameParts) : Type 0 where
  pub len : ℕ
  pub behind : List ℕ
  pub line : bytes ≡ line_of (forms.Content name len) ++ (10 ∷ behind)
  pub short : length behind ≤ len
