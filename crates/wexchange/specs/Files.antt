-- The one file of a view, and the one text of a view without floors in version 1.
use Rattle.std.specs.Prelude.{⊤, ℕ, List, [], ◌∷◌, ◌++◌, length, codes, IsOk}
use Rattle.std.specs.List.{flat_map, AllByRecursion}
use Rattle.std.specs.FinMap.{entries}
use Rattle.hex.specs.Hex.{encode_lower}
use Rattle.sha2.specs.Sha256.{sha256}
use Rattle.wvalues.specs.Names.{NameParts, IsName}
use Rattle.wsegment.specs.Declaration.{Declaration, declaration_text}
use Rattle.wsegment.specs.Rows.{rows_of}
use Rattle.wentries.specs.Knowledge.{Known, Live, Disputed, Retired, Floor}
use Rattle.wset.specs.Views.{View, IsSettled}
use Rattle.wrecords.specs.Forms.{IsNumber, line_of}
use Rattle.wrecords.specs.declared.form.Form.TheVariants as forms
use Rattle.wexchange.specs.declared.version.Version.{Version}
use Rattle.wexchange.specs.declared.version.Version.TheVariants.{One, Two}

-- the first line
abbrev pub head : Version → List ℕ
head One = codes "WSX1\n"
head Two = codes "WSX2\n"

-- the declaration of the table
abbrev pub table_text : Declaration → List ℕ
table_text d = line_of (forms.Table (length (declaration_text d))) ++ (10 ∷ (declaration_text d ++ 10 ∷ []))

-- the record of a name, or of a floor
abbrev pub record_text : (NameParts × Known) → List ℕ
record_text (n, Live bytes) = line_of (forms.Content n (length bytes)) ++ (10 ∷ (bytes ++ 10 ∷ []))
record_text (n, Disputed) = line_of (forms.Dispute n) ++ (10 ∷ [])
record_text (n, Retired) = line_of (forms.Retirement n) ++ (10 ∷ [])
record_text (n, Floor) = line_of (forms.Floor n) ++ (10 ∷ [])

-- the line of the end
abbrev pub end_text : ℕ → List ℕ
end_text count = line_of (forms.End count) ++ (10 ∷ [])

-- the digits of the digest of bytes
abbrev pub digest_of : List ℕ → List ℕ
digest_of bytes = encode_lower (sha256 bytes)

-- the line of the digest
abbrev pub digest_text : List ℕ → List ℕ
digest_text bytes = line_of (forms.Digest (digest_of bytes)) ++ (10 ∷ [])

-- the file up to behind the records of these names
abbrev pub begun : Version → Declaration → List (NameParts × Known) → List ℕ
begun r d es = (head r ++ table_text d) ++ flat_map record_text es

-- up to behind the line of the end
abbrev pub counted : Version → Declaration → List (NameParts × Known) → List ℕ
counted r d es = begun r d es ++ end_text (length es)

-- what stands behind that
abbrev pub sealed : Version → List ℕ → List ℕ
sealed One text = []
sealed Two text = digest_text text

-- the text of a view in a version: one record for each floor and each name that is not unknown, in the order of names
abbrev pub text_of : Version → Declaration → View → List ℕ
text_of r d v = counted r d (entries v) ++ sealed r (counted r d (entries v))

-- the file of a view is its text in version 2
abbrev pub file_of : Declaration → View → List ℕ
file_of d v = text_of Two d v

-- a name, and a content only where it is a segment
abbrev pub IsRecord : Declaration → (NameParts × Known) → Type 0
IsRecord d (n, Live bytes) = IsName n × IsOk (rows_of d bytes) × IsNumber (length bytes)
IsRecord d (n, Disputed) = IsName n
IsRecord d (n, Retired) = IsName n
IsRecord d (n, Floor) = IsName n

-- all names of a view are such records
abbrev pub AreRecords : Declaration → View → Type 0
AreRecords d v = AllByRecursion (IsRecord d) (entries v)

-- version 2 alone has floors
abbrev pub HasFloors : Version → Type 0
HasFloors One = ⊥
HasFloors Two = ⊤

-- the version has such a record
abbrev pub HasRecord : Version → (NameParts × Known) → Type 0
HasRecord r (n, Live bytes) = ⊤
HasRecord r (n, Disputed) = ⊤
HasRecord r (n, Retired) = ⊤
HasRecord r (n, Floor) = HasFloors r

-- it has all of the view's records
abbrev pub HasRecords : Version → View → Type 0
HasRecords r v = AllByRecursion (HasRecord r) (entries v)

-- a view of this declaration that has not more than 4,294,967,295 records
pub record IsView (d : Declaration) (v : View) : Type 0 where
  pub settled : IsSettled v
  pub records : AreRecords d v
  pub count : IsNumber (length (entries v))
