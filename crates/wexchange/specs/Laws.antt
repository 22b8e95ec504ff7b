-- The laws of files.
use Rattle.std.specs.Prelude.{◌≡◌, ◌≢◌, ◌⊎◌, ℕ, List, [], ◌∷◌, length, codes, Result, Ok, Err}
use Rattle.wvalues.specs.Names.{NameParts}
use Rattle.wsegment.specs.Declaration.{Declaration}
use Rattle.wsegment.specs.declared.kind.Kind.TheVariants.{Integer, Text}
use Rattle.wentries.specs.Knowledge.{Known, Live, Floor}
use Rattle.wset.specs.Views.{View}
use Rattle.wexchange.specs.Files.{AreRecords, IsView, HasRecords, counted, digest_text, file_of, text_of}
use Rattle.wexchange.specs.Judging.{Judges}
use Rattle.wsegment.specs.Spelling.{IsDeclaration}
use Rattle.wexchange.specs.declared.fault.FileFault.{FileFault}
use Rattle.wexchange.specs.declared.fault.FileFault.TheVariants as faults
use Rattle.wexchange.specs.declared.version.Version.{Version}
use Rattle.wexchange.specs.declared.version.Version.TheVariants.{One, Two}

-- no two views of a declaration have one text, in whatever versions
abbrev pub OneText : Type 0
OneText = (d : Declaration) (r s : Version) (v w : View) → AreRecords d v → AreRecords d w → text_of r d v ≡ text_of s d w
    → (r ≡ s) × (v ≡ w)

-- no two views of a declaration have one file
abbrev pub OneView : Type 0
OneView = (d : Declaration) (v w : View) → AreRecords d v → AreRecords d w → file_of d v ≡ file_of d w → v ≡ w

-- bytes are judged in one way, unless memory runs out
abbrev pub OneJudgement : Type 0
OneJudgement = (d : Declaration) (bytes : List ℕ) (a b : Result View FileFault) → IsDeclaration d → Judges d bytes a
    → Judges d bytes b → a ≢ Err faults.NoMemory → b ≢ Err faults.NoMemory → a ≡ b

-- the file of a view is judged to be that view, unless memory runs out
abbrev pub OwnJudgement : Type 0
OwnJudgement = (d : Declaration) (v : View) (judged : Result View FileFault) → IsDeclaration d → IsView d v
    → Judges d (file_of d v) judged → judged ≢ Err faults.NoMemory → judged ≡ Ok v

-- bytes are judged to be a view only where they are its file, or its text in version 1, which tells no floor
abbrev pub TextsAlone : Type 0
TextsAlone = (d : Declaration) (v : View) (bytes : List ℕ) → Judges d bytes (Ok v) → (bytes ≡ file_of d v)
    ⊎ (HasRecords One v × (bytes ≡ text_of One d v))

-- ---- a worked file

abbrev pub sales : Declaration
sales = record {
  table = codes "sales";
  columns = record { name = codes "day"; kind = Integer } ∷ record { name = codes "shop"; kind = Text } ∷ record {
    name =
        codes "amount";
    kind = Integer;
  } ∷ [];
}

abbrev pub four_rows : List ℕ
four_rows = codes "day,shop,amount\n1,a,10\n2,a,20\n2,b,5\n4,a,\n"

abbrev pub east : ℕ → NameParts
east n = record { origin = codes "east"; number = n }

-- a floor and a segment above it
abbrev pub one_floor : List (NameParts × Known)
one_floor = (east 3, Floor) ∷ (east 4, Live four_rows) ∷ []

abbrev pub one_floor_text : List ℕ
one_floor_text = codes "WSX2\nT 49\ntable sales\nday integer\nshop text\namount integer\n\nU east 3\nS east 4 41\nday,shop,amount\n1,a,10\n2,a,20\n2,b,5\n4,a,\n\nE 2\n"

pub record WorkedFile : Type 0 where
  pub text : counted Two sales one_floor ≡ one_floor_text
  pub length_is : length one_floor_text ≡ 127
  pub sealed : digest_text one_floor_text ≡ codes "H 012a985389795c603c4646b86314fc1b7d8ba55fba244e5e7f602c369926f8e3\n"
