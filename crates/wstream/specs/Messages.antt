-- Messages of a delivery stream, and what stands in one: whole messages, and then a rest that is open or bad.
use Rattle.std.specs.Prelude.{◌≡◌, ◌≢◌, ℕ, ◌≤◌, List, [], ◌∷◌, ◌++◌, length, ◌⊎◌}
use Rattle.std.specs.List.{flat_map, AllByRecursion}
use Rattle.wvalues.specs.Names.{NameParts, IsName}
use Rattle.wlines.specs.Words.{Lacks}
use Rattle.wset.specs.Items.{Item, SegmentItem, RetirementItem, FloorItem}
use Rattle.wrecords.specs.Forms.{line_of}
use Rattle.wrecords.specs.declared.form.Form.TheVariants as forms

-- the most bytes of a content
abbrev pub most_bytes : ℕ
most_bytes = 67108864

-- the message that delivers an item
abbrev pub message_text : Item → List ℕ
message_text (SegmentItem n bytes) = line_of (forms.Content n (length bytes)) ++ (10 ∷ (bytes ++ 10 ∷ []))
message_text (RetirementItem n) = line_of (forms.Retirement n) ++ (10 ∷ [])
message_text (FloorItem n) = line_of (forms.Floor n) ++ (10 ∷ [])

abbrev pub IsMessage : Item → Type 0
IsMessage (SegmentItem n bytes) = IsName n × (length bytes ≤ most_bytes)
IsMessage (RetirementItem n) = IsName n
IsMessage (FloorItem n) = IsName n

-- the line may still come
pub record IsOpenLine (rest : List ℕ) : Type 0 where
  pub lacks : Lacks 10 rest
  pub short : length rest ≤ 200

-- the body may still come
pub record IsOpenBody (rest : List ℕ) : Type 0 where
  pub name : NameParts
  pub len : ℕ
  pub behind : List ℕ
  pub is_name : IsName name
  pub within : len ≤ most_bytes
  pub rest_is : rest ≡ line_of (forms.Content name len) ++ (10 ∷ behind)
  pub short : length behind ≤ len

-- more may make it a message
abbrev pub IsOpen : List ℕ → Type 0
IsOpen rest = IsOpenLine rest ⊎ IsOpenBody rest

-- it is not open, and begins with no message
pub record IsBad (rest : List ℕ) : Type 0 where
  pub closed : ¬ (IsOpen rest)
  pub none : (i : Item) (more : List ℕ) → IsMessage i → rest ≢ message_text i ++ more

-- the stream is the messages of these items, and then a rest that is open or bad
pub record Splits (stream : List ℕ) (items : List Item) (rest : List ℕ) : Type 0 where
  pub whole : stream ≡ flat_map message_text items ++ rest
  pub each : AllByRecursion IsMessage items
  pub end : IsOpen rest ⊎ IsBad rest
