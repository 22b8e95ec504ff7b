-- What a header of the code stands for.
use Rattle.std.specs.Prelude.{◌≡◌, ℕ, List, Option, IfSome, IsSomeAnd}
use Rattle.std.specs.Fmt.{decimal}
use Rattle.wvalues.specs.NameReading.{ReadsName}
use Rattle.wscript.specs.Commands.{Form, DeclareForm, TakeForm, RetireForm, FloorForm, ListForm}
use Rattle.wscript.specs.Commands.{AskForm, FeedForm, PutForm, GetForm, IsForm, pair_words}
use Rattle.wscript.specs.declared.header_lines.Header.{Header}
use Rattle.wscript.specs.declared.header_lines.Header.TheVariants as headers

-- the words of a name are read, or judged
abbrev pub IsHeaderOf : Header → Form → Type 0
IsHeaderOf (headers.Declare len) (DeclareForm m) = m ≡ len
IsHeaderOf (headers.Take node name len) (TakeForm n origin number m) = (n ≡ node) × ReadsName origin number name × (m ≡ len)
IsHeaderOf (headers.Retire node name) (RetireForm n origin number) = (n ≡ node) × ReadsName origin number name
IsHeaderOf (headers.RetireTo node name) (FloorForm n origin number) = (n ≡ node) × ReadsName origin number name
IsHeaderOf (headers.List node) (ListForm n) = n ≡ node
IsHeaderOf (headers.Ask node len) (AskForm n m) = (n ≡ node) × (m ≡ len)
IsHeaderOf (headers.Feed node len) (FeedForm n m) = (n ≡ node) × (m ≡ len)
IsHeaderOf (headers.Put node slot) (PutForm n k) = (n ≡ node) × (k ≡ slot)
IsHeaderOf (headers.Get slot node) (GetForm k n) = (k ≡ slot) × (n ≡ node)
IsHeaderOf _ _ = ⊥

-- a word is read as the form that its number makes, and where it makes one there is a header for it
abbrev pub IsNumberRead : (ℕ → Form) → List ℕ → Option Header → Type 0
IsNumberRead form word header =
    IfSome header (λ h. (number : ℕ) × IsForm (form number) × IsHeaderOf h (form number) × (word ≡ decimal number))
    × ((number : ℕ) → IsForm (form number) → word ≡ decimal number → IsSomeAnd header (λ h. IsHeaderOf h (form number)))

-- and so are two words
abbrev pub IsPairRead : (ℕ → ℕ → Form) → List ℕ → Option Header → Type 0
IsPairRead form words header =
    IfSome header (λ h. (first : ℕ) × (second : ℕ) × IsForm (form first second) × IsHeaderOf h (form first second)
    × (words ≡ pair_words first second))
    × ((first second : ℕ) → IsForm (form first second) → words ≡ pair_words first second
    → IsSomeAnd header (λ h. IsHeaderOf h (form first second)))
