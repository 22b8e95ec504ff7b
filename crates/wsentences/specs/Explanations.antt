-- What explanations are made of.
use Rattle.std.specs.Prelude.{◌≡◌, ◌⊎◌, ℕ, ◌++◌, ◌∷◌, [], List, Contains, codes, length}
use Rattle.wsegment.specs.Declaration.{Described}
use Rattle.std.specs.Fmt.{decimal}
use Rattle.wsegment.specs.declared.fault.SegmentFault.{SegmentFault}
use Rattle.wsegment.specs.declared.fault.SegmentFault.TheVariants as segments
use Rattle.wshown.specs.Shown.{shown_bytes, shown_text, shown_value}
use Rattle.wsentences.specs.declared.sentences.Sentence.{Sentence}

-- the line of a sentence: its label, and its words behind a colon
abbrev pub sentence_line : Sentence → List ℕ
sentence_line sentence = sentence.label.now ++ (codes ": " ++ (sentence.words.now ++ (10 ∷ [])))

-- the line of a file, and where in it something stands, if that is said
abbrev pub file_line : List ℕ → List ℕ → List ℕ
file_line file [] = shown_text file ++ (10 ∷ [])
file_line file (c ∷ cs) = shown_text file ++ (codes ": " ++ (c ∷ cs ++ (10 ∷ [])))

-- how many bytes there are
abbrev pub length_text : List ℕ → List ℕ
length_text bytes = codes "it has " ++ (decimal (length bytes) ++ codes " bytes")

-- how many fields a row has, and how many the header, or nothing
abbrev pub AddsLengths : ℕ → List ℕ → List ℕ → Type 0
AddsLengths row old new = (new ≡ old) ⊎ ((fields : ℕ) × (columns : ℕ) × (new ≡ old ++ (codes "row " ++ (decimal row
    ++ (codes " has " ++ (decimal fields ++ (codes " fields, the header " ++ decimal columns)))))))

-- a row, alone or with a field of it under its column, or nothing
abbrev pub AddsRow : ℕ → List ℕ → List ℕ → Type 0
AddsRow row old new = (new ≡ old) ⊎ ((new ≡ old ++ (codes "row " ++ decimal row)) ⊎ ((column : List ℕ) × (value : List ℕ)
    × (new ≡ old ++ (codes "row " ++ (decimal row ++ (codes ", column " ++ (shown_bytes column ++ (codes ": " ++ shown_value value))))))))

-- a field of the header, or nothing
abbrev pub AddsHeaderField : List ℕ → List ℕ → Type 0
AddsHeaderField old new = (new ≡ old) ⊎ ((number : ℕ) × (field : List ℕ)
    × (new ≡ old ++ (codes "field " ++ (decimal number ++ (codes " of the header is " ++ shown_value field)))))

-- a column of the table, or nothing
abbrev pub AddsMissing : List Described → List ℕ → List ℕ → Type 0
AddsMissing columns old new = (new ≡ old) ⊎ ((column : Described) × Contains columns column
    × (new ≡ old ++ (codes "there is no column " ++ column.name)))

-- where a segment has a fault is added to a text; of one that is too long nothing, since it need not have been read to its end. Which
-- field and which column it is, is only tested; that nothing is added only where there is none is not proved
abbrev pub AddsSegmentPlace : List Described → SegmentFault → List ℕ → List ℕ → Type 0
AddsSegmentPlace columns segments.TooLong old new = new ≡ old
AddsSegmentPlace columns segments.NoHeader old new = new ≡ old
AddsSegmentPlace columns segments.HeaderNotUtf8 old new = AddsHeaderField old new
AddsSegmentPlace columns (segments.RowNotUtf8 row) old new = AddsRow row old new
AddsSegmentPlace columns segments.UnknownColumn old new = AddsHeaderField old new
AddsSegmentPlace columns segments.RepeatedColumn old new = AddsHeaderField old new
AddsSegmentPlace columns segments.MissingColumn old new = AddsMissing columns old new
AddsSegmentPlace columns (segments.RowLength row) old new = AddsLengths row old new
AddsSegmentPlace columns (segments.NotInteger row) old new = AddsRow row old new
AddsSegmentPlace columns segments.TooManyRows old new = new ≡ old
AddsSegmentPlace columns segments.NoMemory old new = new ≡ old
