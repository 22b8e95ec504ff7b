-- How what a user gave is shown on a terminal.
use Rattle.std.specs.Prelude.{◌≡◌, ◌⊎◌, ◌==◌, ◌||◌, ◌++◌, ◌-◌, ℕ, zero, suc, Bool, false, not, List, [], ◌∷◌, cond}
use Rattle.std.specs.Prelude.{IsUtf8, chars, codes, drop, flat_map, length, replicate, take}
use Rattle.std.specs.List.{before_first, suffix_len}
use Rattle.std.specs.Char.{encode_utf8, is_control}
use Rattle.std.specs.Int.{is_in_range}
use Rattle.std.specs.Fmt.{digits}
use Rattle.std.specs.Str.Lossy.{utf8_lossy}

-- a terminal shows nothing for these characters, or turns what stands beside them
abbrev pub is_hidden : ℕ → Bool
is_hidden c = is_in_range 0xAD 0xAD c || is_in_range 0x61C 0x61C c || is_in_range 0x180E 0x180E c || is_in_range 0x200B 0x200F c
    || is_in_range 0x2028 0x202E c || is_in_range 0x2060 0x206F c || is_in_range 0xFEFF 0xFEFF c || is_in_range 0xE0000 0xE007F c

-- a character, or its number where a terminal would obey or hide it
abbrev pub shown_character : ℕ → List ℕ
shown_character c = cond (is_control c || is_hidden c) (codes "\\u{" ++ (digits 16 false c ++ codes "}")) (encode_utf8 c)

-- so many characters, and two points where there are more
abbrev pub shown_characters : ℕ → List ℕ → List ℕ
shown_characters left [] = []
shown_characters zero (c ∷ cs) = codes ".."
shown_characters (suc left) (c ∷ cs) = shown_character c ++ shown_characters left cs

-- the first 60 characters of a text
abbrev pub shown_text : List ℕ → List ℕ
shown_text text = shown_characters 60 (chars text)

-- the path of a file, whole
abbrev pub shown_path : List ℕ → List ℕ
shown_path path = flat_map shown_character (chars path)

-- the first bytes, which hold 60 characters at least, with those replaced that are no UTF-8
abbrev pub shown_bytes : List ℕ → List ℕ
shown_bytes bytes = shown_text (utf8_lossy (take 244 bytes))

-- between quotes
abbrev pub shown_value : List ℕ → List ℕ
shown_value bytes = 34 ∷ (shown_bytes bytes ++ 34 ∷ [])

-- a text begins with these bytes
abbrev pub BeginsWith : List ℕ → List ℕ → Type 0
BeginsWith front text = (behind : List ℕ) × (text ≡ front ++ behind)

-- ---- a line of a query

-- a line feed or a carriage return
abbrev pub is_line_end : ℕ → Bool
is_line_end b = (b == 10) || (b == 13)

-- where the last line of these bytes begins
abbrev pub line_start : List ℕ → ℕ
line_start bytes = length bytes - suffix_len (λ b. not (is_line_end b)) bytes

-- the line of a place: from behind the line end before it up to the next one
abbrev pub line_at : List ℕ → ℕ → List ℕ
line_at query place = before_first is_line_end (drop (line_start (take place query)) query)

-- a character of it: a blank is a space
abbrev pub line_character : ℕ → List ℕ
line_character c = cond ((c == 9) || (c == 12)) (32 ∷ []) (shown_character c)

-- so many of them, and two points where there are more
abbrev pub line_characters : ℕ → List ℕ → List ℕ
line_characters left [] = []
line_characters zero (c ∷ cs) = codes ".."
line_characters (suc left) (c ∷ cs) = line_character c ++ line_characters left cs

-- 60 of them, behind two points where some are left out
abbrev pub shown_line : ℕ → List ℕ → List ℕ
shown_line zero line = line_characters 60 (chars line)
shown_line (suc left_out) line = codes ".." ++ line_characters 60 (drop (suc left_out) (chars line))

-- a caret, with a note behind it
abbrev pub caret_line : List ℕ → List ℕ
caret_line [] = 94 ∷ 10 ∷ []
caret_line (c ∷ cs) = 94 ∷ 32 ∷ (c ∷ cs ++ (10 ∷ []))

-- a line is added, and below it a caret with a note. How many characters are left out, and where the caret stands, is only tested
abbrev pub PointsInto : List ℕ → List ℕ → List ℕ → List ℕ → Type 0
PointsInto line note old new = (left_out : ℕ) × (width : ℕ)
    × (new ≡ old ++ (shown_line left_out line ++ (10 ∷ (replicate width 32 ++ caret_line note))))

-- so is the line of a place, or nothing, where it is not UTF-8
abbrev pub PointsAt : List ℕ → ℕ → List ℕ → List ℕ → List ℕ → Type 0
PointsAt query place note old new =
    (IsUtf8 (line_at query place) × PointsInto (line_at query place) note old new)
    ⊎ (¬ (IsUtf8 (line_at query place)) × (new ≡ old))

-- so is that of some place of a query, or nothing
abbrev pub MayPoint : List ℕ → List ℕ → List ℕ → Type 0
MayPoint query old new = (new ≡ old) ⊎ ((place : ℕ) × (note : List ℕ) × PointsAt query place note old new)
