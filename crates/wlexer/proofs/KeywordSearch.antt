-- A step of the search in the table of keywords.
use Rattle.std.proofs.Common.{◌≡◌, ℕ, zero, suc, ◌<◌, List, [], ◌∷◌, length, drop, get_or, map}
use Rattle.std.proofs.Common.{Bool, true, false, Some, if◌then◌else◌, refl, ap, arith}
use Rattle.std.proofs.lemmas.Slice.Eq.{bytes_eq-Decides}
use Rattle.std.specs.Bool.{Decides}
use Rattle.std.specs.Char.{to_ascii_lowercase}
use Rattle.wlexer.specs.declared.keyword.Entry.{Entry}
use Rattle.wlexer.proofs.Quotes.{false_true}
use Rattle.wlexer.specs.Keywords.{keyword_in, spelling_of}

-- what a test tells
decided_true : {P : Type 0} (b : Bool) → Decides b P → P → b ≡ true
decided_true b d p = d.1 p

decided_false : {P : Type 0} (b : Bool) → Decides b P → (P → false ≡ true) → b ≡ false
decided_false true d p = absurd (false_true (p (d.0 refl)))
decided_false false d p = refl

-- an entry that the word spells is the answer
pub spelled_at : (table : List Entry) (i : ℕ) (word : List ℕ) (d : Entry) → i < length table
    → map to_ascii_lowercase (get_or table i d).spelling.now ≡ map to_ascii_lowercase word
    → keyword_in (map spelling_of (drop i table)) word ≡ Some (get_or table i d).keyword
spelled_at [] i word d lt same = absurd (omega arith)
spelled_at (entry ∷ table) zero word d lt same =
    ap (λ (b : Bool). if b then Some entry.keyword else keyword_in (map spelling_of table) word)
    (decided_true _ (bytes_eq-Decides (map to_ascii_lowercase entry.spelling.now) (map to_ascii_lowercase word)) same)
spelled_at (entry ∷ table) (suc i) word d lt same = spelled_at table i word d (omega arith) same

-- an entry that the word does not spell leaves the answer to those after it
pub not_spelled_at : (table : List Entry) (i : ℕ) (word : List ℕ) (d : Entry) → i < length table
    → (map to_ascii_lowercase (get_or table i d).spelling.now ≡ map to_ascii_lowercase word → false ≡ true)
    → keyword_in (map spelling_of (drop i table)) word ≡ keyword_in (map spelling_of (drop (suc i) table)) word
not_spelled_at [] i word d lt other = absurd (omega arith)
not_spelled_at (entry ∷ table) zero word d lt other =
    ap (λ (b : Bool). if b then Some entry.keyword else keyword_in (map spelling_of table) word)
    (decided_false _ (bytes_eq-Decides (map to_ascii_lowercase entry.spelling.now) (map to_ascii_lowercase word)) other)
not_spelled_at (entry ∷ table) (suc i) word d lt other = not_spelled_at table i word d (omega arith) other
