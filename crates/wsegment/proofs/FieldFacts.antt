-- The fields of a record of ASCII are texts.
use Rattle.std.proofs.Common.{◌≡◌, ◌+◌, ◌-◌, ℕ, Bool, true, false, sym, List, [], ◌∷◌, zero, suc, Some, take, drop, subst, arith}
use Rattle.std.proofs.lemmas.List.{get_or-drop}
use Rattle.std.proofs.lemmas.Str.{IsUtf8-from_ascii}
use Rattle.std.specs.Prelude.{MatchBool}
use Rattle.std.specs.Str.{IsAscii, IsNotAscii, IsUtf8}
use Rattle.csv.specs.Records.{Row, cut_from, field_at, fields_of, text_of}

ascii-take : (n : ℕ) (l : List ℕ) → IsAscii l → IsAscii (take n l)
ascii-take zero l h i = omega arith
ascii-take (suc n) [] h i = omega arith
ascii-take (suc n) (x ∷ xs) h zero = h 0
ascii-take (suc n) (x ∷ xs) h (suc i) = ascii-take n xs (λ j. h (suc j)) i

ascii-drop : (n : ℕ) (l : List ℕ) → IsAscii l → IsAscii (drop n l)
ascii-drop n l h = λ i. rw (get_or-drop n l i 0) (h (n + i))

pub ascii-field : (ends bytes : List ℕ) (start i : ℕ) (f : List ℕ) → IsAscii bytes
    → field_at (cut_from start ends bytes) i ≡ Some f → IsUtf8 f
unfolding field_at cut_from
ascii-field [] bytes start i f h e = cc e
ascii-field (end ∷ ends) bytes start zero f h e =
    let part = take (end - start) (drop start bytes) in
    let is : part ≡ f = cc e in
    subst IsUtf8 is (IsUtf8-from_ascii part (ascii-take (end - start) (drop start bytes) (ascii-drop start bytes h)))
ascii-field (end ∷ ends) bytes start (suc i) f h e = ascii-field ends bytes end i f h e

-- what a field of a record is that is found to be ASCII
pub ascii-text : (row : Row) (found : Bool) (bytes : List ℕ) (i : ℕ) (f : List ℕ)
    → MatchBool found (IsAscii bytes) (IsNotAscii bytes) → bytes ≡ text_of row → Some f ≡ field_at (fields_of row) i
    → found ≡ true → IsUtf8 f
ascii-text row true bytes i f all is e found = ascii-field row.ends row.bytes 0 i f (subst IsAscii is all) (sym e)
ascii-text row false bytes i f all is e found = absurd (cc found)
