-- How many entries there are, and what holds of the one at a place.
use Rattle.std.proofs.Common.{◌≡◌, ℕ, zero, suc, ◌<◌, List, [], ◌∷◌, length, get_or, refl, ap, arith}
use Rattle.wentries.specs.declared.entries.Entry.{Entry}
use Rattle.wsegment.specs.Declaration.{Declaration}
use Rattle.wentries.specs.Holding.{IsHeldBy}
use Rattle.wentries.specs.Entries.{AllHeldBy, known_entries}

pub length-known_entries : (es : List Entry) → length (known_entries es) ≡ length es
length-known_entries [] = refl
length-known_entries (e ∷ es) = ap suc (length-known_entries es)

-- the declaration holds the entry at a place
pub held_at : (d : Declaration) (es : List Entry) (i : ℕ) (e : Entry) → i < length es → AllHeldBy d es → IsHeldBy d (get_or es i e).held
held_at d [] i e lt all = absurd (omega arith)
held_at d (x ∷ es) zero e lt all = all.0
held_at d (x ∷ es) (suc i) e lt all = held_at d es i e (omega arith) all.1
