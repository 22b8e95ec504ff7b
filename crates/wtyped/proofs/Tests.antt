-- Tests that are made of others.
use Rattle.std.proofs.Common.{◌≡◌, Bool, true, false, ◌&&◌, ◌||◌, List, [], ◌∷◌, sym, true≢false}
use Rattle.std.proofs.lemmas.Bool.{or_parts, and_from}

-- `b || (c || ..)`
abbrev pub some_true : Bool → List Bool → Bool
some_true b [] = b
some_true b (c ∷ cs) = b || some_true c cs

abbrev pub AreFalse : Bool → List Bool → Type 0
AreFalse b [] = b ≡ false
AreFalse b (c ∷ cs) = (b ≡ false) × AreFalse c cs

pub are_false : (b : Bool) (cs : List Bool) → some_true b cs ≡ false → AreFalse b cs
are_false b [] e = e
are_false b (c ∷ cs) e = let p = or_parts b (some_true c cs) e in (p.0, are_false c cs p.1)

-- `b && (c && ..)`
abbrev pub all_true : Bool → List Bool → Bool
all_true b [] = b
all_true b (c ∷ cs) = b && all_true c cs

abbrev pub AreTrue : Bool → List Bool → Type 0
AreTrue b [] = b ≡ true
AreTrue b (c ∷ cs) = (b ≡ true) × AreTrue c cs

pub are_true : (b : Bool) (cs : List Bool) → AreTrue b cs → all_true b cs ≡ true
are_true b [] a = a
are_true b (c ∷ cs) a = and_from b (all_true c cs) a.0 (are_true c cs a.1)

-- `b && c` does not hold where `b` does
pub and_rest : (b c : Bool) → b ≡ true → (b && c) ≡ false → c ≡ false
and_rest true c is e = e
and_rest false c is e = absurd (true≢false (sym is))
