-- What stands where no item can be read.
use Rattle.std.proofs.Common.{◌≡◌, ◌∙◌, sym, ap, ℕ, ◌++◌, ◌∷◌, List, Result, Ok, Err, IfErr, append_assoc, Bor}

-- behind a line too
pub missing_behind : {A : Type 0} (r : Result A (Bor (List ℕ))) (bytes line rest : List ℕ) → bytes ≡ line ++ (10 ∷ rest)
    → IfErr r (λ place. (read : List ℕ) × (rest ≡ read ++ place.now))
    → IfErr r (λ place. (read : List ℕ) × (bytes ≡ read ++ place.now))
missing_behind (Ok item) bytes line rest cut missing = tt
missing_behind (Err place) bytes line rest cut missing = (
  line ++ (10 ∷ missing.0),
  cut ∙ ap (λ r. line ++ (10 ∷ r)) missing.1 ∙ sym (append_assoc line (10 ∷ missing.0) place.now),
)
