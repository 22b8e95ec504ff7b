-- What was read before, and what is still read.
use Rattle.std.proofs.Common.{◌≡◌, ◌++◌, List, [], ◌∷◌, Result, Ok, Err, refl, sym, ap, append_assoc}
use Rattle.wsegment.specs.Outcome.{◌>>=◌}
use Rattle.wsegment.specs.declared.fault.SegmentFault.{SegmentFault}

abbrev pub with_front : {A : Type 0} → List A → Result (List A) SegmentFault → Result (List A) SegmentFault
with_front front read = read >>= λ xs. Ok (front ++ xs)

pub front-nil : {A : Type 0} (read : Result (List A) SegmentFault) → with_front [] read ≡ read
front-nil (Ok xs) = refl
front-nil (Err f) = refl

pub regroup : {A : Type 0} (front : List A) (x : A) (read : Result (List A) SegmentFault)
    → with_front front (read >>= λ xs. Ok (x ∷ xs)) ≡ with_front (front ++ x ∷ []) read
regroup {A} front x (Ok xs) = ap (λ (ys : List A). Ok ys) (sym (append_assoc front (x ∷ []) xs))
regroup front x (Err f) = refl
