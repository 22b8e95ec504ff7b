-- Lists that grow by one item after another.
use Rattle.std.proofs.Common.{◌≡◌, ◌+◌, ◌++◌, ◌<◌, ℕ, List, [], ◌∷◌, length, get_or, map, take, sym, ap, ◌∙◌}
use Rattle.std.proofs.Common.{add-one, append_assoc}
use Rattle.std.proofs.Math.Seq.{take-suc}
use Rattle.std.proofs.lemmas.List.{map-append}

-- a front of some items behind those that were there, with one item more
pub pushed_next : {A B : Type 0} (f : A → B) (old cells : List A) (all : List B) (k : ℕ) (x : A) (d : B) → k < length all
    → map f cells ≡ map f old ++ take k all → f x ≡ get_or all k d → map f (cells ++ x ∷ []) ≡ map f old ++ take (k + 1) all
pushed_next f old cells all k x d here so_far is =
    map-append f cells (x ∷ [])
    ∙ ap (λ l. l ++ f x ∷ []) so_far
    ∙ append_assoc (map f old) (take k all) (f x ∷ [])
    ∙ ap (λ y. map f old ++ (take k all ++ y ∷ [])) is
    ∙ ap (λ l. map f old ++ l) (sym (take-suc all k d here))
    ∙ ap (λ n. map f old ++ take n all) (sym (add-one k))
