-- What stands first is cut off in one way.
use Rattle.std.proofs.Common.{◌≡◌, ℕ, List, [], ◌∷◌, ◌++◌, length, refl, arith}
use Rattle.wlines.proofs.Cuts.{cut_once}
use Rattle.wrecords.specs.Forms.{IsForm, line_of}
use Rattle.wrecords.specs.declared.form.Form.{Form}
use Rattle.wrecords.proofs.Words.{line_lacks}
use Rattle.wrecords.proofs.Shapes.{one_form}

pub same_front : (xs ys ls ms : List ℕ) → length xs ≡ length ys → xs ++ ls ≡ ys ++ ms → (xs ≡ ys) × (ls ≡ ms)
same_front [] [] ls ms h e = (refl, e)
same_front [] (y ∷ ys) ls ms h e = absurd (omega arith)
same_front (x ∷ xs) [] ls ms h e = absurd (omega arith)
same_front (x ∷ xs) (y ∷ ys) ls ms h e =
    let rest = same_front xs ys ls ms (omega arith) cc in
    (cc, rest.1)

-- the line and what stands behind it, cut off
pub cut : (f g : Form) (a b : List ℕ) → IsForm f → IsForm g → line_of f ++ (10 ∷ a) ≡ line_of g ++ (10 ∷ b) → (f ≡ g) × (a ≡ b)
cut f g a b h k e =
    let c = cut_once 10 (line_of f) (line_of g) a b (line_lacks f h) (line_lacks g k) e in
    (one_form f g h k c.0, c.1)
