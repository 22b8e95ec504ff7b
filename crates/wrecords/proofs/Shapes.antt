-- A header line is of one form.
use Rattle.std.proofs.Common.{◌≡◌, ℕ, List, ◌∷◌, ◌++◌, ap, arith}
use Rattle.std.specs.Fmt.{decimal}
use Rattle.std.proofs.lemmas.Fmt.{decimal_injective}
use Rattle.wlines.proofs.Cuts.{cut_once}
use Rattle.wvalues.specs.Names.{NameParts, IsName}
use Rattle.wrecords.specs.Forms.{IsNumber, IsForm, line_of, name_words, content_words}
use Rattle.wrecords.specs.declared.form.Form.{Form}
use Rattle.wrecords.specs.declared.form.Form.TheVariants as forms
use Rattle.wrecords.proofs.Words.{origin_no_space, number_no_space}

first_byte : (a b : ℕ) (xs ys : List ℕ) → a ∷ xs ≡ b ∷ ys → a ≡ b
first_byte a b xs ys e = cc

behind_two : (a b c d : ℕ) (xs ys : List ℕ) → a ∷ b ∷ xs ≡ c ∷ d ∷ ys → xs ≡ ys
behind_two a b c d xs ys e = cc

one_number : (m n : ℕ) → IsNumber m → IsNumber n → decimal m ≡ decimal n → m ≡ n
one_number m n h k e = decimal_injective m n (omega (arith, h.fits)) (omega (arith, k.fits)) e

pub one_name : (m n : NameParts) → IsName m → IsName n → m.origin ≡ n.origin → decimal m.number ≡ decimal n.number → m ≡ n
one_name m n h k o e =
    let number : m.number ≡ n.number = decimal_injective m.number n.number (omega (arith, h.number.high))
    (omega (arith, k.number.high)) e in
    λ i. record { origin = o i; number = number i }

names_same : (m n : NameParts) → IsName m → IsName n → name_words m ≡ name_words n → m ≡ n
names_same m n h k e =
    let cut = cut_once 32 m.origin n.origin (decimal m.number) (decimal n.number) (origin_no_space m h) (origin_no_space n k) e in
    one_name m n h k cut.0 cut.1

contents_same : (m n : NameParts) (a b : ℕ) → IsName m → IsName n → IsNumber a → IsNumber b
    → content_words m a ≡ content_words n b → (m ≡ n) × (a ≡ b)
contents_same m n a b h k p q e =
    let cut = cut_once 32 m.origin n.origin (decimal m.number ++ (32 ∷ decimal a)) (decimal n.number ++ (32 ∷ decimal b))
    (origin_no_space m h) (origin_no_space n k) e in
    let rest = cut_once 32 (decimal m.number) (decimal n.number) (decimal a) (decimal b) (number_no_space m h)
    (number_no_space n k) cut.1 in
    (one_name m n h k cut.0 rest.0, one_number a b p q rest.1)

pub one_form : (f g : Form) → IsForm f → IsForm g → line_of f ≡ line_of g → f ≡ g
one_form (forms.Table a) (forms.Table b) h k e = ap (λ x. forms.Table x) (one_number a b h k (behind_two 84 32 84 32 _ _ e))
one_form (forms.Table a) (forms.Content n b) h k e = absurd (omega (arith, first_byte 84 83 _ _ e))
one_form (forms.Table a) (forms.Dispute n) h k e = absurd (omega (arith, first_byte 84 68 _ _ e))
one_form (forms.Table a) (forms.Retirement n) h k e = absurd (omega (arith, first_byte 84 82 _ _ e))
one_form (forms.Table a) (forms.Floor n) h k e = absurd (omega (arith, first_byte 84 85 _ _ e))
one_form (forms.Table a) (forms.End b) h k e = absurd (omega (arith, first_byte 84 69 _ _ e))
one_form (forms.Table a) (forms.Digest b) h k e = absurd (omega (arith, first_byte 84 72 _ _ e))
one_form (forms.Content m a) (forms.Table b) h k e = absurd (omega (arith, first_byte 83 84 _ _ e))
one_form (forms.Content m a) (forms.Content n b) h k e =
    let same = contents_same m n a b h.0 k.0 h.1 k.1 (behind_two 83 32 83 32 _ _ e) in
    λ i. forms.Content (same.0 i) (same.1 i)
one_form (forms.Content m a) (forms.Dispute n) h k e = absurd (omega (arith, first_byte 83 68 _ _ e))
one_form (forms.Content m a) (forms.Retirement n) h k e = absurd (omega (arith, first_byte 83 82 _ _ e))
one_form (forms.Content m a) (forms.Floor n) h k e = absurd (omega (arith, first_byte 83 85 _ _ e))
one_form (forms.Content m a) (forms.End b) h k e = absurd (omega (arith, first_byte 83 69 _ _ e))
one_form (forms.Content m a) (forms.Digest b) h k e = absurd (omega (arith, first_byte 83 72 _ _ e))
one_form (forms.Dispute m) (forms.Table b) h k e = absurd (omega (arith, first_byte 68 84 _ _ e))
one_form (forms.Dispute m) (forms.Content n b) h k e = absurd (omega (arith, first_byte 68 83 _ _ e))
one_form (forms.Dispute m) (forms.Dispute n) h k e = ap (λ x. forms.Dispute x) (names_same m n h k (behind_two 68 32 68 32 _ _ e))
one_form (forms.Dispute m) (forms.Retirement n) h k e = absurd (omega (arith, first_byte 68 82 _ _ e))
one_form (forms.Dispute m) (forms.Floor n) h k e = absurd (omega (arith, first_byte 68 85 _ _ e))
one_form (forms.Dispute m) (forms.End b) h k e = absurd (omega (arith, first_byte 68 69 _ _ e))
one_form (forms.Dispute m) (forms.Digest b) h k e = absurd (omega (arith, first_byte 68 72 _ _ e))
one_form (forms.Retirement m) (forms.Table b) h k e = absurd (omega (arith, first_byte 82 84 _ _ e))
one_form (forms.Retirement m) (forms.Content n b) h k e = absurd (omega (arith, first_byte 82 83 _ _ e))
one_form (forms.Retirement m) (forms.Dispute n) h k e = absurd (omega (arith, first_byte 82 68 _ _ e))
one_form (forms.Retirement m) (forms.Retirement n) h k e = ap (λ x. forms.Retirement x) (names_same m n h k (behind_two 82 32 82 32 _ _ e))
one_form (forms.Retirement m) (forms.Floor n) h k e = absurd (omega (arith, first_byte 82 85 _ _ e))
one_form (forms.Retirement m) (forms.End b) h k e = absurd (omega (arith, first_byte 82 69 _ _ e))
one_form (forms.Retirement m) (forms.Digest b) h k e = absurd (omega (arith, first_byte 82 72 _ _ e))
one_form (forms.Floor m) (forms.Table b) h k e = absurd (omega (arith, first_byte 85 84 _ _ e))
one_form (forms.Floor m) (forms.Content n b) h k e = absurd (omega (arith, first_byte 85 83 _ _ e))
one_form (forms.Floor m) (forms.Dispute n) h k e = absurd (omega (arith, first_byte 85 68 _ _ e))
one_form (forms.Floor m) (forms.Retirement n) h k e = absurd (omega (arith, first_byte 85 82 _ _ e))
one_form (forms.Floor m) (forms.Floor n) h k e = ap (λ x. forms.Floor x) (names_same m n h k (behind_two 85 32 85 32 _ _ e))
one_form (forms.Floor m) (forms.End b) h k e = absurd (omega (arith, first_byte 85 69 _ _ e))
one_form (forms.Floor m) (forms.Digest b) h k e = absurd (omega (arith, first_byte 85 72 _ _ e))
one_form (forms.End a) (forms.Table b) h k e = absurd (omega (arith, first_byte 69 84 _ _ e))
one_form (forms.End a) (forms.Content n b) h k e = absurd (omega (arith, first_byte 69 83 _ _ e))
one_form (forms.End a) (forms.Dispute n) h k e = absurd (omega (arith, first_byte 69 68 _ _ e))
one_form (forms.End a) (forms.Retirement n) h k e = absurd (omega (arith, first_byte 69 82 _ _ e))
one_form (forms.End a) (forms.Floor n) h k e = absurd (omega (arith, first_byte 69 85 _ _ e))
one_form (forms.End a) (forms.End b) h k e = ap (λ x. forms.End x) (one_number a b h k (behind_two 69 32 69 32 _ _ e))
one_form (forms.End a) (forms.Digest b) h k e = absurd (omega (arith, first_byte 69 72 _ _ e))
one_form (forms.Digest a) (forms.Table b) h k e = absurd (omega (arith, first_byte 72 84 _ _ e))
one_form (forms.Digest a) (forms.Content n b) h k e = absurd (omega (arith, first_byte 72 83 _ _ e))
one_form (forms.Digest a) (forms.Dispute n) h k e = absurd (omega (arith, first_byte 72 68 _ _ e))
one_form (forms.Digest a) (forms.Retirement n) h k e = absurd (omega (arith, first_byte 72 82 _ _ e))
one_form (forms.Digest a) (forms.Floor n) h k e = absurd (omega (arith, first_byte 72 85 _ _ e))
one_form (forms.Digest a) (forms.End b) h k e = absurd (omega (arith, first_byte 72 69 _ _ e))
one_form (forms.Digest a) (forms.Digest b) h k e = ap (λ x. forms.Digest x) (behind_two 72 32 72 32 _ _ e)
