-- The bytes that the words of names and numbers lack.
use Rattle.std.proofs.Common.{◌≡◌, ◌≢◌, ℕ, Bool, true, false, ◌&&◌, List, [], ◌∷◌, ◌++◌, refl, ap, arith}
use Rattle.std.specs.Fmt.{decimal}
use Rattle.std.specs.List.{list_all}
use Rattle.wlines.specs.Words.{Lacks}
use Rattle.wlines.proofs.Decimals.{no_space}
use Rattle.wlines.proofs.Decimals as Decimals
use Rattle.wvalues.specs.Names.{NameParts, IsName, is_origin_byte}
use Rattle.wrecords.specs.Forms.{IsNumber, IsForm, is_digest_digit, line_of}
use Rattle.wrecords.specs.declared.form.Form.{Form}
use Rattle.wrecords.specs.declared.form.Form.TheVariants as forms

and_first : (a b : Bool) → (a && b) ≡ true → a ≡ true
and_first true b e = refl
and_first false b e = e

and_second : (a b : Bool) → (a && b) ≡ true → b ≡ true
and_second true b e = e
and_second false b e = cc

spelled_lacks : (c : ℕ) (bytes : List ℕ) → is_origin_byte c ≡ false → list_all is_origin_byte bytes ≡ true → Lacks c bytes
spelled_lacks c [] other all = tt
spelled_lacks c (x ∷ xs) other all =
    let first : is_origin_byte x ≡ true = and_first (is_origin_byte x) (list_all is_origin_byte xs) all in (
      λ e. let same : is_origin_byte x ≡ is_origin_byte c = ap is_origin_byte e in
          cc,
      spelled_lacks c xs other (and_second (is_origin_byte x) (list_all is_origin_byte xs) all),
    )

pub origin_no_space : (n : NameParts) → IsName n → Lacks 32 n.origin
origin_no_space n h = spelled_lacks 32 n.origin refl h.origin.spelled

pub origin_no_feed : (n : NameParts) → IsName n → Lacks 10 n.origin
origin_no_feed n h = spelled_lacks 10 n.origin refl h.origin.spelled

pub number_no_space : (n : NameParts) → IsName n → Lacks 32 (decimal n.number)
number_no_space n h = no_space n.number (omega (arith, h.number.high))

pub number_no_feed : (n : NameParts) → IsName n → Lacks 10 (decimal n.number)
number_no_feed n h = Decimals.no_feed n.number (omega (arith, h.number.high))

pub no_feed : (n : ℕ) → IsNumber n → Lacks 10 (decimal n)
no_feed n h = Decimals.no_feed n h.fits

Lacks-append : (c : ℕ) (xs ys : List ℕ) → Lacks c xs → Lacks c ys → Lacks c (xs ++ ys)
Lacks-append c [] ys k l = l
Lacks-append c (x ∷ xs) ys k l = (k.0, Lacks-append c xs ys k.1 l)

spaced : (word rest : List ℕ) → Lacks 10 word → Lacks 10 rest → Lacks 10 (word ++ (32 ∷ rest))
spaced word rest k l = Lacks-append 10 word (32 ∷ rest) k (λ e. omega (arith, e), l)

begun : (letter : ℕ) (rest : List ℕ) → letter ≢ 10 → Lacks 10 rest → Lacks 10 (letter ∷ 32 ∷ rest)
begun letter rest ne k = (ne, ((λ e. omega (arith, e)), k))

digits_lack : (c : ℕ) (bytes : List ℕ) → is_digest_digit c ≡ false → list_all is_digest_digit bytes ≡ true → Lacks c bytes
digits_lack c [] other all = tt
digits_lack c (x ∷ xs) other all =
    let first : is_digest_digit x ≡ true = and_first (is_digest_digit x) (list_all is_digest_digit xs) all in (
      λ e. let same : is_digest_digit x ≡ is_digest_digit c = ap is_digest_digit e in
          cc,
      digits_lack c xs other (and_second (is_digest_digit x) (list_all is_digest_digit xs) all),
    )

-- a header line has no line feed in it
pub line_lacks : (f : Form) → IsForm f → Lacks 10 (line_of f)
line_lacks (forms.Table len) h = begun 84 _ (λ e. omega (arith, e)) (no_feed len h)
line_lacks (forms.Content n len) h =
    begun 83 _ (λ e. omega (arith, e)) (spaced n.origin _ (origin_no_feed n h.0)
    (spaced (decimal n.number) _ (number_no_feed n h.0) (no_feed len h.1)))
line_lacks (forms.Dispute n) h = begun 68 _ (λ e. omega (arith, e)) (spaced n.origin _ (origin_no_feed n h) (number_no_feed n h))
line_lacks (forms.Retirement n) h = begun 82 _ (λ e. omega (arith, e)) (spaced n.origin _ (origin_no_feed n h) (number_no_feed n h))
line_lacks (forms.End count) h = begun 69 _ (λ e. omega (arith, e)) (no_feed count h)
line_lacks (forms.Floor n) h = begun 85 _ (λ e. omega (arith, e)) (spaced n.origin _ (origin_no_feed n h) (number_no_feed n h))
line_lacks (forms.Digest digits) h = begun 72 _ (λ e. omega (arith, e)) (digits_lack 10 digits refl h.spelled)
