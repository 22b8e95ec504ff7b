-- A text is that of one version and one view.
use Rattle.std.proofs.Common.{◌≡◌, ◌≢◌, ℕ, List, [], ◌∷◌, ◌++◌, length, refl, sym, ap, ◌∙◌, arith, append_assoc}
use Rattle.std.specs.List.{flat_map, AllByRecursion}
use Rattle.std.specs.FinMap.{entries, same_entries_map}
use Rattle.wvalues.specs.Names.{NameParts}
use Rattle.wsegment.specs.Declaration.{Declaration}
use Rattle.wentries.specs.Knowledge.{Known, Live, Disputed, Retired, Floor}
use Rattle.wrecords.specs.Forms.{IsForm, line_of}
use Rattle.wexchange.specs.Files.{head, table_text, record_text, end_text, counted, sealed, IsRecord}
use Rattle.wexchange.specs.Laws.{OneText, OneView}
use Rattle.wrecords.specs.declared.form.Form.{Form}
use Rattle.wrecords.specs.declared.form.Form.TheVariants as forms
use Rattle.wexchange.specs.declared.version.Version.{Version}
use Rattle.wexchange.specs.declared.version.Version.TheVariants.{One, Two}
use Rattle.wrecords.proofs.Lines.{cut, same_front}

-- the form of the line of a record, and what stands behind the line
abbrev pub record_form : (NameParts × Known) → Form
record_form (n, Live bytes) = forms.Content n (length bytes)
record_form (n, Disputed) = forms.Dispute n
record_form (n, Retired) = forms.Retirement n
record_form (n, Floor) = forms.Floor n

abbrev pub record_rest : (NameParts × Known) → List ℕ → List ℕ
record_rest (n, Live bytes) s = bytes ++ (10 ∷ s)
record_rest (n, Disputed) s = s
record_rest (n, Retired) s = s
record_rest (n, Floor) s = s

pub record_is_form : (d : Declaration) (e : NameParts × Known) → IsRecord d e → IsForm (record_form e)
record_is_form d (n, Live bytes) h = (h.0, h.2)
record_is_form d (n, Disputed) h = h
record_is_form d (n, Retired) h = h
record_is_form d (n, Floor) h = h

pub record_first : (e : NameParts × Known) (s : List ℕ) → record_text e ++ s ≡ line_of (record_form e) ++ (10 ∷ record_rest e s)
record_first (n, Live bytes) s = append_assoc (line_of (forms.Content n (length bytes))) (10 ∷ (bytes ++ 10 ∷ [])) s
    ∙ ap (λ l. line_of (forms.Content n (length bytes)) ++ (10 ∷ l)) (append_assoc bytes (10 ∷ []) s)
record_first (n, Disputed) s = append_assoc (line_of (forms.Dispute n)) (10 ∷ []) s
record_first (n, Retired) s = append_assoc (line_of (forms.Retirement n)) (10 ∷ []) s
record_first (n, Floor) s = append_assoc (line_of (forms.Floor n)) (10 ∷ []) s

content_parts : (m n : NameParts) (a b : ℕ) → forms.Content m a ≡ forms.Content n b → (m ≡ n) × (a ≡ b)
content_parts m n a b e = (cc, cc)

dispute_name : (m n : NameParts) → forms.Dispute m ≡ forms.Dispute n → m ≡ n
dispute_name m n e = cc

retirement_name : (m n : NameParts) → forms.Retirement m ≡ forms.Retirement n → m ≡ n
retirement_name m n e = cc

floor_name : (m n : NameParts) → forms.Floor m ≡ forms.Floor n → m ≡ n
floor_name m n e = cc

-- the letter of a record's line
abbrev letter : Known → ℕ
letter (Live bytes) = 83
letter Disputed = 68
letter Retired = 82
letter Floor = 85

first_byte : (a b : ℕ) (xs ys : List ℕ) → a ∷ xs ≡ b ∷ ys → a ≡ b
first_byte a b xs ys e = cc

-- records of two kinds have lines of two forms
apart : (m n : NameParts) (j k : Known) → letter j ≢ letter k → record_form (m, j) ≡ record_form (n, k) → ⊥
apart m n j k other e = other (lines m n j k (ap line_of e))
  where
    lines : (m n : NameParts) (j k : Known) → line_of (record_form (m, j)) ≡ line_of (record_form (n, k)) → letter j ≡ letter k
    lines m n (Live a) (Live b) e = first_byte 83 83 _ _ e
    lines m n (Live a) Disputed e = first_byte 83 68 _ _ e
    lines m n (Live a) Retired e = first_byte 83 82 _ _ e
    lines m n (Live a) Floor e = first_byte 83 85 _ _ e
    lines m n Disputed (Live b) e = first_byte 68 83 _ _ e
    lines m n Disputed Disputed e = first_byte 68 68 _ _ e
    lines m n Disputed Retired e = first_byte 68 82 _ _ e
    lines m n Disputed Floor e = first_byte 68 85 _ _ e
    lines m n Retired (Live b) e = first_byte 82 83 _ _ e
    lines m n Retired Disputed e = first_byte 82 68 _ _ e
    lines m n Retired Retired e = first_byte 82 82 _ _ e
    lines m n Retired Floor e = first_byte 82 85 _ _ e
    lines m n Floor (Live b) e = first_byte 85 83 _ _ e
    lines m n Floor Disputed e = first_byte 85 68 _ _ e
    lines m n Floor Retired e = first_byte 85 82 _ _ e
    lines m n Floor Floor e = first_byte 85 85 _ _ e

-- by the forms of their lines and what stands behind them
same_record : (e f : NameParts × Known) (s t : List ℕ) → record_form e ≡ record_form f → record_rest e s ≡ record_rest f t
    → (e ≡ f) × (s ≡ t)
same_record (m, Live a) (n, Live b) s t e r =
    let parts = content_parts m n (length a) (length b) e in
    let rest = same_front a b (10 ∷ s) (10 ∷ t) parts.1 r in
    (λ i. (parts.0 i, Live (rest.0 i)), cc)
same_record (m, Disputed) (n, Disputed) s t e r = (ap (λ x. (x, Disputed)) (dispute_name m n e), r)
same_record (m, Retired) (n, Retired) s t e r = (ap (λ x. (x, Retired)) (retirement_name m n e), r)
same_record (m, Floor) (n, Floor) s t e r = (ap (λ x. (x, Floor)) (floor_name m n e), r)
same_record (m, Live a) (n, Disputed) s t e r = absurd (apart m n (Live a) Disputed (λ is. omega (arith, is)) e)
same_record (m, Live a) (n, Retired) s t e r = absurd (apart m n (Live a) Retired (λ is. omega (arith, is)) e)
same_record (m, Live a) (n, Floor) s t e r = absurd (apart m n (Live a) Floor (λ is. omega (arith, is)) e)
same_record (m, Disputed) (n, Live b) s t e r = absurd (apart m n Disputed (Live b) (λ is. omega (arith, is)) e)
same_record (m, Disputed) (n, Retired) s t e r = absurd (apart m n Disputed Retired (λ is. omega (arith, is)) e)
same_record (m, Disputed) (n, Floor) s t e r = absurd (apart m n Disputed Floor (λ is. omega (arith, is)) e)
same_record (m, Retired) (n, Live b) s t e r = absurd (apart m n Retired (Live b) (λ is. omega (arith, is)) e)
same_record (m, Retired) (n, Disputed) s t e r = absurd (apart m n Retired Disputed (λ is. omega (arith, is)) e)
same_record (m, Retired) (n, Floor) s t e r = absurd (apart m n Retired Floor (λ is. omega (arith, is)) e)
same_record (m, Floor) (n, Live b) s t e r = absurd (apart m n Floor (Live b) (λ is. omega (arith, is)) e)
same_record (m, Floor) (n, Disputed) s t e r = absurd (apart m n Floor Disputed (λ is. omega (arith, is)) e)
same_record (m, Floor) (n, Retired) s t e r = absurd (apart m n Floor Retired (λ is. omega (arith, is)) e)

pub one_record : (d : Declaration) (e f : NameParts × Known) (s t : List ℕ) → IsRecord d e → IsRecord d f
    → record_text e ++ s ≡ record_text f ++ t → (e ≡ f) × (s ≡ t)
one_record d e f s t h k is =
    let c = cut (record_form e) (record_form f) (record_rest e s) (record_rest f t) (record_is_form d e h)
    (record_is_form d f k) (sym (record_first e s) ∙ is ∙ record_first f t) in
    same_record e f s t c.0 c.1

-- the line of the end begins no record
pub no_end : (e : NameParts × Known) (count : ℕ) (s t : List ℕ) → record_text e ++ s ≡ end_text count ++ t → ⊥
no_end (n, Live bytes) count s t e = omega (arith, first_byte 83 69 _ _ e)
no_end (n, Disputed) count s t e = omega (arith, first_byte 68 69 _ _ e)
no_end (n, Retired) count s t e = omega (arith, first_byte 82 69 _ _ e)
no_end (n, Floor) count s t e = omega (arith, first_byte 85 69 _ _ e)

-- records up to the line of an end, whatever stands behind it
one_list : (d : Declaration) (es fs : List (NameParts × Known)) (m n : ℕ) (s t : List ℕ) → AllByRecursion (IsRecord d) es
    → AllByRecursion (IsRecord d) fs → flat_map record_text es ++ (end_text m ++ s) ≡ flat_map record_text fs ++ (end_text n ++ t) → es ≡ fs
one_list d [] [] m n s t h k e = refl
one_list d [] (f ∷ fs) m n s t h k e = absurd (no_end f m (flat_map record_text fs ++ (end_text n ++ t)) s
    (sym (append_assoc (record_text f) (flat_map record_text fs) (end_text n ++ t)) ∙ sym e))
one_list d (x ∷ es) [] m n s t h k e = absurd (no_end x n (flat_map record_text es ++ (end_text m ++ s)) t
    (sym (append_assoc (record_text x) (flat_map record_text es) (end_text m ++ s)) ∙ e))
one_list d (x ∷ es) (f ∷ fs) m n s t h k e =
    let one = one_record d x f (flat_map record_text es ++ (end_text m ++ s)) (flat_map record_text fs ++ (end_text n ++ t)) h.0 k.0
    (sym (append_assoc (record_text x) (flat_map record_text es) (end_text m ++ s)) ∙ e ∙ append_assoc (record_text f)
    (flat_map record_text fs) (end_text n ++ t)) in
    let rest = one_list d es fs m n s t h.1 k.1 one.1 in
    λ i. one.0 i ∷ rest i

fourth : (a b c x y : ℕ) (xs ys : List ℕ) → a ∷ b ∷ c ∷ x ∷ xs ≡ a ∷ b ∷ c ∷ y ∷ ys → x ≡ y
fourth a b c x y xs ys e = cc

-- the head tells the version
pub one_version : (r s : Version) (xs ys : List ℕ) → head r ++ xs ≡ head s ++ ys → r ≡ s
one_version One One xs ys e = refl
one_version One Two xs ys e = absurd (omega (arith, fourth 87 83 88 49 50 _ _ e))
one_version Two One xs ys e = absurd (omega (arith, fourth 87 83 88 50 49 _ _ e))
one_version Two Two xs ys e = refl

-- a text, part by part
text_parts : (r : Version) (d : Declaration) (es : List (NameParts × Known)) (seal : List ℕ)
    → counted r d es ++ seal ≡ head r ++ (table_text d ++ (flat_map record_text es ++ (end_text (length es) ++ seal)))
text_parts r d es seal =
    append_assoc ((head r ++ table_text d) ++ flat_map record_text es) (end_text (length es)) seal
    ∙ append_assoc (head r ++ table_text d) (flat_map record_text es) (end_text (length es) ++ seal)
    ∙ append_assoc (head r) (table_text d) (flat_map record_text es ++ (end_text (length es) ++ seal))

pub one_text : OneText
one_text d r s v w h k e =
    let one = sym (text_parts r d (entries v) (sealed r (counted r d (entries v)))) ∙ e ∙ text_parts s d (entries w)
    (sealed s (counted s d (entries w))) in
    let version = one_version r s _ _ one in
    let behind = same_front (head r) (head s) _ _ (ap (λ x. length (head x)) version) one in
    let records = same_front (table_text d) (table_text d) _ _ refl behind.1 in (
      version,
      same_entries_map v w (one_list d (entries v) (entries w) (length (entries v)) (length (entries w))
          (sealed r (counted r d (entries v))) (sealed s (counted s d (entries w))) h k records.1),
    )

pub one_view : OneView
one_view d v w h k e = (one_text d Two Two v w h k e).1
