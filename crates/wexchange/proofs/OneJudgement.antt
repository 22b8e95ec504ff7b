-- Bytes are judged in one way: reading stops at one place, and there for one reason.
use Rattle.std.proofs.Common.{◌≡◌, ◌≢◌, ◌≤◌, ℕ, true, false, T, List, [], ◌∷◌, ◌++◌, length, None, Some, Result, Ok}
use Rattle.std.proofs.Common.{Err, IsOk, inl, inr, refl, sym, ap, ◌∙◌, subst, arith, append_assoc, append-nil, length-append}
use Rattle.std.specs.List.{flat_map, AllByRecursion}
use Rattle.std.specs.declared.cmp.Ordering.TheVariants.{Less}
use Rattle.std.specs.FinMap.Entries.{below_all}
use Rattle.std.specs.FinMap.{entries, is_sorted, entries_sorted, same_entries_map}
use Rattle.wvalues.specs.Meaning.{Meaning}
use Rattle.wvalues.specs.Names.{NameParts, name_cmp}
use Rattle.wlines.specs.Words.{Lacks}
use Rattle.wlines.proofs.Cuts.{cut_once, no_cut}
use Rattle.wsegment.specs.Declaration.{Declaration, declaration_text}
use Rattle.wsegment.specs.Spelling.{IsDeclaration}
use Rattle.wsegment.specs.Rows.{rows_of}
use Rattle.wsegment.specs.declared.fault.SegmentFault.{SegmentFault}
use Rattle.wentries.specs.Knowledge.{Known, Live, Disputed, Retired, Floor}
use Rattle.wentries.proofs.Floors.{first, second, less}
use Rattle.wset.specs.Views.{View, IsSettled}
use Rattle.wentries.specs.Entries.{AreBelow}
use Rattle.wset.specs.Lending.{IsAbove, IsBehindOrigins}
use Rattle.wrecords.specs.Cuts.{IsUnfed}
use Rattle.wrecords.specs.Forms.{IsForm, line_of}
use Rattle.wexchange.specs.Files.{head, table_text, record_text, end_text, begun, counted, digest_of, digest_text}
use Rattle.wexchange.specs.Files.{text_of, file_of, HasFloors, IsRecord, IsView, HasRecords, HasRecord}
use Rattle.wexchange.specs.declared.version.Version.{Version}
use Rattle.wexchange.specs.declared.version.Version.TheVariants.{One, Two}
use Rattle.wexchange.specs.Judging.{Place, AtTable, AtDigest, Behind, GoesOn, MayStand, Follows, record_name}
use Rattle.wexchange.specs.Judging.{body_length, Stands, HasOtherHead, IsCutHead, HasLowName, Judges}
use Rattle.wexchange.specs.Laws.{OneJudgement, OwnJudgement}
use Rattle.wrecords.specs.declared.form.Form.{Form}
use Rattle.wrecords.specs.declared.form.Form.TheVariants as forms
use Rattle.wexchange.specs.declared.fault.FileFault.{FileFault}
use Rattle.wexchange.specs.declared.fault.FileFault.TheVariants as faults
use Rattle.wrecords.proofs.Words.{line_lacks}
use Rattle.wrecords.proofs.Lines.{cut, same_front}
use Rattle.wexchange.proofs.OneText.{no_end, one_record, one_version, record_first, record_form, record_is_form, record_rest}
use Rattle.wexchange.proofs.Before.{floor_next}
use Rattle.wexchange.proofs.Digests.{digest_spelled}

same_behind : (xs ys : List ℕ) (a b : ℕ) (more rest : List ℕ) → length xs ≡ length ys → xs ++ (a ∷ more) ≡ ys ++ (b ∷ rest) → a ≡ b
same_behind [] [] a b more rest h e = cc
same_behind [] (y ∷ ys) a b more rest h e = absurd (omega arith)
same_behind (x ∷ xs) [] a b more rest h e = absurd (omega arith)
same_behind (x ∷ xs) (y ∷ ys) a b more rest h e = same_behind xs ys a b more rest (omega arith) cc

abbrev Outcome : Type 0
Outcome = Result View FileFault

-- ---- bodies

-- a body of this length is short, or lacks its line feed, or is whole and has this outcome
data BodyStop (len : ℕ) (after : List ℕ) (Has : List ℕ → Outcome → Type 0) (r : Outcome) : Type 0 where
  short : length after ≤ len → r ≡ Err faults.Truncated → BodyStop len after Has r
  unfed : IsUnfed len after → r ≡ Err faults.OtherFormat → BodyStop len after Has r
  whole : (body more : List ℕ) → after ≡ body ++ (10 ∷ more) → length body ≡ len → Has body r → BodyStop len after Has r

short_unfed : (len : ℕ) (after : List ℕ) → length after ≤ len → IsUnfed len after → ⊥
short_unfed len after h u = omega (arith, ap length u.bytes_are, length-append u.body (u.byte ∷ u.more), u.length_is)

short_whole : (len : ℕ) (after body more : List ℕ) → length after ≤ len → after ≡ body ++ (10 ∷ more) → length body ≡ len → ⊥
short_whole len after body more h e size = omega (arith, ap length e, length-append body (10 ∷ more))

unfed_whole : (len : ℕ) (after body more : List ℕ) → IsUnfed len after → after ≡ body ++ (10 ∷ more) → length body ≡ len → ⊥
unfed_whole len after body more u e size =
    u.other (same_behind u.body body u.byte 10 u.more more (u.length_is ∙ sym size) (sym u.bytes_are ∙ e))

one_body : (len : ℕ) (after : List ℕ) (Has : List ℕ → Outcome → Type 0) (r s : Outcome)
    → ((body : List ℕ) (r s : Outcome) → Has body r → Has body s → r ≡ s) → BodyStop len after Has r → BodyStop len after Has s → r ≡ s
one_body len after Has r s one (short h e) (short k f) = e ∙ sym f
one_body len after Has r s one (short h e) (unfed u f) = absurd (short_unfed len after h u)
one_body len after Has r s one (short h e) (whole b more is size x) = absurd (short_whole len after b more h is size)
one_body len after Has r s one (unfed u e) (short k f) = absurd (short_unfed len after k u)
one_body len after Has r s one (unfed u e) (unfed w f) = e ∙ sym f
one_body len after Has r s one (unfed u e) (whole b more is size x) = absurd (unfed_whole len after b more u is size)
one_body len after Has r s one (whole a more is size x) (short k f) = absurd (short_whole len after a more k is size)
one_body len after Has r s one (whole a more is size x) (unfed w f) = absurd (unfed_whole len after a more w is size)
one_body len after Has r s one (whole a more is size x) (whole b rest also same y) =
    let cut_off = same_front a b (10 ∷ more) (10 ∷ rest) (size ∙ sym same) (sym is ∙ also) in
    one b r s (subst (λ l. Has l r) cut_off.0 x) y

-- where it is whole, it has this outcome
whole_body : (len : ℕ) (after body more : List ℕ) (Has : List ℕ → Outcome → Type 0) (r : Outcome)
    → after ≡ body ++ (10 ∷ more) → length body ≡ len → BodyStop len after Has r → Has body r
whole_body len after body more Has r is size (short h e) = absurd (short_whole len after body more h is size)
whole_body len after body more Has r is size (unfed u e) = absurd (unfed_whole len after body more u is size)
whole_body len after body more Has r is size (whole b rest also same x) =
    subst (λ l. Has l r) (same_front b body (10 ∷ rest) (10 ∷ more) (same ∙ sym size) (sym also ∙ is)).0 x

-- ---- lines

-- the declaration is another one
abbrev IsOtherTable : Declaration → List ℕ → Outcome → Type 0
IsOtherTable d table r = (table ≢ declaration_text d) × (r ≡ Err faults.OtherSchema)

one_table : (d : Declaration) (table : List ℕ) (r s : Outcome) → IsOtherTable d table r → IsOtherTable d table s → r ≡ s
one_table d table r s x y = x.1 ∙ sym y.1

-- the content is no segment
record IsRefused (d : Declaration) (content : List ℕ) (r : Outcome) : Type 0 where
  fault : SegmentFault
  refused : rows_of d content ≡ Err fault
  is : r ≡ Err (faults.Segment fault)

abbrev refusal : SegmentFault → Result (List (List Meaning)) SegmentFault
refusal fault = Err fault

same_fault : (f g : SegmentFault) → refusal f ≡ refusal g → f ≡ g
same_fault f g e = cc

one_refusal : (d : Declaration) (content : List ℕ) (r s : Outcome) → IsRefused d content r → IsRefused d content s → r ≡ s
one_refusal d content r s x y = x.is ∙ ap (λ f. Err (faults.Segment f)) (same_fault x.fault y.fault (sym x.refused ∙ y.refused)) ∙ sym y.is

-- the name does not follow those before it, or it does, and what stands behind it has an outcome
data NameStop (Fits : Type 0) (Has : Outcome → Type 0) (r : Outcome) : Type 0 where
  low : ¬ Fits → r ≡ Err faults.NotRising → NameStop Fits Has r
  above : Fits → Has r → NameStop Fits Has r

one_name : (Fits : Type 0) (Has : Outcome → Type 0) (r s : Outcome) → (Has r → Has s → r ≡ s) → NameStop Fits Has r
    → NameStop Fits Has s → r ≡ s
one_name Fits Has r s one (low h e) (low k f) = e ∙ sym f
one_name Fits Has r s one (low h e) (above k y) = absurd (h k)
one_name Fits Has r s one (above h x) (low k f) = absurd (k h)
one_name Fits Has r s one (above h x) (above k y) = one x y

no_byte : (byte : ℕ) (more : List ℕ) → byte ∷ more ≡ [] → ⊥
no_byte byte more e = cc

-- the count is another one, or in version 1 the text is followed by more, or whole
data EndStop (v : Version) (w : View) (count : ℕ) (after : List ℕ) (r : Outcome) : Type 0 where
  other_count : count ≢ length (entries w) → r ≡ Err faults.OtherCount → EndStop v w count after r
  trailing : v ≡ One → (byte : ℕ) (more : List ℕ) → count ≡ length (entries w) → after ≡ byte ∷ more
      → r ≡ Err faults.Trailing → EndStop v w count after r
  file : v ≡ One → count ≡ length (entries w) → after ≡ [] → r ≡ Ok w → EndStop v w count after r

one_end : (v : Version) (w : View) (count : ℕ) (after : List ℕ) (r s : Outcome) → EndStop v w count after r
    → EndStop v w count after s → r ≡ s
one_end v w count after r s (other_count h e) (other_count k f) = e ∙ sym f
one_end v w count after r s (other_count h e) (trailing o b more k i f) = absurd (h k)
one_end v w count after r s (other_count h e) (file o k i f) = absurd (h k)
one_end v w count after r s (trailing o b more h i e) (other_count k f) = absurd (k h)
one_end v w count after r s (trailing o b more h i e) (trailing p c rest k j f) = e ∙ sym f
one_end v w count after r s (trailing o b more h i e) (file p k j f) = absurd (no_byte b more (sym i ∙ j))
one_end v w count after r s (file o h i e) (other_count k f) = absurd (k h)
one_end v w count after r s (file o h i e) (trailing p c rest k j f) = absurd (no_byte c rest (sym j ∙ i))
one_end v w count after r s (file o h i e) (file p k j f) = e ∙ sym f

-- the digest is another one, or the file is followed by more, or whole
data SealStop (d : Declaration) (w : View) (digits after : List ℕ) (r : Outcome) : Type 0 where
  other_digest : digits ≢ digest_of (counted Two d (entries w)) → r ≡ Err faults.OtherDigest → SealStop d w digits after r
  sealed_more : (byte : ℕ) (more : List ℕ) → digits ≡ digest_of (counted Two d (entries w)) → after ≡ byte ∷ more
      → r ≡ Err faults.Trailing → SealStop d w digits after r
  sealed_file : digits ≡ digest_of (counted Two d (entries w)) → after ≡ [] → r ≡ Ok w → SealStop d w digits after r

one_seal : (d : Declaration) (w : View) (digits after : List ℕ) (r s : Outcome) → SealStop d w digits after r
    → SealStop d w digits after s → r ≡ s
one_seal d w digits after r s (other_digest h e) (other_digest k f) = e ∙ sym f
one_seal d w digits after r s (other_digest h e) (sealed_more b more k i f) = absurd (h k)
one_seal d w digits after r s (other_digest h e) (sealed_file k i f) = absurd (h k)
one_seal d w digits after r s (sealed_more b more h i e) (other_digest k f) = absurd (k h)
one_seal d w digits after r s (sealed_more b more h i e) (sealed_more c rest k j f) = e ∙ sym f
one_seal d w digits after r s (sealed_more b more h i e) (sealed_file k j f) = absurd (no_byte b more (sym i ∙ j))
one_seal d w digits after r s (sealed_file h i e) (other_digest k f) = absurd (k h)
one_seal d w digits after r s (sealed_file h i e) (sealed_more c rest k j f) = absurd (no_byte c rest (sym j ∙ i))
one_seal d w digits after r s (sealed_file h i e) (sealed_file k j f) = e ∙ sym f

-- this line stands at this place, and reading stops there or behind it
abbrev FormStop : Declaration → Place → Form → List ℕ → Outcome → Type 0
FormStop d (AtTable v) (forms.Table len) after r = BodyStop len after (IsOtherTable d) r
FormStop d (AtTable v) (forms.Content name len) after r = ⊥
FormStop d (AtTable v) (forms.Dispute name) after r = ⊥
FormStop d (AtTable v) (forms.Retirement name) after r = ⊥
FormStop d (AtTable v) (forms.Floor name) after r = ⊥
FormStop d (AtTable v) (forms.End count) after r = ⊥
FormStop d (AtTable v) (forms.Digest digits) after r = ⊥
FormStop d (Behind v w) (forms.Table len) after r = ⊥
FormStop d (Behind v w) (forms.Content name len) after r = NameStop (IsAbove w name) (BodyStop len after (IsRefused d)) r
FormStop d (Behind v w) (forms.Dispute name) after r = NameStop (IsAbove w name) (λ r. ⊥) r
FormStop d (Behind v w) (forms.Retirement name) after r = NameStop (IsAbove w name) (λ r. ⊥) r
FormStop d (Behind v w) (forms.Floor name) after r = NameStop (HasFloors v × IsBehindOrigins w name) (λ r. ⊥) r
FormStop d (Behind v w) (forms.End count) after r = EndStop v w count after r
FormStop d (Behind v w) (forms.Digest digits) after r = ⊥
FormStop d (AtDigest w) (forms.Table len) after r = ⊥
FormStop d (AtDigest w) (forms.Content name len) after r = ⊥
FormStop d (AtDigest w) (forms.Dispute name) after r = ⊥
FormStop d (AtDigest w) (forms.Retirement name) after r = ⊥
FormStop d (AtDigest w) (forms.Floor name) after r = ⊥
FormStop d (AtDigest w) (forms.End count) after r = ⊥
FormStop d (AtDigest w) (forms.Digest digits) after r = SealStop d w digits after r

one_form_stop : (d : Declaration) (p : Place) (f : Form) (after : List ℕ) (r s : Outcome) → FormStop d p f after r
    → FormStop d p f after s → r ≡ s
one_form_stop d (AtTable v) (forms.Table len) after r s x y = one_body len after (IsOtherTable d) r s (one_table d) x y
one_form_stop d (AtTable v) (forms.Content name len) after r s x y = absurd x
one_form_stop d (AtTable v) (forms.Dispute name) after r s x y = absurd x
one_form_stop d (AtTable v) (forms.Retirement name) after r s x y = absurd x
one_form_stop d (AtTable v) (forms.Floor name) after r s x y = absurd x
one_form_stop d (AtTable v) (forms.End count) after r s x y = absurd x
one_form_stop d (AtTable v) (forms.Digest digits) after r s x y = absurd x
one_form_stop d (Behind v w) (forms.Table len) after r s x y = absurd x
one_form_stop d (Behind v w) (forms.Content name len) after r s x y =
    one_name (IsAbove w name) (BodyStop len after (IsRefused d)) r s (one_body len after (IsRefused d) r s (one_refusal d)) x y
one_form_stop d (Behind v w) (forms.Dispute name) after r s x y = one_name (IsAbove w name) (λ r. ⊥) r s (λ a b. absurd a) x y
one_form_stop d (Behind v w) (forms.Retirement name) after r s x y = one_name (IsAbove w name) (λ r. ⊥) r s (λ a b. absurd a) x y
one_form_stop d (Behind v w) (forms.Floor name) after r s x y = one_name (HasFloors v × IsBehindOrigins w name) (λ r. ⊥) r s
    (λ a b. absurd a) x y
one_form_stop d (Behind v w) (forms.End count) after r s x y = one_end v w count after r s x y
one_form_stop d (Behind v w) (forms.Digest digits) after r s x y = absurd x
one_form_stop d (AtDigest w) (forms.Table len) after r s x y = absurd x
one_form_stop d (AtDigest w) (forms.Content name len) after r s x y = absurd x
one_form_stop d (AtDigest w) (forms.Dispute name) after r s x y = absurd x
one_form_stop d (AtDigest w) (forms.Retirement name) after r s x y = absurd x
one_form_stop d (AtDigest w) (forms.Floor name) after r s x y = absurd x
one_form_stop d (AtDigest w) (forms.End count) after r s x y = absurd x
one_form_stop d (AtDigest w) (forms.Digest digits) after r s x y = one_seal d w digits after r s x y

-- what stands at a place has no line feed, or a line that may not stand there, or one at which reading stops
data Stop (d : Declaration) (p : Place) (rest : List ℕ) (r : Outcome) : Type 0 where
  cut_line : Lacks 10 rest → r ≡ Err faults.Truncated → Stop d p rest r
  bad_line : (line after : List ℕ) → Lacks 10 line → rest ≡ line ++ (10 ∷ after) → ((f : Form) → IsForm f → MayStand p f
      → line ≢ line_of f) → r ≡ Err faults.OtherFormat → Stop d p rest r
  at_form : (f : Form) (after : List ℕ) → IsForm f → MayStand p f → rest ≡ line_of f ++ (10 ∷ after)
      → FormStop d p f after r → Stop d p rest r

-- a line that may stand there does
no_bad_line : (p : Place) (f : Form) (line after more : List ℕ) → IsForm f → MayStand p f → Lacks 10 line
    → line ++ (10 ∷ after) ≡ line_of f ++ (10 ∷ more) → ((f : Form) → IsForm f → MayStand p f → line ≢ line_of f) → ⊥
no_bad_line p f line after more form may lacks e none =
    none f form may (cut_once 10 line (line_of f) after more lacks (line_lacks f form) e).0

one_stop : (d : Declaration) (p : Place) (rest : List ℕ) (r s : Outcome) → Stop d p rest r → Stop d p rest s → r ≡ s
one_stop d p rest r s (cut_line h e) (cut_line k f) = e ∙ sym f
one_stop d p rest r s (cut_line h e) (bad_line m after l i none f) = absurd (no_cut 10 rest m after h i)
one_stop d p rest r s (cut_line h e) (at_form g after form may i y) = absurd (no_cut 10 rest (line_of g) after h i)
one_stop d p rest r s (bad_line m after l i none e) (cut_line k f) = absurd (no_cut 10 rest m after k i)
one_stop d p rest r s (bad_line m after l i none e) (bad_line n more j k never f) = e ∙ sym f
one_stop d p rest r s (bad_line m after l i none e) (at_form g more form may j y) =
    absurd (no_bad_line p g m after more form may l (sym i ∙ j) none)
one_stop d p rest r s (at_form f after form may i x) (cut_line k e) = absurd (no_cut 10 rest (line_of f) after k i)
one_stop d p rest r s (at_form f after form may i x) (bad_line m more l j none e) =
    absurd (no_bad_line p f m more after form may l (sym j ∙ i) none)
one_stop d p rest r s (at_form f after form may i x) (at_form g more also can j y) =
    let same = cut f g after more form also (sym i ∙ j) in
    one_form_stop d p g more r s (subst (λ l. FormStop d p g l r) same.1 (subst (λ h. FormStop d p h after r) same.0 x)) y

-- ---- what is good goes on

-- the line that stands there is good, and so is what belongs to it
record Good (d : Declaration) (p : Place) (rest : List ℕ) : Type 0 where
  form : Form
  after : List ℕ
  is_form : IsForm form
  may : MayStand p form
  rest_is : rest ≡ line_of form ++ (10 ∷ after)
  none : (r : Outcome) → FormStop d p form after r → ⊥

no_stop : (d : Declaration) (p : Place) (rest : List ℕ) (r : Outcome) → Good d p rest → Stop d p rest r → ⊥
no_stop d p rest r good (cut_line h e) = no_cut 10 rest (line_of good.form) good.after h good.rest_is
no_stop d p rest r good (bad_line m after l i none e) = no_bad_line p good.form m after good.after good.is_form good.may l
    (sym i ∙ good.rest_is) none
no_stop d p rest r good (at_form f after form may i x) =
    let same = cut f good.form after good.after form good.is_form (sym i ∙ good.rest_is) in
    good.none r (subst (λ l. FormStop d p good.form l r) same.1 (subst (λ h. FormStop d p h after r) same.0 x))

table_first : (d : Declaration) (more : List ℕ) → table_text d ++ more ≡ line_of (forms.Table (length (declaration_text d)))
    ++ (10 ∷ (declaration_text d ++ (10 ∷ more)))
table_first d more =
    append_assoc (line_of (forms.Table (length (declaration_text d)))) (10 ∷ (declaration_text d ++ 10 ∷ [])) more
    ∙ ap (λ l. line_of (forms.Table (length (declaration_text d))) ++ (10 ∷ l)) (append_assoc (declaration_text d) (10 ∷ []) more)

good_table : (d : Declaration) (v : Version) (rest more : List ℕ) → IsDeclaration d → rest ≡ table_text d ++ more → Good d (AtTable v) rest
good_table d v rest more declared e =
    let text = declaration_text d in
    record {
      form = forms.Table (length text);
      after = text ++ (10 ∷ more);
      is_form = record { fits = omega (arith, declared.spelled.short) };
      may = tt;
      rest_is = e ∙ table_first d more;
      none = λ r x. (whole_body (length text) (text ++ (10 ∷ more)) text more (IsOtherTable d) r refl refl x).0 refl;
    }

not_refused : (d : Declaration) (content : List ℕ) (r : Outcome) → IsOk (rows_of d content) → IsRefused d content r → ⊥
not_refused d content r ok x = let wrong : false ≡ true = rw x.refused at ok in cc

record_may : (v : Version) (w : View) (e : NameParts × Known) → HasRecord v e → MayStand (Behind v w) (record_form e)
record_may v w (n, Live bytes) h = tt
record_may v w (n, Disputed) h = tt
record_may v w (n, Retired) h = tt
record_may v w (n, Floor) h = h

-- an entry follows those of a view
abbrev FollowsAll : Version → View → (NameParts × Known) → Type 0
FollowsAll v w (n, Live bytes) = IsAbove w n
FollowsAll v w (n, Disputed) = IsAbove w n
FollowsAll v w (n, Retired) = IsAbove w n
FollowsAll v w (n, Floor) = HasFloors v × IsBehindOrigins w n

record_none : (d : Declaration) (v : Version) (w : View) (e : NameParts × Known) (more : List ℕ) (r : Outcome)
    → IsRecord d e → FollowsAll v w e → FormStop d (Behind v w) (record_form e) (record_rest e more) r → ⊥
record_none d v w (n, Live bytes) more r is up (low h e) = h up
record_none d v w (n, Live bytes) more r is up (above h x) =
    not_refused d bytes r is.1 (whole_body (length bytes) (bytes ++ (10 ∷ more)) bytes more (IsRefused d) r refl refl x)
record_none d v w (n, Disputed) more r is up (low h e) = h up
record_none d v w (n, Disputed) more r is up (above h x) = x
record_none d v w (n, Retired) more r is up (low h e) = h up
record_none d v w (n, Retired) more r is up (above h x) = x
record_none d v w (n, Floor) more r is up (low h e) = h up
record_none d v w (n, Floor) more r is up (above h x) = x

good_record : (d : Declaration) (v : Version) (w : View) (e : NameParts × Known) (rest more : List ℕ) → IsRecord d e
    → HasRecord v e → FollowsAll v w e → rest ≡ record_text e ++ more → Good d (Behind v w) rest
good_record d v w e rest more is has up i = record {
  form = record_form e;
  after = record_rest e more;
  is_form = record_is_form d e is;
  may = record_may v w e has;
  rest_is = i ∙ record_first e more;
  none = λ r x. record_none d v w e more r is up x;
}

-- in version 2 the right count is good
good_end : (d : Declaration) (v : Version) (w : View) (rest more : List ℕ) → v ≡ Two → IsView d w
    → rest ≡ end_text (length (entries w)) ++ more → Good d (Behind v w) rest
good_end d v w rest more two is i = record {
  form = forms.End (length (entries w));
  after = more;
  is_form = is.count;
  may = tt;
  rest_is = i ∙ append_assoc (line_of (forms.End (length (entries w)))) (10 ∷ []) more;
  none = λ r x. never r x;
}
  where
    not_one : One ≡ Two → ⊥
    not_one e = cc

    never : (r : Outcome) → EndStop v w (length (entries w)) more r → ⊥
    never r (other_count h e) = h refl
    never r (trailing o b rest h i e) = not_one (sym o ∙ two)
    never r (file o h i e) = not_one (sym o ∙ two)

-- ---- names

below_next : (x : NameParts) (ws : List (NameParts × Known)) (e : NameParts × Known) (es : List (NameParts × Known))
    → T (below_all name_cmp x (ws ++ e ∷ es)) → name_cmp x e.0 ≡ Less
below_next x [] e es h = less _ (first _ _ h)
below_next x (w ∷ ws) e es h = below_next x ws e es (second _ _ h)

all_below : (ws : List (NameParts × Known)) (e : NameParts × Known) (es : List (NameParts × Known))
    → T (is_sorted name_cmp (ws ++ e ∷ es)) → AreBelow e.0 ws
all_below [] e es h = tt
all_below (w ∷ ws) e es h = (below_next w.0 ws e es (first _ _ h), all_below ws e es (second _ _ h))

-- ---- two places of one file

-- both lists of records are one, or one of them goes on
data Meets (es fs : List (NameParts × Known)) (rest more : List ℕ) : Type 0 where
  same : es ≡ fs → rest ≡ more → Meets es fs rest more
  first_goes_on : (x : NameParts × Known) (left : List (NameParts × Known)) (further : List ℕ) → fs ≡ es ++ (x ∷ left)
      → rest ≡ record_text x ++ further → Meets es fs rest more
  second_goes_on : (x : NameParts × Known) (left : List (NameParts × Known)) (further : List ℕ) → es ≡ fs ++ (x ∷ left)
      → more ≡ record_text x ++ further → Meets es fs rest more

meets_behind : (x f : NameParts × Known) (es fs : List (NameParts × Known)) (rest more : List ℕ) → x ≡ f
    → Meets es fs rest more → Meets (x ∷ es) (f ∷ fs) rest more
meets_behind x f es fs rest more one (same e i) = same (λ t. one t ∷ e t) i
meets_behind x f es fs rest more one (first_goes_on y left further e i) = first_goes_on y left further (λ t. sym one t ∷ e t) i
meets_behind x f es fs rest more one (second_goes_on y left further e i) = second_goes_on y left further (λ t. one t ∷ e t) i

meets : (d : Declaration) (es fs : List (NameParts × Known)) (rest more : List ℕ) → AllByRecursion (IsRecord d) es
    → AllByRecursion (IsRecord d) fs → flat_map record_text es ++ rest ≡ flat_map record_text fs ++ more → Meets es fs rest more
meets d [] [] rest more h k e = same refl e
meets d [] (f ∷ fs) rest more h k e = first_goes_on f fs (flat_map record_text fs ++ more) refl
    (e ∙ append_assoc (record_text f) (flat_map record_text fs) more)
meets d (x ∷ es) [] rest more h k e = second_goes_on x es (flat_map record_text es ++ rest) refl
    (sym e ∙ append_assoc (record_text x) (flat_map record_text es) rest)
meets d (x ∷ es) (f ∷ fs) rest more h k e =
    let one = one_record d x f (flat_map record_text es ++ rest) (flat_map record_text fs ++ more) h.0 k.0
    (sym (append_assoc (record_text x) (flat_map record_text es) rest) ∙ e ∙ append_assoc (record_text f) (flat_map record_text fs) more) in
    meets_behind x f es fs rest more one.0 (meets d es fs rest more h.1 k.1 one.1)

all_right : (P : (NameParts × Known) → Type 0) (xs ys : List (NameParts × Known)) → AllByRecursion P (xs ++ ys) → AllByRecursion P ys
all_right P [] ys h = h
all_right P (x ∷ xs) ys h = all_right P xs ys h.1

-- behind a part of a view's records the next one is good
good_next : (d : Declaration) (v : Version) (u w : View) (x : NameParts × Known) (left : List (NameParts × Known))
    (rest further : List ℕ) → IsSettled w → AllByRecursion (IsRecord d) (entries w) → AllByRecursion (HasRecord v) (entries w)
    → entries w ≡ entries u ++ (x ∷ left) → rest ≡ record_text x ++ further → Good d (Behind v u) rest
good_next d v u w x left rest further s h t e i =
    let is = all_right (IsRecord d) (entries u) (x ∷ left) (subst (AllByRecursion (IsRecord d)) e h) in
    let has = all_right (HasRecord v) (entries u) (x ∷ left) (subst (AllByRecursion (HasRecord v)) e t) in
    let sorted = subst (λ l. T (is_sorted name_cmp l)) e (entries_sorted w) in
    good_record d v u x rest further is.0 has.0 (follows x e has.0 (all_below (entries u) x left sorted)) i
  where
    follows : (x : NameParts × Known) → entries w ≡ entries u ++ (x ∷ left) → HasRecord v x → AreBelow x.0 (entries u) → FollowsAll v u x
    follows (n, Live bytes) e has up = up
    follows (n, Disputed) e has up = up
    follows (n, Retired) e has up = up
    follows (n, Floor) e has up = (has, floor_next w (entries u) n left s e)

-- two places are one, or what stands at one of them is good
data Order (d : Declaration) (p q : Place) (rest more : List ℕ) : Type 0 where
  one : p ≡ q → rest ≡ more → Order d p q rest more
  before : Good d p rest → Order d p q rest more
  behind : Good d q more → Order d p q rest more

behind_table : (d : Declaration) (v : Version) (w : View) (rest : List ℕ)
    → begun v d (entries w) ++ rest ≡ head v ++ (table_text d ++ (flat_map record_text (entries w) ++ rest))
behind_table d v w rest = append_assoc (head v ++ table_text d) (flat_map record_text (entries w)) rest
    ∙ append_assoc (head v) (table_text d) (flat_map record_text (entries w) ++ rest)

behind_count : (d : Declaration) (w : View) (rest : List ℕ) → counted Two d (entries w) ++ rest
    ≡ head Two ++ (table_text d ++ (flat_map record_text (entries w) ++ (end_text (length (entries w)) ++ rest)))
behind_count d w rest = append_assoc (begun Two d (entries w)) (end_text (length (entries w))) rest
    ∙ behind_table d Two w (end_text (length (entries w)) ++ rest)

-- the version of a place, what stands behind the first line, and what stands behind the declaration where that was read
abbrev version_of : Place → Version
version_of (AtTable v) = v
version_of (Behind v w) = v
version_of (AtDigest w) = Two

behind_head : (d : Declaration) (p : Place) (bytes rest : List ℕ) → GoesOn d p bytes rest → (more : List ℕ)
    × (bytes ≡ head (version_of p) ++ more)
behind_head d (AtTable v) bytes rest g = (rest, g.bytes_are)
behind_head d (Behind v w) bytes rest g = (
  table_text d ++ (flat_map record_text (entries w) ++ rest),
  g.bytes_are
      ∙ behind_table d v w rest,
)
behind_head d (AtDigest w) bytes rest g =
    (table_text d ++ (flat_map record_text (entries w) ++ (end_text (length (entries w)) ++ rest)), g.bytes_are ∙ behind_count d w rest)

head_cut : (v w : Version) (xs ys bytes : List ℕ) → bytes ≡ head v ++ xs → bytes ≡ head w ++ ys → (v ≡ w) × (xs ≡ ys)
head_cut v w xs ys bytes e f =
    let same = one_version v w xs ys (sym e ∙ f) in
    (same, (same_front (head v) (head w) xs ys (ap (λ x. length (head x)) same) (sym e ∙ f)).1)

after_table : (d : Declaration) (xs ys : List ℕ) → table_text d ++ xs ≡ table_text d ++ ys → xs ≡ ys
after_table d xs ys e = (same_front (table_text d) (table_text d) xs ys refl e).1

all_records : (es : List (NameParts × Known)) → AllByRecursion (HasRecord Two) es
all_records [] = tt
all_records ((n, Live c) ∷ es) = (tt, all_records es)
all_records ((n, Disputed) ∷ es) = (tt, all_records es)
all_records ((n, Retired) ∷ es) = (tt, all_records es)
all_records ((n, Floor) ∷ es) = (tt, all_records es)

-- the records that a version has, that version has by another name
records_in : (v w : Version) (es : List (NameParts × Known)) → v ≡ w → AllByRecursion (HasRecord v) es → AllByRecursion (HasRecord w) es
records_in v w es e h = subst (λ x. AllByRecursion (HasRecord x) es) e h

order : (d : Declaration) (p q : Place) (bytes rest more : List ℕ) → IsDeclaration d → GoesOn d p bytes rest
    → GoesOn d q bytes more → Order d p q rest more
unfolding behind_head
order d (AtTable v) (AtTable w) bytes rest more declared g h =
    let c = head_cut v w rest more bytes g.bytes_are h.bytes_are in
    one (ap (λ x. AtTable x) c.0) c.1
order d (AtTable v) (Behind w x) bytes rest more declared g h =
    let b = behind_head d (Behind w x) bytes more h in
    before (good_table d v rest _ declared (head_cut v w rest b.0 bytes g.bytes_are b.1).1)
order d (AtTable v) (AtDigest x) bytes rest more declared g h =
    let b = behind_head d (AtDigest x) bytes more h in
    before (good_table d v rest _ declared (head_cut v Two rest b.0 bytes g.bytes_are b.1).1)
order d (Behind v x) (AtTable w) bytes rest more declared g h =
    let b = behind_head d (Behind v x) bytes rest g in
    behind (good_table d w more _ declared (head_cut w v more b.0 bytes h.bytes_are b.1).1)
order d (AtDigest x) (AtTable w) bytes rest more declared g h =
    let b = behind_head d (AtDigest x) bytes rest g in
    behind (good_table d w more _ declared (head_cut w Two more b.0 bytes h.bytes_are b.1).1)
order d (Behind v x) (Behind w y) bytes rest more declared g h =
    let b = behind_head d (Behind v x) bytes rest g in
    let c = behind_head d (Behind w y) bytes more h in
    let cut_off = head_cut v w b.0 c.0 bytes b.1 c.1 in
    of cut_off.0 (meets d (entries x) (entries y) rest more g.good.1 h.good.1 (after_table d _ _ cut_off.1))
  where
    of : v ≡ w → Meets (entries x) (entries y) rest more → Order d (Behind v x) (Behind w y) rest more
    of version (same e i) = one (λ t. Behind (version t) (same_entries_map x y e t)) i
    of version (first_goes_on z left further e i) =
        before (good_next d v x y z left rest further h.good.0 h.good.1 (records_in w v (entries y) (sym version) h.good.2) e i)
    of version (second_goes_on z left further e i) =
        behind (good_next d w y x z left more further g.good.0 g.good.1 (records_in v w (entries x) version g.good.2) e i)
order d (Behind v x) (AtDigest y) bytes rest more declared g h =
    let b = behind_head d (Behind v x) bytes rest g in
    let c = behind_head d (AtDigest y) bytes more h in
    let cut_off = head_cut v Two b.0 c.0 bytes b.1 c.1 in
    of cut_off.0 (meets d (entries x) (entries y) rest (end_text (length (entries y)) ++ more) g.good.1 h.good.records
    (after_table d _ _ cut_off.1))
  where
    of : v ≡ Two → Meets (entries x) (entries y) rest (end_text (length (entries y)) ++ more) → Order d (Behind v x) (AtDigest y) rest more
    of version (same e i) =
        let views = same_entries_map x y e in
        before (good_end d v x rest more version (subst (IsView d) (sym views) h.good)
        (i ∙ ap (λ w. end_text (length (entries w)) ++ more) (sym views)))
    of version (first_goes_on z left further e i) =
        before (good_next d v x y z left rest further h.good.settled h.good.records (records_in Two v (entries y) (sym version)
        (all_records (entries y))) e i)
    of version (second_goes_on z left further e i) = absurd (no_end z (length (entries y)) further more (sym i))
order d (AtDigest x) (Behind w y) bytes rest more declared g h =
    let b = behind_head d (AtDigest x) bytes rest g in
    let c = behind_head d (Behind w y) bytes more h in
    let cut_off = head_cut w Two c.0 b.0 bytes c.1 b.1 in
    of cut_off.0 (meets d (entries y) (entries x) more (end_text (length (entries x)) ++ rest) h.good.1 g.good.records
    (after_table d _ _ cut_off.1))
  where
    of : w ≡ Two → Meets (entries y) (entries x) more (end_text (length (entries x)) ++ rest) → Order d (AtDigest x) (Behind w y) rest more
    of version (same e i) =
        let views = same_entries_map y x e in
        behind (good_end d w y more rest version (subst (IsView d) (sym views) g.good)
        (i ∙ ap (λ v. end_text (length (entries v)) ++ rest) (sym views)))
    of version (first_goes_on z left further e i) =
        behind (good_next d w y x z left more further g.good.settled g.good.records (records_in Two w (entries x) (sym version)
        (all_records (entries x))) e i)
    of version (second_goes_on z left further e i) = absurd (no_end z (length (entries x)) further rest (sym i))
order d (AtDigest x) (AtDigest y) bytes rest more declared g h =
    let b = behind_head d (AtDigest x) bytes rest g in
    let c = behind_head d (AtDigest y) bytes more h in
    let cut_off = head_cut Two Two b.0 c.0 bytes b.1 c.1 in
    of (meets d (entries x) (entries y) (end_text (length (entries x)) ++ rest) (end_text (length (entries y)) ++ more)
    g.good.records h.good.records (after_table d _ _ cut_off.1))
  where
    of : Meets (entries x) (entries y) (end_text (length (entries x)) ++ rest) (end_text (length (entries y)) ++ more)
        → Order d (AtDigest x) (AtDigest y) rest more
    of (same e i) =
        let lines = ap (λ l. end_text (length l)) e in
        one (ap (λ v. AtDigest v) (same_entries_map x y e)) (same_front (end_text (length (entries x)))
        (end_text (length (entries y))) rest more (ap length lines) i).1
    of (first_goes_on z left further e i) = absurd (no_end z (length (entries x)) further rest (sym i))
    of (second_goes_on z left further e i) = absurd (no_end z (length (entries y)) further more (sym i))

-- ---- where a judgement stops

data Stops (d : Declaration) (bytes : List ℕ) (r : Outcome) : Type 0 where
  other_head : HasOtherHead bytes → r ≡ Err faults.OtherFormat → Stops d bytes r
  cut_head : IsCutHead bytes → r ≡ Err faults.Truncated → Stops d bytes r
  at_place : (p : Place) (rest : List ℕ) → GoesOn d p bytes rest → Stop d p rest r → Stops d bytes r

no_other_head : (d : Declaration) (p : Place) (bytes rest : List ℕ) → HasOtherHead bytes → GoesOn d p bytes rest → ⊥
no_other_head d p bytes rest h g = let b = behind_head d p bytes rest g in h.not_begun (version_of p) b.0 b.1

head_length : (v : Version) → length (head v) ≡ 5
head_length One = refl
head_length Two = refl

nothing : (xs : List ℕ) → length xs ≡ 0 → xs ≡ []
nothing [] e = refl
nothing (x ∷ xs) e = absurd (omega arith)

no_cut_head : (d : Declaration) (p : Place) (bytes rest : List ℕ) → IsCutHead bytes → GoesOn d p bytes rest → ⊥
no_cut_head d p bytes rest h g =
    let b = behind_head d p bytes rest g in
    h.some (nothing h.more (omega (
      arith,
      ap length h.head_is,
      length-append bytes h.more,
      ap length b.1,
      length-append (head (version_of p)) b.0,
      head_length h.version,
      head_length (version_of p),
    )))

one_place : (d : Declaration) (bytes : List ℕ) (r s : Outcome) → IsDeclaration d → Stops d bytes r → Stops d bytes s → r ≡ s
one_place d bytes r s declared (other_head h e) (other_head k f) = e ∙ sym f
one_place d bytes r s declared (other_head h e) (cut_head k f) = absurd (h.no_beginning k.version k.more k.head_is)
one_place d bytes r s declared (other_head h e) (at_place q more g y) = absurd (no_other_head d q bytes more h g)
one_place d bytes r s declared (cut_head h e) (other_head k f) = absurd (k.no_beginning h.version h.more h.head_is)
one_place d bytes r s declared (cut_head h e) (cut_head k f) = e ∙ sym f
one_place d bytes r s declared (cut_head h e) (at_place q more g y) = absurd (no_cut_head d q bytes more h g)
one_place d bytes r s declared (at_place p rest g x) (other_head k f) = absurd (no_other_head d p bytes rest k g)
one_place d bytes r s declared (at_place p rest g x) (cut_head k f) = absurd (no_cut_head d p bytes rest k g)
one_place d bytes r s declared (at_place p rest g x) (at_place q more h y) = of (order d p q bytes rest more declared g h)
  where
    of : Order d p q rest more → r ≡ s
    of (one e i) = one_stop d q more r s (subst (λ l. Stop d q l r) i (subst (λ o. Stop d o rest r) e x)) y
    of (before good) = absurd (no_stop d p rest r good x)
    of (behind good) = absurd (no_stop d q more s good y)

-- ---- each judgement stops so

may_stand : (p : Place) (f : Form) → Follows p f → MayStand p f
may_stand (AtTable v) (forms.Table len) h = tt
may_stand (AtTable v) (forms.Content name len) h = absurd h
may_stand (AtTable v) (forms.Dispute name) h = absurd h
may_stand (AtTable v) (forms.Retirement name) h = absurd h
may_stand (AtTable v) (forms.Floor name) h = absurd h
may_stand (AtTable v) (forms.End count) h = absurd h
may_stand (AtTable v) (forms.Digest digits) h = absurd h
may_stand (Behind v w) (forms.Table len) h = absurd h
may_stand (Behind v w) (forms.Content name len) h = tt
may_stand (Behind v w) (forms.Dispute name) h = tt
may_stand (Behind v w) (forms.Retirement name) h = tt
may_stand (Behind v w) (forms.Floor name) h = h.0
may_stand (Behind v w) (forms.End count) h = tt
may_stand (Behind v w) (forms.Digest digits) h = absurd h
may_stand (AtDigest w) (forms.Table len) h = absurd h
may_stand (AtDigest w) (forms.Content name len) h = absurd h
may_stand (AtDigest w) (forms.Dispute name) h = absurd h
may_stand (AtDigest w) (forms.Retirement name) h = absurd h
may_stand (AtDigest w) (forms.Floor name) h = absurd h
may_stand (AtDigest w) (forms.End count) h = absurd h
may_stand (AtDigest w) (forms.Digest digits) h = tt

no_length : (len : ℕ) → None ≡ Some len → ⊥
no_length len e = cc

one_length : (m n : ℕ) → Some m ≡ Some n → n ≡ m
one_length m n e = cc

body_stop : (d : Declaration) (p : Place) (f : Form) (after : List ℕ) (len : ℕ) (r : Outcome) → Follows p f
    → body_length f ≡ Some len → ((Has : List ℕ → Outcome → Type 0) → BodyStop len after Has r) → FormStop d p f after r
body_stop d (AtTable v) (forms.Table n) after len r h e stop =
    subst (λ k. BodyStop k after (IsOtherTable d) r) (one_length n len e) (stop (IsOtherTable d))
body_stop d (AtTable v) (forms.Content name n) after len r h e stop = absurd h
body_stop d (AtTable v) (forms.Dispute name) after len r h e stop = absurd h
body_stop d (AtTable v) (forms.Retirement name) after len r h e stop = absurd h
body_stop d (AtTable v) (forms.Floor name) after len r h e stop = absurd h
body_stop d (AtTable v) (forms.End count) after len r h e stop = absurd h
body_stop d (AtTable v) (forms.Digest digits) after len r h e stop = absurd h
body_stop d (Behind v w) (forms.Table n) after len r h e stop = absurd h
body_stop d (Behind v w) (forms.Content name n) after len r h e stop =
    above h (subst (λ k. BodyStop k after (IsRefused d) r) (one_length n len e) (stop (IsRefused d)))
body_stop d (Behind v w) (forms.Dispute name) after len r h e stop = absurd (no_length len e)
body_stop d (Behind v w) (forms.Retirement name) after len r h e stop = absurd (no_length len e)
body_stop d (Behind v w) (forms.Floor name) after len r h e stop = absurd (no_length len e)
body_stop d (Behind v w) (forms.End count) after len r h e stop = absurd (no_length len e)
body_stop d (Behind v w) (forms.Digest digits) after len r h e stop = absurd h
body_stop d (AtDigest w) (forms.Table n) after len r h e stop = absurd h
body_stop d (AtDigest w) (forms.Content name n) after len r h e stop = absurd h
body_stop d (AtDigest w) (forms.Dispute name) after len r h e stop = absurd h
body_stop d (AtDigest w) (forms.Retirement name) after len r h e stop = absurd h
body_stop d (AtDigest w) (forms.Floor name) after len r h e stop = absurd h
body_stop d (AtDigest w) (forms.End count) after len r h e stop = absurd h
body_stop d (AtDigest w) (forms.Digest digits) after len r h e stop = absurd (no_length len e)

at_body : (d : Declaration) (p : Place) (f : Form) (bytes after : List ℕ) (len : ℕ) (r : Outcome) → Stands d p f bytes after
    → body_length f ≡ Some len → ((Has : List ℕ → Outcome → Type 0) → BodyStop len after Has r) → Stops d bytes r
at_body d p f bytes after len r s e stop =
    at_place p (line_of f ++ (10 ∷ after)) s.goes_on (at_form f after s.form (may_stand p f s.follows) refl
    (body_stop d p f after len r s.follows e stop))

no_name : (n : NameParts) → None ≡ Some n → ⊥
no_name n e = cc

one_some : (m n : NameParts) → Some m ≡ Some n → n ≡ m
one_some m n e = cc

low_stop : (d : Declaration) (bytes : List ℕ) (f : Form) (h : HasLowName d bytes) → f ≡ h.form
    → Stop d (Behind h.version h.view) (line_of h.form ++ (10 ∷ h.after)) (Err faults.NotRising)
low_stop d bytes (forms.Table len) h e = absurd (no_name h.name (ap record_name e ∙ h.name_is))
low_stop d bytes (forms.Content name len) h e = at_form (forms.Content name len) h.after (subst IsForm (sym e) h.is_form)
    (subst (MayStand (Behind h.version h.view)) (sym e) h.may) (ap (λ f. line_of f ++ (10 ∷ h.after)) (sym e))
    (low (subst (λ f. ¬ (Follows (Behind h.version h.view) f)) (sym e) h.low) refl)
low_stop d bytes (forms.Dispute name) h e = at_form (forms.Dispute name) h.after (subst IsForm (sym e) h.is_form)
    (subst (MayStand (Behind h.version h.view)) (sym e) h.may) (ap (λ f. line_of f ++ (10 ∷ h.after)) (sym e))
    (low (subst (λ f. ¬ (Follows (Behind h.version h.view) f)) (sym e) h.low) refl)
low_stop d bytes (forms.Retirement name) h e = at_form (forms.Retirement name) h.after (subst IsForm (sym e) h.is_form)
    (subst (MayStand (Behind h.version h.view)) (sym e) h.may) (ap (λ f. line_of f ++ (10 ∷ h.after)) (sym e))
    (low (subst (λ f. ¬ (Follows (Behind h.version h.view) f)) (sym e) h.low) refl)
low_stop d bytes (forms.Floor name) h e = at_form (forms.Floor name) h.after (subst IsForm (sym e) h.is_form)
    (subst (MayStand (Behind h.version h.view)) (sym e) h.may) (ap (λ f. line_of f ++ (10 ∷ h.after)) (sym e))
    (low (subst (λ f. ¬ (Follows (Behind h.version h.view) f)) (sym e) h.low) refl)
low_stop d bytes (forms.End count) h e = absurd (no_name h.name (ap record_name e ∙ h.name_is))
low_stop d bytes (forms.Digest digits) h e = absurd (no_name h.name (ap record_name e ∙ h.name_is))

digest_is : (bytes : List ℕ) → IsForm (forms.Digest (digest_of bytes))
digest_is bytes = digest_spelled bytes

-- behind the records of a view stands the line of their count, and in version 2 behind that the line of the digest
text_stop : (d : Declaration) (v : Version) (w : View) (bytes after : List ℕ) (r : Outcome) → IsView d w → HasRecords v w
    → bytes ≡ text_of v d w ++ after → (v ≡ One → EndStop One w (length (entries w)) after r)
    → (v ≡ Two → SealStop d w (digest_of (counted Two d (entries w))) after r) → Stops d bytes r
text_stop d One w bytes after r is may e stop other =
    let count = length (entries w) in
    at_place (Behind One w) (line_of (forms.End count) ++ (10 ∷ after))
    (record {
      good = (is.settled, is.records, may);
      bytes_are = e ∙ ap (λ l. l ++ after) (append-nil (counted One d (entries w))) ∙ append_assoc (begun One d (entries w))
          (end_text count) after ∙ ap (λ l. begun One d (entries w) ++ l) (append_assoc (line_of (forms.End count)) (10 ∷ []) after);
    })
    (at_form (forms.End count) after is.count tt refl (stop refl))
text_stop d Two w bytes after r is may e other stop =
    let text = counted Two d (entries w) in
    at_place (AtDigest w) (line_of (forms.Digest (digest_of text)) ++ (10 ∷ after))
    (record {
      good = is;
      bytes_are = e ∙ append_assoc text (digest_text text) after
          ∙ ap (λ l. text ++ l) (append_assoc (line_of (forms.Digest (digest_of text))) (10 ∷ []) after);
    })
    (at_form (forms.Digest (digest_of text)) after (digest_is text) tt refl (stop refl))

stops : (d : Declaration) (bytes : List ℕ) (r : Outcome) → Judges d bytes r → r ≢ Err faults.NoMemory → Stops d bytes r
stops d bytes (Ok v) j some = text_stop d j.version v bytes [] (Ok v) j.is_view j.may (j.bytes_are
    ∙ sym (append-nil (text_of j.version d v))) (λ o. file refl refl refl refl) (λ o. sealed_file refl refl refl)
stops d bytes (Err faults.OtherFormat) (inl h) some = other_head h refl
stops d bytes (Err faults.OtherFormat) (inr (inl h)) some = at_place h.place (h.line ++ (10 ∷ h.after)) h.goes_on
    (bad_line h.line h.after h.lacks refl h.none refl)
stops d bytes (Err faults.OtherFormat) (inr (inr h)) some =
    at_body d h.place h.form bytes h.after h.len (Err faults.OtherFormat) h.stands h.length_is (λ Has. unfed h.unfed refl)
stops d bytes (Err faults.Truncated) (inl h) some = cut_head h refl
stops d bytes (Err faults.Truncated) (inr (inl h)) some = at_place h.place h.rest h.goes_on (cut_line h.lacks refl)
stops d bytes (Err faults.Truncated) (inr (inr h)) some =
    at_body d h.place h.form bytes h.after h.len (Err faults.Truncated) h.stands h.length_is (λ Has. short h.short refl)
stops d bytes (Err faults.NotRising) h some = at_place (Behind h.version h.view) (line_of h.form ++ (10 ∷ h.after))
    h.goes_on (low_stop d bytes h.form h refl)
stops d bytes (Err faults.OtherCount) h some =
    at_place (Behind h.version h.view) (line_of (forms.End h.count) ++ (10 ∷ h.after)) h.stands.goes_on
    (at_form (forms.End h.count) h.after h.stands.form tt refl (other_count h.other refl))
stops d bytes (Err faults.OtherSchema) h some =
    at_place (AtTable h.version) _ h.stands.goes_on (at_form (forms.Table (length h.table)) (h.table ++ (10 ∷ h.after))
    h.stands.form tt refl (whole h.table h.after refl refl (h.other, refl)))
stops d bytes (Err (faults.Segment fault)) h some =
    at_place (Behind h.version h.view) _ h.stands.goes_on (at_form (forms.Content h.name (length h.content))
    (h.content ++ (10 ∷ h.after)) h.stands.form tt refl
    (above h.stands.follows (whole h.content h.after refl refl (record { fault = fault; refused = h.refused; is = refl }))))
stops d bytes (Err faults.Trailing) h some = text_stop d h.version h.view bytes (h.byte ∷ h.more) (Err faults.Trailing)
    h.is_view h.may h.bytes_are (λ o. trailing refl h.byte h.more refl refl refl) (λ o. sealed_more h.byte h.more refl refl refl)
stops d bytes (Err faults.OtherDigest) h some =
    at_place (AtDigest h.view) _ h.stands.goes_on (at_form (forms.Digest h.digits) h.after h.stands.form tt refl
    (other_digest h.other refl))
stops d bytes (Err faults.NoMemory) h some = absurd (some refl)

-- ---- the laws

pub one_judgement : OneJudgement
one_judgement d bytes a b declared j k some also = one_place d bytes a b declared (stops d bytes a j some) (stops d bytes b k also)

-- the file of a view is judged to be that view
pub own_judgement : OwnJudgement
own_judgement d v judged declared is j some = one_judgement d (file_of d v) judged (Ok v) declared j (record {
  is_view = is;
  version = Two;
  may = all_records (entries v);
  bytes_are = refl;
}) some (λ e. never v e)
  where
    never : (v : View) → Ok v ≡ Err faults.NoMemory → ⊥
    never v e = cc
