-- The faults of a file, by what was read last.
use Rattle.std.proofs.Common.{◌≡◌, ◌≢◌, nat_eq, take, drop, take-append-drop, ℕ, ◌<◌, ◌≤◌, Bool, true}
use Rattle.std.proofs.Common.{false, List, [], ◌∷◌, ◌++◌, length, Some, None, Err, IsOk, inl, inr, refl}
use Rattle.std.proofs.Common.{sym, ap, ◌∙◌, subst, arith, append_assoc, append-nil, length-append}
use Rattle.std.proofs.lemmas.List.{take-append-le, take_all}
use Rattle.std.specs.List.{flat_map, starts_with, AllByRecursion}
use Rattle.std.specs.Cmp.Lexicographic.{bytes_decides}
use Rattle.std.specs.FinMap.{entries}
use Rattle.std.specs.FinMap as FinMap
use Rattle.wvalues.specs.Names.{NameParts, IsName, name_cmp}
use Rattle.wsegment.specs.Declaration.{Declaration, declaration_text}
use Rattle.wsegment.specs.Rows.{rows_of}
use Rattle.wsegment.specs.Outcome.{Fails}
use Rattle.wsegment.specs.declared.fault.SegmentFault.{SegmentFault}
use Rattle.wsegment.specs.declared.fault.SegmentFault.TheVariants as segments
use Rattle.wentries.specs.Knowledge.{Known, Live, Disputed, Retired, Floor}
use Rattle.wset.specs.Views.{View, IsSettled, join}
use Rattle.wset.specs.Items.{SegmentItem, RetirementItem, FloorItem, view_of_item}
use Rattle.wset.specs.Lending.{IsAbove, IsBehindOrigins, only_disputed}
use Rattle.wset.proofs.Joining.{join_laws}
use Rattle.wset.proofs.Later.{take_later, retire_later, dispute_later, floor_later}
use Rattle.wrecords.specs.Forms.{IsForm, IsNumber, IsDigest, line_of}
use Rattle.wrecords.specs.Cuts.{IsUnfed}
use Rattle.wexchange.specs.Files.{head, begun, counted, digest_of, digest_text, end_text, table_text}
use Rattle.wexchange.specs.Files.{record_text, IsRecord, IsView, HasRecords, HasRecord}
use Rattle.wexchange.specs.Judging.{HasOtherHead, IsCutHead, GoesOn, AtDigest, AtTable, Behind, Place, Follows, MayStand}
use Rattle.wexchange.specs.Judging.{body_length, record_name, IsFault, HasOtherTable, HasBadSegment, HasTable}
use Rattle.wexchange.specs.Steps.{Adds, Spoils, file_fault}
use Rattle.wexchange.specs.declared.fault.FileFault.TheVariants as faults
use Rattle.wrecords.specs.declared.form.Form.{Form}
use Rattle.wrecords.specs.declared.form.Form.TheVariants as forms
use Rattle.wexchange.specs.declared.version.Version.{Version}
use Rattle.wexchange.specs.declared.version.Version.TheVariants.{One, Two}
use Rattle.wrecords.proofs.Words.{line_lacks}
use Rattle.wrecords.proofs.Shapes.{one_form}

pub cut_body_fault : (d : Declaration) (p : Place) (f : Form) (bytes after : List ℕ) (len : ℕ) → IsForm f → Follows p f
    → body_length f ≡ Some len → GoesOn d p bytes (line_of f ++ (10 ∷ after)) → length after ≤ len → IsFault d bytes faults.Truncated
cut_body_fault d p f bytes after len form follows is g short =
    inr (inr (record {
      place = p;
      form = f;
      after = after;
      len = len;
      stands = record {
        form = form;
        follows = follows;
        goes_on = g;
      };
      length_is = is;
      short = short;
    }))

pub unfed_fault : (d : Declaration) (p : Place) (f : Form) (bytes after : List ℕ) (len : ℕ) → IsForm f → Follows p f
    → body_length f ≡ Some len → GoesOn d p bytes (line_of f ++ (10 ∷ after)) → IsUnfed len after → IsFault d bytes faults.OtherFormat
unfed_fault d p f bytes after len form follows is g unfed =
    inr (inr (record {
      place = p;
      form = f;
      after = after;
      len = len;
      stands = record {
        form = form;
        follows = follows;
        goes_on = g;
      };
      length_is = is;
      unfed = unfed;
    }))

-- a line that may not stand there
pub no_place : (d : Declaration) (p : Place) (f : Form) (bytes after : List ℕ) → IsForm f → (MayStand p f → ⊥)
    → GoesOn d p bytes (line_of f ++ (10 ∷ after)) → IsFault d bytes faults.OtherFormat
no_place d p f bytes after form never g =
    inr (inl (record {
      place = p;
      line = line_of f;
      after = after;
      lacks = line_lacks f form;
      goes_on = g;
      none = λ h k may e. never (subst (MayStand p) (sym (one_form f h form k e)) may);
    }))

pub low_name : (r : Version) (d : Declaration) (v : View) (f : Form) (n : NameParts) (after : List ℕ) → IsForm f
    → MayStand (Behind r v) f → record_name f ≡ Some n → ¬ (Follows (Behind r v) f)
    → Spoils r d v (line_of f ++ (10 ∷ after)) faults.NotRising
low_name r d v f n after form may is low bytes g = record {
  version = r;
  view = v;
  form = f;
  name = n;
  after = after;
  is_form = form;
  may = may;
  name_is = is;
  low = low;
  goes_on = g;
}

-- what is read behind the declaration stands behind it
behind_table : (r : Version) (d : Declaration) (v : View) (bytes rest : List ℕ) → GoesOn d (Behind r v) bytes rest → HasTable d bytes
behind_table r d v bytes rest g = record {
  version = r;
  rest = flat_map record_text (entries v) ++ rest;
  bytes_are = g.bytes_are ∙ append_assoc (head r ++ table_text d) (flat_map record_text (entries v)) rest;
}

pub lacks_memory : (r : Version) (d : Declaration) (v : View) (rest : List ℕ) → Spoils r d v rest faults.NoMemory
lacks_memory r d v rest bytes g = behind_table r d v bytes rest g

pub file_refused : (r : Version) (d : Declaration) (v : View) (n : NameParts) (len : ℕ) (content more after : List ℕ)
    (fault : SegmentFault) → IsName n → IsNumber len → IsAbove v n → after ≡ content ++ (10 ∷ more) → length content ≡ len
    → Fails fault (rows_of d content) → Spoils r d v (line_of (forms.Content n len) ++ (10 ∷ after)) (file_fault fault)
file_refused r d v n len content more after fault name number above is size (inl e) bytes g =
    subst (λ f. IsFault d bytes (file_fault f)) (sym e) (behind_table r d v bytes _ g)
file_refused r d v n len content more after fault name number above is size (inr w) bytes g = by fault w
  where
    bad : (f : SegmentFault) → rows_of d content ≡ Err f → HasBadSegment d bytes f
    bad f w = record {
      version = r;
      view = v;
      name = n;
      content = content;
      after = more;
      stands = record {
        form = (name, subst IsNumber (sym size) number);
        follows = above;
        goes_on = record {
          good = g.good;
          bytes_are =
              g.bytes_are ∙ ap (λ l. begun r d (entries v) ++ (line_of (forms.Content n len) ++ (10 ∷ l))) is
              ∙ ap (λ k. begun r d (entries v) ++ (line_of (forms.Content n k) ++ (10 ∷ (content ++ (10 ∷ more))))) (sym size);
        };
      };
      refused = w;
    }

    by : (f : SegmentFault) → rows_of d content ≡ Err f → IsFault d bytes (file_fault f)
    by segments.TooLong w = bad segments.TooLong w
    by segments.NoHeader w = bad segments.NoHeader w
    by segments.HeaderNotUtf8 w = bad segments.HeaderNotUtf8 w
    by (segments.RowNotUtf8 row) w = bad (segments.RowNotUtf8 row) w
    by segments.UnknownColumn w = bad segments.UnknownColumn w
    by segments.RepeatedColumn w = bad segments.RepeatedColumn w
    by segments.MissingColumn w = bad segments.MissingColumn w
    by (segments.RowLength row) w = bad (segments.RowLength row) w
    by (segments.NotInteger row) w = bad (segments.NotInteger row) w
    by segments.TooManyRows w = bad segments.TooManyRows w
    by segments.NoMemory w = behind_table r d v bytes _ g

-- ---- what was added

pub adds_content : (r : Version) (d : Declaration) (v new : View) (n : NameParts) (len : ℕ) (content more after : List ℕ)
    → IsName n → IsNumber len → IsSettled v → IsAbove v n → after ≡ content ++ (10 ∷ more) → length content ≡ len
    → IsOk (rows_of d content) → new ≡ join v (view_of_item (SegmentItem n content))
    → Adds r d v (line_of (forms.Content n len) ++ (10 ∷ after)) new more
adds_content r d v new n len content more after name number s above is size ok e = record {
  entry = (n, Live content);
  is = (name, ok, subst IsNumber (sym size) number);
  has_record = tt;
  rest_is =
      ap (λ k. line_of (forms.Content n k) ++ (10 ∷ after)) (sym size)
      ∙ ap (λ l. line_of (forms.Content n (length content)) ++ (10 ∷ l)) (is ∙ sym (append_assoc content (10 ∷ []) more))
      ∙ sym (append_assoc (line_of (forms.Content n (length content))) (10 ∷ (content ++ 10 ∷ [])) more);
  added = ap entries e ∙ take_later v n content s above;
  settled = subst IsSettled (sym e) (join_laws.settled v (view_of_item (SegmentItem n content)));
}

pub adds_dispute : (r : Version) (d : Declaration) (v new : View) (n : NameParts) (after : List ℕ) → IsName n → IsSettled v
    → IsAbove v n → new ≡ join v (only_disputed n) → Adds r d v (line_of (forms.Dispute n) ++ (10 ∷ after)) new after
adds_dispute r d v new n after name s above e = record {
  entry = (n, Disputed);
  is = name;
  has_record = tt;
  rest_is = sym (append_assoc (line_of (forms.Dispute n)) (10 ∷ []) after);
  added = ap entries e ∙ dispute_later v n s above;
  settled = subst IsSettled (sym e) (join_laws.settled v (only_disputed n));
}

pub adds_retirement : (r : Version) (d : Declaration) (v new : View) (n : NameParts) (after : List ℕ) → IsName n
    → IsSettled v → IsAbove v n → new ≡ join v (view_of_item (RetirementItem n))
    → Adds r d v (line_of (forms.Retirement n) ++ (10 ∷ after)) new after
adds_retirement r d v new n after name s above e = record {
  entry = (n, Retired);
  is = name;
  has_record = tt;
  rest_is = sym (append_assoc (line_of (forms.Retirement n)) (10 ∷ []) after);
  added = ap entries e ∙ retire_later v n s above;
  settled = subst IsSettled (sym e) (join_laws.settled v (view_of_item (RetirementItem n)));
}

pub adds_floor : (d : Declaration) (v new : View) (n : NameParts) (after : List ℕ) → IsName n → IsSettled v
    → IsBehindOrigins v n → new ≡ join v (view_of_item (FloorItem n)) → Adds Two d v (line_of (forms.Floor n) ++ (10 ∷ after)) new after
adds_floor d v new n after name s above e = record {
  entry = (n, Floor);
  is = name;
  has_record = tt;
  rest_is = sym (append_assoc (line_of (forms.Floor n)) (10 ∷ []) after);
  added = ap entries e ∙ floor_later v n s above;
  settled = subst IsSettled (sym e) (join_laws.settled v (view_of_item (FloorItem n)));
}

-- ---- the first line

-- bytes that are a front of a first line, and are not begun by it
pub cut_head : (r : Version) (bytes : List ℕ) (b : Bool) → ((rest : List ℕ) → bytes ≢ head r ++ rest)
    → b ≡ starts_with nat_eq (head r) bytes → b ≡ true → IsCutHead bytes
cut_head r bytes b other second same_front =
    let front : bytes ≡ take (length bytes) (head r) = (bytes_decides bytes (take (length bytes) (head r))).0 (sym second ∙ same_front) in
    let whole : head r ≡ bytes ++ drop (length bytes) (head r) = sym (take-append-drop (length bytes) (head r))
    ∙ ap (λ l. l ++ drop (length bytes) (head r)) (sym front) in
    record {
      version = r;
      more = drop (length bytes) (head r);
      some = λ nothing. other [] (sym (append-nil bytes) ∙ ap (λ l. bytes ++ l) (sym nothing) ∙ sym whole ∙ sym (append-nil (head r)));
      head_is = whole;
    }

same_start : (xs ys : List ℕ) → starts_with nat_eq (xs ++ ys) xs ≡ true
same_start xs ys = (bytes_decides xs (take (length xs) (xs ++ ys))).1 (sym (take-append-le (length xs) xs ys (omega arith)
    ∙ take_all (length xs) xs (omega arith)))

-- bytes that are no front of a first line
pub no_front : (r : Version) (bytes : List ℕ) (b : Bool) → b ≡ starts_with nat_eq (head r) bytes → b ≡ false
    → (more : List ℕ) → head r ≢ bytes ++ more
no_front r bytes b is isnt more e =
    let u : true ≡ false = sym (same_start bytes more) ∙ ap (λ l. starts_with nat_eq l bytes) (sym e) ∙ sym is ∙ isnt in
    cc

-- neither begun by a first line, nor a front of one
pub other_head : (bytes : List ℕ) → ((rest : List ℕ) → bytes ≢ head One ++ rest)
    → ((rest : List ℕ) → bytes ≢ head Two ++ rest) → ((more : List ℕ) → head One ≢ bytes ++ more)
    → ((more : List ℕ) → head Two ≢ bytes ++ more) → HasOtherHead bytes
other_head bytes a b c e = record { not_begun = begun_by; no_beginning = front_of }
  where
    begun_by : (r : Version) (rest : List ℕ) → bytes ≢ head r ++ rest
    begun_by One = a
    begun_by Two = b

    front_of : (r : Version) (more : List ℕ) → head r ≢ bytes ++ more
    front_of One = c
    front_of Two = e

-- ---- the declaration

pub table_found : (d : Declaration) (len : ℕ) (table after more : List ℕ) → after ≡ table ++ (10 ∷ more)
    → length table ≡ len → table ≡ declaration_text d → line_of (forms.Table len) ++ (10 ∷ after) ≡ table_text d ++ more
table_found d len table after more is size same =
    let number : len ≡ length (declaration_text d) = sym size ∙ ap length same in
    ap (λ k. line_of (forms.Table k) ++ (10 ∷ after)) number
    ∙ ap (λ l. line_of (forms.Table (length (declaration_text d))) ++ (10 ∷ l)) (is ∙ ap (λ l. l ++ (10 ∷ more)) same
    ∙ sym (append_assoc (declaration_text d) (10 ∷ []) more))
    ∙ sym (append_assoc (line_of (forms.Table (length (declaration_text d)))) (10 ∷ (declaration_text d ++ 10 ∷ [])) more)

pub other_table : (r : Version) (d : Declaration) (len : ℕ) (table after more bytes : List ℕ) → after ≡ table ++ (10 ∷ more)
    → length table ≡ len → table ≢ declaration_text d → IsNumber len
    → GoesOn d (AtTable r) bytes (line_of (forms.Table len) ++ (10 ∷ after)) → HasOtherTable d bytes
other_table r d len table after more bytes is size other number g = record {
  version = r;
  table = table;
  after = more;
  stands = record {
    form = subst IsNumber (sym size) number;
    follows = tt;
    goes_on = record {
      good = tt;
      bytes_are = g.bytes_are ∙ ap (λ k. head r ++ (line_of (forms.Table k) ++ (10 ∷ after)))
          (sym size) ∙ ap (λ l. head r ++ (line_of (forms.Table (length table)) ++ (10 ∷ l))) is;
    };
  };
  other = other;
}

pub head_goes_on : (r : Version) (d : Declaration) (bytes rest : List ℕ) → bytes ≡ head r ++ rest → GoesOn d (AtTable r) bytes rest
head_goes_on r d bytes rest e = record { good = tt; bytes_are = e }

-- ---- the digest

pub digest_goes_on : (d : Declaration) (v : View) (front after bytes : List ℕ) → IsView d v
    → front ≡ counted Two d (entries v) → bytes ≡ front ++ after → GoesOn d (AtDigest v) bytes after
digest_goes_on d v front after bytes is same e = record { good = is; bytes_are = e ∙ ap (λ l. l ++ after) same }

pub other_digest : (d : Declaration) (v : View) (front digits rest after bytes : List ℕ) → IsDigest digits
    → after ≡ line_of (forms.Digest digits) ++ (10 ∷ rest) → digits ≢ digest_of front → IsView d v
    → front ≡ counted Two d (entries v) → bytes ≡ front ++ after → IsFault d bytes faults.OtherDigest
other_digest d v front digits rest after bytes form is other view same e = record {
  view = v;
  digits = digits;
  after = rest;
  stands = record {
    form = form;
    follows = tt;
    goes_on =
        digest_goes_on d v front (line_of (forms.Digest digits) ++ (10 ∷ rest)) bytes view same (e ∙ ap (λ l. front ++ l) is);
  };
  other = λ x. other (x ∙ ap digest_of (sym same));
}

pub digest_line : (digits front rest : List ℕ) → digits ≡ digest_of front → line_of (forms.Digest digits) ++ (10 ∷ rest)
    ≡ digest_text front ++ rest
digest_line digits front rest is = ap (λ x. line_of (forms.Digest x) ++ (10 ∷ rest)) is
    ∙ sym (append_assoc (line_of (forms.Digest (digest_of front))) (10 ∷ []) rest)

pub more_behind : (d : Declaration) (v : View) (front digits rest after bytes : List ℕ)
    → after ≡ line_of (forms.Digest digits) ++ (10 ∷ rest) → digits ≡ digest_of front → 0 < length rest → IsView d v
    → front ≡ counted Two d (entries v) → bytes ≡ front ++ after → IsFault d bytes faults.Trailing
more_behind d v front digits [] after bytes is same_digits some view same e = absurd (omega arith)
more_behind d v front digits (b ∷ rest) after bytes is same_digits some view same e = record {
  version = Two;
  view = v;
  byte = b;
  more = rest;
  is_view = view;
  may = all_records (entries v);
  bytes_are =
      e ∙ ap (λ l. front ++ l) (is ∙ digest_line digits front (b ∷ rest) same_digits)
      ∙ sym (append_assoc front (digest_text front) (b ∷ rest))
      ∙ ap (λ l. (l ++ digest_text l) ++ (b ∷ rest)) same;
}
  where
    all_records : (es : List (NameParts × Known)) → AllByRecursion (HasRecord Two) es
    all_records [] = tt
    all_records ((n, Live c) ∷ es) = (tt, all_records es)
    all_records ((n, Disputed) ∷ es) = (tt, all_records es)
    all_records ((n, Retired) ∷ es) = (tt, all_records es)
    all_records ((n, Floor) ∷ es) = (tt, all_records es)

-- ---- the end

pub other_count : (r : Version) (d : Declaration) (v : View) (count : ℕ) (after : List ℕ) → IsNumber count
    → count ≢ length (entries v) → Spoils r d v (end_text count ++ after) faults.OtherCount
other_count r d v count after number other bytes g =
    record {
      version = r;
      view = v;
      count = count;
      after = after;
      stands = record {
        form = number;
        follows = tt;
        goes_on =
            record {
              good = g.good;
              bytes_are =
                  g.bytes_are ∙ ap (λ l. begun r d (entries v) ++ l) (append_assoc (line_of (forms.End count)) (10 ∷ [])
                  after);
            };
      };
      other = other;
    }

-- behind the right count
pub counted_behind : (r : Version) (d : Declaration) (v : View) (count : ℕ) (after bytes : List ℕ)
    → length (entries v) ≡ count → GoesOn d (Behind r v) bytes (end_text count ++ after) → bytes ≡ counted r d (entries v) ++ after
counted_behind r d v count after bytes is g =
    g.bytes_are ∙ sym (append_assoc (begun r d (entries v)) (end_text count) after)
    ∙ ap (λ k. (begun r d (entries v) ++ end_text k) ++ after) (sym is)

pub whole_view : (r : Version) (d : Declaration) (v : View) (count : ℕ) (rest bytes : List ℕ) → IsNumber count
    → length (entries v) ≡ count → GoesOn d (Behind r v) bytes rest → IsView d v
whole_view r d v count rest bytes number is g = record { settled = g.good.0; records = g.good.1; count = subst IsNumber (sym is) number }

pub more_behind_one : (d : Declaration) (v : View) (after bytes : List ℕ) → 0 < length after → IsView d v → HasRecords One v
    → bytes ≡ counted One d (entries v) ++ after → IsFault d bytes faults.Trailing
more_behind_one d v [] bytes some view may e = absurd (omega arith)
more_behind_one d v (b ∷ rest) bytes some view may e = record {
  version = One;
  view = v;
  byte = b;
  more = rest;
  is_view = view;
  may = may;
  bytes_are = e ∙ ap (λ l. l ++ (b ∷ rest)) (sym (append-nil (counted One d (entries v))));
}

-- ---- the loop

flat_map-push : (es : List (NameParts × Known)) (e : NameParts × Known) → flat_map record_text (es ++ e ∷ [])
    ≡ flat_map record_text es ++ record_text e
flat_map-push [] e = append-nil (record_text e)
flat_map-push (x ∷ es) e = ap (λ l. record_text x ++ l) (flat_map-push es e)
    ∙ sym (append_assoc (record_text x) (flat_map record_text es) (record_text e))

all-push : (P : (NameParts × Known) → Type 0) (es : List (NameParts × Known)) (e : NameParts × Known) → AllByRecursion P es
    → P e → AllByRecursion P (es ++ e ∷ [])
all-push P [] e h k = (k, tt)
all-push P (x ∷ es) e h k = (h.0, all-push P es e h.1 k)

-- a file that goes on with a record goes on behind it
pub goes_behind : (r : Version) (d : Declaration) (v new : View) (rest more bytes : List ℕ) → Adds r d v rest new more
    → GoesOn d (Behind r v) bytes rest → GoesOn d (Behind r new) bytes more
goes_behind r d v new rest more bytes a g = record {
  good = (
    a.settled,
    subst (AllByRecursion (IsRecord d)) (sym a.added) (all-push (IsRecord d) (entries v) a.entry g.good.1 a.is),
    subst (AllByRecursion (HasRecord r)) (sym a.added) (all-push (HasRecord r) (entries v) a.entry g.good.2 a.has_record),
  );
  bytes_are =
      g.bytes_are ∙ ap (λ l. begun r d (entries v) ++ l) a.rest_is ∙ sym (append_assoc (begun r d (entries v)) (record_text a.entry) more)
      ∙ ap (λ l. l ++ more) (append_assoc (head r ++ table_text d) (flat_map record_text (entries v)) (record_text a.entry)
      ∙ ap (λ l. (head r ++ table_text d) ++ l) (sym (flat_map-push (entries v) a.entry)) ∙ ap (λ es. begun r d es) (sym a.added));
}

pub less_left : (r : Version) (d : Declaration) (v new : View) (rest more : List ℕ) → Adds r d v rest new more → length more < length rest
less_left r d v new rest more a = by a.entry a.rest_is
  where
    by : (e : NameParts × Known) → rest ≡ record_text e ++ more → length more < length rest
    by (n, Live content) e = omega (arith, ap length e, length-append (record_text (n, Live content)) more)
    by (n, Disputed) e = omega (arith, ap length e, length-append (record_text (n, Disputed)) more)
    by (n, Retired) e = omega (arith, ap length e, length-append (record_text (n, Retired)) more)
    by (n, Floor) e = omega (arith, ap length e, length-append (record_text (n, Floor)) more)

-- ---- before the first record

nothing_known : (v : View) → v ≡ FinMap.empty → entries v ≡ []
nothing_known v e = by (entries v) (sym (FinMap.len-entries v) ∙ ap FinMap.len e ∙ FinMap.len-empty name_cmp Known)
  where
    by : (es : List (NameParts × Known)) → length es ≡ 0 → es ≡ []
    by [] e = refl
    by (x ∷ xs) e = absurd (omega arith)

pub table_goes_on : (r : Version) (d : Declaration) (v : View) (bytes records : List ℕ) → v ≡ FinMap.empty
    → bytes ≡ head r ++ (table_text d ++ records) → GoesOn d (Behind r v) bytes records
table_goes_on r d v bytes records e is = record {
  good = (
    λ n low. subst (λ w. FinMap.get w n ≡ None) (sym e) (FinMap.get-empty name_cmp n),
    subst (AllByRecursion (IsRecord d)) (sym (nothing_known v e)) tt,
    subst (AllByRecursion (HasRecord r)) (sym (nothing_known v e)) tt,
  );
  bytes_are = is ∙ sym (append_assoc (head r) (table_text d) records)
      ∙ ap (λ l. l ++ records) (sym (append-nil (head r ++ table_text d)) ∙ ap (λ es. begun r d es) (sym (nothing_known v e)));
}
