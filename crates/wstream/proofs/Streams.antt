-- What stands first in a stream.
use Rattle.std.proofs.Common.{◌≡◌, ◌≢◌, ℕ, zero, suc, ◌+◌, ◌-◌, ◌^◌, ◌<◌, ◌≤◌, List, [], ◌∷◌, ◌++◌, length, take, drop}
use Rattle.std.proofs.Common.{inl, inr, refl, sym, ap, subst, get_or, ◌∙◌, ◌⊎◌, arith, append_assoc, append-nil, length-append}
use Rattle.std.specs.Fmt.{decimal}
use Rattle.std.proofs.lemmas.Fmt.{length-decimal-le}
use Rattle.wlines.specs.Words.{Lacks}
use Rattle.wlines.proofs.Cuts.{cut_once, no_cut}
use Rattle.wvalues.specs.Names.{NameParts, IsName}
use Rattle.wset.specs.Items.{Item, SegmentItem, RetirementItem, FloorItem}
use Rattle.wrecords.specs.Cuts.{IsUnfed}
use Rattle.wrecords.specs.Forms.{IsNumber, IsForm, line_of}
use Rattle.wstream.specs.Messages.{most_bytes, message_text, IsMessage, IsOpen, IsBad}
use Rattle.wstream.specs.Inboxes.{BeginsWith, body_in}
use Rattle.wrecords.specs.declared.form.Form.{Form}
use Rattle.wrecords.specs.declared.form.Form.TheVariants as forms
use Rattle.wrecords.proofs.Words.{line_lacks}
use Rattle.wrecords.proofs.Shapes.{one_form}

pub drop_front : (xs ys : List ℕ) → drop (length xs) (xs ++ ys) ≡ ys
drop_front [] ys = refl
drop_front (x ∷ xs) ys = drop_front xs ys

pub take_front : (xs ys : List ℕ) → take (length xs) (xs ++ ys) ≡ xs
take_front [] ys = refl
take_front (x ∷ xs) ys = ap (λ l. x ∷ l) (take_front xs ys)

-- the form of the line of a message
abbrev pub message_form : Item → Form
message_form (SegmentItem n bytes) = forms.Content n (length bytes)
message_form (RetirementItem n) = forms.Retirement n
message_form (FloorItem n) = forms.Floor n

-- what stands behind it
abbrev pub message_rest : Item → List ℕ
message_rest (SegmentItem n bytes) = bytes ++ 10 ∷ []
message_rest (RetirementItem n) = []
message_rest (FloorItem n) = []

message_is : (i : Item) → message_text i ≡ line_of (message_form i) ++ (10 ∷ message_rest i)
message_is (SegmentItem n bytes) = refl
message_is (RetirementItem n) = refl
message_is (FloorItem n) = refl

pub few : (len : ℕ) → len ≤ most_bytes → IsNumber len
few len h = record { fits = omega (arith, h) }

message_is_form : (i : Item) → IsMessage i → IsForm (message_form i)
message_is_form (SegmentItem n bytes) h = (h.0, few (length bytes) h.1)
message_is_form (RetirementItem n) h = h
message_is_form (FloorItem n) h = h

-- the line of a message is cut off in one way
message_line : (i : Item) (line rest more : List ℕ) → IsMessage i → Lacks 10 line
    → line ++ (10 ∷ rest) ≡ message_text i ++ more → (line ≡ line_of (message_form i)) × (rest ≡ message_rest i ++ more)
message_line i line rest more h lacks e =
    cut_once 10 line (line_of (message_form i)) rest (message_rest i ++ more) lacks (line_lacks (message_form i) (message_is_form i h))
    (e ∙ ap (λ l. l ++ more) (message_is i) ∙ append_assoc (line_of (message_form i)) (10 ∷ message_rest i) more)

-- ---- bad

-- a line that is no message's makes the stream bad
pub bad_line : (bytes line rest : List ℕ) → Lacks 10 line → bytes ≡ line ++ (10 ∷ rest)
    → ((n : NameParts) (len : ℕ) → IsName n → len ≤ most_bytes → line ≢ line_of (forms.Content n len))
    → ((n : NameParts) → IsName n → line ≢ line_of (forms.Retirement n))
    → ((n : NameParts) → IsName n → line ≢ line_of (forms.Floor n))
    → IsBad bytes
bad_line bytes line rest lacks is no_content no_retirement no_floor = record { closed = closed; none = none }
  where
    closed : ¬ (IsOpen bytes)
    closed (inl l) = no_cut 10 bytes line rest l.lacks is
    closed (inr b) =
        let form : IsForm (forms.Content b.name b.len) = (b.is_name, few b.len b.within) in
        let cut = cut_once 10 line (line_of (forms.Content b.name b.len)) rest b.behind lacks
        (line_lacks (forms.Content b.name b.len) form) (sym is ∙ b.rest_is) in
        no_content b.name b.len b.is_name b.within cut.0

    none : (i : Item) (more : List ℕ) → IsMessage i → bytes ≢ message_text i ++ more
    none (SegmentItem n bs) more h e = no_content n (length bs) h.0 h.1 (message_line (SegmentItem n bs) line rest more h
        lacks (sym is ∙ e)).0
    none (RetirementItem n) more h e = no_retirement n h (message_line (RetirementItem n) line rest more h lacks (sym is ∙ e)).0
    none (FloorItem n) more h e = no_floor n h (message_line (FloorItem n) line rest more h lacks (sym is ∙ e)).0

same_content : (m n : NameParts) (a b : ℕ) → forms.Content m a ≡ forms.Content n b → a ≡ b
same_content m n a b e = cc

other_forms : (m n : NameParts) (a : ℕ) → forms.Content m a ≡ forms.Retirement n → ⊥
other_forms m n a e = cc

other_floor : (m n : NameParts) (a : ℕ) → forms.Content m a ≡ forms.Floor n → ⊥
other_floor m n a e = cc

-- two bodies of one length stand before one byte
pub same_behind : (xs ys : List ℕ) (a b : ℕ) (more rest : List ℕ) → length xs ≡ length ys → xs ++ (a ∷ more) ≡ ys ++ (b ∷ rest) → a ≡ b
same_behind [] [] a b more rest h e = cc
same_behind [] (y ∷ ys) a b more rest h e = absurd (omega arith)
same_behind (x ∷ xs) [] a b more rest h e = absurd (omega arith)
same_behind (x ∷ xs) (y ∷ ys) a b more rest h e = same_behind xs ys a b more rest (omega arith) cc

-- a body without its line feed makes the stream bad
pub bad_body : (bytes rest : List ℕ) (n : NameParts) (len : ℕ) → IsName n → len ≤ most_bytes
    → bytes ≡ line_of (forms.Content n len) ++ (10 ∷ rest) → IsUnfed len rest → IsBad bytes
bad_body bytes rest n len name within is u = record { closed = closed; none = none }
  where
    line : List ℕ
    line = line_of (forms.Content n len)

    form : IsForm (forms.Content n len)
    form = (name, few len within)

    lacks : Lacks 10 (line_of (forms.Content n len))
    lacks = line_lacks (forms.Content n len) form

    closed : ¬ (IsOpen bytes)
    closed (inl l) = no_cut 10 bytes (line_of (forms.Content n len)) rest l.lacks is
    closed (inr b) =
        let other : IsForm (forms.Content b.name b.len) = (b.is_name, few b.len b.within) in
        let cut = cut_once 10 (line_of (forms.Content n len)) (line_of (forms.Content b.name b.len)) rest b.behind lacks
        (line_lacks (forms.Content b.name b.len) other) (sym is ∙ b.rest_is) in
        let same = same_content n b.name len b.len (one_form (forms.Content n len) (forms.Content b.name b.len) form other cut.0) in
        omega (arith, same, b.short, ap length cut.1, ap length u.bytes_are, length-append u.body (u.byte ∷ u.more), u.length_is)

    none : (i : Item) (more : List ℕ) → IsMessage i → bytes ≢ message_text i ++ more
    none (SegmentItem m bs) more h e =
        let cut = message_line (SegmentItem m bs) (line_of (forms.Content n len)) rest more h lacks (sym is ∙ e) in
        let same = same_content n m len (length bs) (one_form (forms.Content n len) (forms.Content m (length bs)) form
        (message_is_form (SegmentItem m bs) h) cut.0) in
        u.other (same_behind u.body bs u.byte 10 u.more more (u.length_is ∙ same) (sym u.bytes_are ∙ cut.1
        ∙ append_assoc bs (10 ∷ []) more))
    none (RetirementItem m) more h e =
        let cut = message_line (RetirementItem m) (line_of (forms.Content n len)) rest more h lacks (sym is ∙ e) in
        other_forms n m len (one_form (forms.Content n len) (forms.Retirement m) form h cut.0)
    none (FloorItem m) more h e =
        let cut = message_line (FloorItem m) (line_of (forms.Content n len)) rest more h lacks (sym is ∙ e) in
        other_floor n m len (one_form (forms.Content n len) (forms.Floor m) form h cut.0)

-- ---- whole

pub begins_retired : (bytes rest : List ℕ) (n : NameParts) → IsName n → bytes ≡ line_of (forms.Retirement n) ++ (10 ∷ rest)
    → BeginsWith bytes (RetirementItem n) (length bytes - length rest)
begins_retired bytes rest n h is =
    let whole = line_of (forms.Retirement n) ++ (10 ∷ []) in
    let cut : bytes ≡ whole ++ rest = is ∙ sym (append_assoc (line_of (forms.Retirement n)) (10 ∷ []) rest) in
    let size : length bytes - length rest ≡ length whole = omega (arith, ap length cut, length-append whole rest) in
    record {
      is = h;
      within = omega arith;
      bytes_are = cut ∙ ap (λ l. whole ++ l) (sym (ap (λ k. drop k bytes) size ∙ ap (drop (length whole)) cut ∙ drop_front whole rest));
    }

pub begins_floor : (bytes rest : List ℕ) (n : NameParts) → IsName n → bytes ≡ line_of (forms.Floor n) ++ (10 ∷ rest)
    → BeginsWith bytes (FloorItem n) (length bytes - length rest)
begins_floor bytes rest n h is =
    let whole = line_of (forms.Floor n) ++ (10 ∷ []) in
    let cut : bytes ≡ whole ++ rest = is ∙ sym (append_assoc (line_of (forms.Floor n)) (10 ∷ []) rest) in
    let size : length bytes - length rest ≡ length whole = omega (arith, ap length cut, length-append whole rest) in
    record {
      is = h;
      within = omega arith;
      bytes_are = cut ∙ ap (λ l. whole ++ l) (sym (ap (λ k. drop k bytes) size ∙ ap (drop (length whole)) cut ∙ drop_front whole rest));
    }

pub begins_content : (bytes body rest : List ℕ) (n : NameParts) (len : ℕ) → IsName n → len ≤ most_bytes → length body ≡ len
    → bytes ≡ line_of (forms.Content n len) ++ (10 ∷ (body ++ (10 ∷ rest)))
    → BeginsWith bytes (SegmentItem n (body_in bytes (length body) (length bytes - length rest)))
    (length bytes - length rest) × (length body < length bytes - length rest)
begins_content bytes body rest n len name within size is =
    let front = line_of (forms.Content n len) ++ (10 ∷ []) in
    let whole = line_of (forms.Content n len) ++ (10 ∷ (body ++ 10 ∷ [])) in
    let cut : bytes ≡ whole ++ rest = is ∙ ap (λ l. line_of (forms.Content n len) ++ (10 ∷ l))
    (sym (append_assoc body (10 ∷ []) rest)) ∙ sym (append_assoc (line_of (forms.Content n len)) (10 ∷ (body ++ 10 ∷ [])) rest) in
    let cut_body : bytes ≡ front ++ (body ++ (10 ∷ rest)) =
    is ∙ sym (append_assoc (line_of (forms.Content n len)) (10 ∷ []) (body ++ (10 ∷ rest))) in
    let taken : length bytes - length rest ≡ length whole = omega (arith, ap length cut, length-append whole rest) in
    let before : (length bytes - length rest) - (length body + 1) ≡ length front =
    omega (arith, ap length cut_body, length-append front (body ++ (10 ∷ rest)), length-append body (10 ∷ rest)) in
    let found : body_in bytes (length body) (length bytes - length rest) ≡ body =
    ap (λ k. take (length body) (drop k bytes)) before ∙ ap (λ l. take (length body) (drop (length front) l)) cut_body
    ∙ ap (take (length body)) (drop_front front (body ++ (10 ∷ rest))) ∙ take_front body (10 ∷ rest) in
    let text : message_text (SegmentItem n body) ≡ whole = ap (λ k. line_of (forms.Content n k) ++ (10 ∷ (body ++ 10 ∷ []))) size in (
      record {
        is = (name, omega (arith, ap length found));
        within = omega arith;
        bytes_are = cut ∙ ap (λ l. whole ++ l) (sym (ap (λ k. drop k bytes) taken ∙ ap (drop (length whole)) cut ∙ drop_front whole rest))
            ∙ ap (λ l. l ++ drop (length bytes - length rest) bytes) (sym text ∙ ap (λ b. message_text (SegmentItem n b)) (sym found));
      },
      omega (
        arith,
        ap length cut_body,
        length-append front (body ++ (10 ∷ rest)),
        length-append body (10 ∷ rest),
        length-append (line_of (forms.Content n len)) (10 ∷ []),
      ),
    )

-- ---- how a header line and a body are cut off

-- a line that no message has
abbrev pub IsOther : Form → Type 0
IsOther (forms.Table len) = Unit {0}
IsOther (forms.Content n len) = most_bytes < len
IsOther (forms.Dispute n) = Unit {0}
IsOther (forms.Retirement n) = ⊥
IsOther (forms.Floor n) = ⊥
IsOther (forms.End count) = Unit {0}
IsOther (forms.Digest digits) = Unit {0}

no_content : (f : Form) (n : NameParts) (len : ℕ) → IsOther f → len ≤ most_bytes → f ≡ forms.Content n len → ⊥
no_content (forms.Table a) n len o h e = cc
no_content (forms.Content m a) n len o h e = omega (arith, same_content m n a len e, o, h)
no_content (forms.Dispute m) n len o h e = cc
no_content (forms.Retirement m) n len o h e = o
no_content (forms.Floor m) n len o h e = o
no_content (forms.End a) n len o h e = cc
no_content (forms.Digest digits) n len o h e = cc

no_retirement : (f : Form) (n : NameParts) → IsOther f → f ≡ forms.Retirement n → ⊥
no_retirement (forms.Table a) n o e = cc
no_retirement (forms.Content m a) n o e = other_forms m n a e
no_retirement (forms.Dispute m) n o e = cc
no_retirement (forms.Retirement m) n o e = o
no_retirement (forms.Floor m) n o e = o
no_retirement (forms.End a) n o e = cc
no_retirement (forms.Digest digits) n o e = cc

no_floor : (f : Form) (n : NameParts) → IsOther f → f ≡ forms.Floor n → ⊥
no_floor (forms.Table a) n o e = cc
no_floor (forms.Content m a) n o e = other_floor m n a e
no_floor (forms.Dispute m) n o e = cc
no_floor (forms.Retirement m) n o e = o
no_floor (forms.Floor m) n o e = o
no_floor (forms.End a) n o e = cc
no_floor (forms.Digest digits) n o e = cc

pub bad_form : (bytes rest : List ℕ) (f : Form) → IsForm f → bytes ≡ line_of f ++ (10 ∷ rest) → IsOther f → IsBad bytes
bad_form bytes rest f h is other =
    bad_line bytes (line_of f) rest (line_lacks f h) is
    (λ n len name within e. no_content f n len other within (one_form f (forms.Content n len) h (name, few len within) e))
    (λ n name e. no_retirement f n other (one_form f (forms.Retirement n) h name e))
    (λ n name e. no_floor f n other (one_form f (forms.Floor n) h name e))

pub bad_unread : (bytes line rest : List ℕ) → Lacks 10 line → bytes ≡ line ++ (10 ∷ rest)
    → ((f : Form) → IsForm f → line ≢ line_of f) → IsBad bytes
bad_unread bytes line rest lacks is none =
    bad_line bytes line rest lacks is (λ n len name within e. none (forms.Content n len) (name, few len within) e)
    (λ n name e. none (forms.Retirement n) name e) (λ n name e. none (forms.Floor n) name e)

-- ---- a line that is too long

no_early : (n : ℕ) (xs l r : List ℕ) → Lacks 10 (take n xs) → length l < n → xs ≡ l ++ (10 ∷ r) → ⊥
no_early zero xs l r k h e = omega arith
no_early (suc n) [] [] r k h e = cc
no_early (suc n) [] (y ∷ l) r k h e = cc
no_early (suc n) (x ∷ xs) [] r k h e = k.0 cc
no_early (suc n) (x ∷ xs) (y ∷ l) r k h e = no_early n xs l r k.1 (omega arith) cc

number_short : (n : ℕ) → n < 2 ^ 32 → length (decimal n) ≤ 10
number_short n h = length-decimal-le 10 n (omega arith) (omega (arith, h)) (omega (arith, h))

content_short : (n : NameParts) (len : ℕ) → IsName n → len ≤ most_bytes → length (line_of (forms.Content n len)) < 201
content_short n len h k =
    let number = number_short n.number (omega (arith, h.number.high)) in
    let size = number_short len (omega (arith, k)) in
    let inner : length (decimal n.number ++ (32 ∷ decimal len)) ≤ 21 =
    omega (arith, number, size, length-append (decimal n.number) (32 ∷ decimal len)) in
    omega (arith, inner, h.origin.short, length-append n.origin (32 ∷ (decimal n.number ++ (32 ∷ decimal len))))

retirement_short : (n : NameParts) → IsName n → length (line_of (forms.Retirement n)) < 201
retirement_short n h =
    let number = number_short n.number (omega (arith, h.number.high)) in
    omega (arith, number, h.origin.short, length-append n.origin (32 ∷ decimal n.number))

floor_short : (n : NameParts) → IsName n → length (line_of (forms.Floor n)) < 201
floor_short n h =
    let number = number_short n.number (omega (arith, h.number.high)) in
    omega (arith, number, h.origin.short, length-append n.origin (32 ∷ decimal n.number))

-- 201 bytes without a line feed
pub bad_start : (bytes : List ℕ) → 200 < length bytes → Lacks 10 (take 201 bytes) → IsBad bytes
bad_start bytes long lacks = record { closed = closed; none = none }
  where
    closed : ¬ (IsOpen bytes)
    closed (inl l) = omega (arith, l.short, long)
    closed (inr b) = no_early 201 bytes (line_of (forms.Content b.name b.len)) b.behind lacks
        (content_short b.name b.len b.is_name b.within) b.rest_is

    none : (i : Item) (more : List ℕ) → IsMessage i → bytes ≢ message_text i ++ more
    none (SegmentItem n bs) more h e =
        no_early 201 bytes (line_of (forms.Content n (length bs))) ((bs ++ 10 ∷ []) ++ more) lacks
        (content_short n (length bs) h.0 h.1) (e ∙ append_assoc (line_of (forms.Content n (length bs))) (10 ∷ (bs ++ 10 ∷ [])) more)
    none (RetirementItem n) more h e =
        no_early 201 bytes (line_of (forms.Retirement n)) more lacks (retirement_short n h)
        (e ∙ append_assoc (line_of (forms.Retirement n)) (10 ∷ []) more)
    none (FloorItem n) more h e =
        no_early 201 bytes (line_of (forms.Floor n)) more lacks (floor_short n h)
        (e ∙ append_assoc (line_of (forms.Floor n)) (10 ∷ []) more)

-- ---- what is bad stays so, whatever follows

-- of two cuts of one list, the front of the one begins that of the other
fronts : (xs ys zs ws : List ℕ) → xs ++ ys ≡ zs ++ ws
    → ((k : List ℕ) × (zs ≡ xs ++ k)) ⊎ ((b : ℕ) × (k : List ℕ) × (xs ≡ zs ++ (b ∷ k)) × (ws ≡ b ∷ (k ++ ys)))
fronts [] ys zs ws e = inl (zs, refl)
fronts (x ∷ xs) ys [] ws e = inr (x, xs, refl, sym e)
fronts (x ∷ xs) ys (z ∷ zs) ws e =
    let head : x ≡ z = cc in
    let tail : xs ++ ys ≡ zs ++ ws = cc in
    elim (fronts xs ys zs ws tail) [
      | inl a ↦ inl (a.0, rw (head, a.1) refl)
      | inr b ↦ inr (b.0, b.1, rw (head, b.2) refl, b.3)
    ]

lacks_front : (xs ys : List ℕ) → Lacks 10 (xs ++ ys) → Lacks 10 xs
lacks_front [] ys h = tt
lacks_front (x ∷ xs) ys h = (h.0, lacks_front xs ys h.1)

open_line : (line front back : List ℕ) → Lacks 10 line → length line < 201 → line ≡ front ++ back → IsOpen front
open_line line front back lacks short is = inl (record {
  lacks = lacks_front front back (subst (Lacks 10) is lacks);
  short = omega (arith, short, ap length is, length-append front back);
})

no_more : (m k : List ℕ) (b : ℕ) → [] ≡ m ++ (b ∷ k) → ⊥
no_more m k b e = omega (arith, ap length e, length-append m (b ∷ k))

-- a message without its end is open
open_front : (i : Item) (front k : List ℕ) (b : ℕ) → IsMessage i → message_text i ≡ front ++ (b ∷ k) → IsOpen front
open_front (SegmentItem n bytes) front k b h e =
    elim (fronts front (b ∷ k) (line_of (forms.Content n (length bytes))) (10 ∷ (bytes ++ 10 ∷ [])) (sym e)) [
      | inl a ↦ open_line (line_of (forms.Content n (length bytes))) front a.0
          (line_lacks (forms.Content n (length bytes)) (h.0, few (length bytes) h.1)) (content_short n (length bytes) h.0 h.1) a.1
      | inr x ↦
          let feed : 10 ≡ x.0 = ap (λ (l : List ℕ). get_or l 0 0) x.3 in
          let behind : bytes ++ 10 ∷ [] ≡ x.1 ++ (b ∷ k) = ap (drop 1) x.3 in
          inr (record {
            name = n;
            len = length bytes;
            behind = x.1;
            is_name = h.0;
            within = h.1;
            rest_is = x.2 ∙ ap (λ c. line_of (forms.Content n (length bytes)) ++ (c ∷ x.1)) (sym feed);
            short =
                omega (arith, ap length behind, length-append bytes (10 ∷ []), length-append x.1 (b ∷ k));
          })
    ]
open_front (RetirementItem n) front k b h e =
    elim (fronts front (b ∷ k) (line_of (forms.Retirement n)) (10 ∷ []) (sym e)) [
      | inl a ↦ open_line (line_of (forms.Retirement n)) front a.0 (line_lacks (forms.Retirement n) h) (retirement_short n h) a.1
      | inr x ↦ absurd (no_more x.1 k b (ap (drop 1) x.3))
    ]
open_front (FloorItem n) front k b h e =
    elim (fronts front (b ∷ k) (line_of (forms.Floor n)) (10 ∷ []) (sym e)) [
      | inl a ↦ open_line (line_of (forms.Floor n)) front a.0 (line_lacks (forms.Floor n) h) (floor_short n h) a.1
      | inr x ↦ absurd (no_more x.1 k b (ap (drop 1) x.3))
    ]

-- no message begins with what is bad
pub bad_stays : (rest more s : List ℕ) (i : Item) → IsBad rest → IsMessage i → rest ++ more ≡ message_text i ++ s → ⊥
bad_stays rest more s i bad h e =
    elim (fronts rest more (message_text i) s e) [
      | inl a ↦ by a.0 a.1
      | inr x ↦ bad.none i (x.0 ∷ x.1) h x.2
    ]
  where
    by : (k : List ℕ) → message_text i ≡ rest ++ k → ⊥
    by [] is = bad.none i [] h (sym (append-nil rest) ∙ sym is ∙ sym (append-nil (message_text i)))
    by (b ∷ k) is = bad.closed (open_front i rest k b h is)
