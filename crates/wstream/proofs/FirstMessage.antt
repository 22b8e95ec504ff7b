-- A message that stands first.
use Rattle.std.proofs.Common.{◌≡◌, ◌≤◌, ℕ, List, [], ◌∷◌, ◌++◌, length, inl, inr, sym, ap, ◌∙◌, subst, arith, append_assoc, length-append}
use Rattle.std.specs.List.{flat_map}
use Rattle.wlines.proofs.Cuts.{no_cut}
use Rattle.wvalues.specs.Names.{NameParts}
use Rattle.wset.specs.Items.{Item, SegmentItem, RetirementItem, FloorItem}
use Rattle.wrecords.specs.Forms.{IsNumber, line_of}
use Rattle.wstream.specs.Messages.{message_text, most_bytes, IsMessage, IsOpen, IsBad, Splits}
use Rattle.wstream.specs.Laws.{FirstMessage}
use Rattle.wrecords.specs.declared.form.Form.TheVariants as forms
use Rattle.wrecords.proofs.Lines.{cut, same_front}

content_parts : (m n : NameParts) (a b : ℕ) → forms.Content m a ≡ forms.Content n b → (m ≡ n) × (a ≡ b)
content_parts m n a b e = (cc, cc)

retirement_name : (m n : NameParts) → forms.Retirement m ≡ forms.Retirement n → m ≡ n
retirement_name m n e = cc

apart : (m n : NameParts) (a : ℕ) → forms.Content m a ≡ forms.Retirement n → ⊥
apart m n a e = cc

-- a content of a message has a length of 32 bits
few : (len : ℕ) → len ≤ most_bytes → IsNumber len
few len h = record { fits = omega (arith, h) }

floor_name : (m n : NameParts) → forms.Floor m ≡ forms.Floor n → m ≡ n
floor_name m n e = cc

content_floor : (m n : NameParts) (a : ℕ) → forms.Content m a ≡ forms.Floor n → ⊥
content_floor m n a e = cc

retirement_floor : (m n : NameParts) → forms.Retirement m ≡ forms.Floor n → ⊥
retirement_floor m n e = cc

content_first : (n : NameParts) (bytes s : List ℕ) → message_text (SegmentItem n bytes) ++ s
    ≡ line_of (forms.Content n (length bytes)) ++ (10 ∷ (bytes ++ (10 ∷ s)))
content_first n bytes s = append_assoc (line_of (forms.Content n (length bytes))) (10 ∷ (bytes ++ 10 ∷ [])) s
    ∙ ap (λ l. line_of (forms.Content n (length bytes)) ++ (10 ∷ l)) (append_assoc bytes (10 ∷ []) s)

retired_first : (n : NameParts) (s : List ℕ) → message_text (RetirementItem n) ++ s ≡ line_of (forms.Retirement n) ++ (10 ∷ s)
retired_first n s = append_assoc (line_of (forms.Retirement n)) (10 ∷ []) s

floor_first : (n : NameParts) (s : List ℕ) → message_text (FloorItem n) ++ s ≡ line_of (forms.Floor n) ++ (10 ∷ s)
floor_first n s = append_assoc (line_of (forms.Floor n)) (10 ∷ []) s

pub one_message : (i j : Item) (s t : List ℕ) → IsMessage i → IsMessage j → message_text i ++ s ≡ message_text j ++ t → (i ≡ j) × (s ≡ t)
one_message (SegmentItem m a) (SegmentItem n b) s t h k e =
    let c = cut (forms.Content m (length a)) (forms.Content n (length b)) (a ++ (10 ∷ s)) (b ++ (10 ∷ t))
    (h.0, few (length a) h.1) (k.0, few (length b) k.1) (sym (content_first m a s) ∙ e ∙ content_first n b t) in
    let parts = content_parts m n (length a) (length b) c.0 in
    let rest = same_front a b (10 ∷ s) (10 ∷ t) parts.1 c.1 in
    (λ i. SegmentItem (parts.0 i) (rest.0 i), cc)
one_message (SegmentItem m a) (RetirementItem n) s t h k e =
    let c = cut (forms.Content m (length a)) (forms.Retirement n) (a ++ (10 ∷ s)) t (h.0, few (length a) h.1) k
    (sym (content_first m a s) ∙ e ∙ retired_first n t) in
    absurd (apart m n (length a) c.0)
one_message (RetirementItem m) (SegmentItem n b) s t h k e =
    let c = cut (forms.Content n (length b)) (forms.Retirement m) (b ++ (10 ∷ t)) s (k.0, few (length b) k.1) h
    (sym (content_first n b t) ∙ sym e ∙ retired_first m s) in
    absurd (apart n m (length b) c.0)
one_message (RetirementItem m) (RetirementItem n) s t h k e =
    let c = cut (forms.Retirement m) (forms.Retirement n) s t h k (sym (retired_first m s) ∙ e ∙ retired_first n t) in
    (ap (λ x. RetirementItem x) (retirement_name m n c.0), c.1)
one_message (SegmentItem m a) (FloorItem n) s t h k e =
    let c = cut (forms.Content m (length a)) (forms.Floor n) (a ++ (10 ∷ s)) t (h.0, few (length a) h.1) k
    (sym (content_first m a s) ∙ e ∙ floor_first n t) in
    absurd (content_floor m n (length a) c.0)
one_message (FloorItem m) (SegmentItem n b) s t h k e =
    let c = cut (forms.Content n (length b)) (forms.Floor m) (b ++ (10 ∷ t)) s (k.0, few (length b) k.1) h
    (sym (content_first n b t) ∙ sym e ∙ floor_first m s) in
    absurd (content_floor n m (length b) c.0)
one_message (RetirementItem m) (FloorItem n) s t h k e =
    let c = cut (forms.Retirement m) (forms.Floor n) s t h k (sym (retired_first m s) ∙ e ∙ floor_first n t) in
    absurd (retirement_floor m n c.0)
one_message (FloorItem m) (RetirementItem n) s t h k e =
    let c = cut (forms.Retirement n) (forms.Floor m) t s k h (sym (retired_first n t) ∙ sym e ∙ floor_first m s) in
    absurd (retirement_floor n m c.0)
one_message (FloorItem m) (FloorItem n) s t h k e =
    let c = cut (forms.Floor m) (forms.Floor n) s t h k (sym (floor_first m s) ∙ e ∙ floor_first n t) in
    (ap (λ x. FloorItem x) (floor_name m n c.0), c.1)

-- what begins with a message is not open
pub not_open : (i : Item) (s : List ℕ) → IsMessage i → IsOpen (message_text i ++ s) → ⊥
not_open (SegmentItem n bytes) s h (inl l) =
    no_cut 10 (message_text (SegmentItem n bytes) ++ s) (line_of (forms.Content n (length bytes))) (bytes ++ (10 ∷ s))
    l.lacks (content_first n bytes s)
not_open (RetirementItem n) s h (inl l) = no_cut 10 (message_text (RetirementItem n) ++ s) (line_of (forms.Retirement n)) s
    l.lacks (retired_first n s)
not_open (SegmentItem n bytes) s h (inr b) =
    let c = cut (forms.Content n (length bytes)) (forms.Content b.name b.len) (bytes ++ (10 ∷ s)) b.behind
    (h.0, few (length bytes) h.1) (b.is_name, few b.len b.within) (sym (content_first n bytes s) ∙ b.rest_is) in
    let parts = content_parts n b.name (length bytes) b.len c.0 in
    omega (arith, parts.1, b.short, ap length c.1, length-append bytes (10 ∷ s))
not_open (RetirementItem n) s h (inr b) =
    let c = cut (forms.Content b.name b.len) (forms.Retirement n) b.behind s (b.is_name, few b.len b.within) h
    (sym b.rest_is ∙ retired_first n s) in
    apart b.name n b.len c.0
not_open (FloorItem n) s h (inl l) = no_cut 10 (message_text (FloorItem n) ++ s) (line_of (forms.Floor n)) s l.lacks (floor_first n s)
not_open (FloorItem n) s h (inr b) =
    let c = cut (forms.Content b.name b.len) (forms.Floor n) b.behind s (b.is_name, few b.len b.within) h (sym b.rest_is
    ∙ floor_first n s) in
    content_floor b.name n b.len c.0

pub first_of_none : (i : Item) (s rest : List ℕ) → IsMessage i → message_text i ++ s ≡ rest → (IsOpen rest → ⊥) × (IsBad rest → ⊥)
first_of_none i s rest h e = (λ o. not_open i s h (rw e o), λ b. b.none i s h (sym e))

pub first_message : FirstMessage
first_message i s items rest h = (forth items, back items)
  where
    forth : (items : List Item) → Splits (message_text i ++ s) items rest → (others : List Item) × (items ≡ i ∷ others)
        × Splits s others rest
    forth [] p =
        let never = first_of_none i s rest h p.whole in
        elim p.end [ inl o ↦ absurd (never.0 o) | inr b ↦ absurd (never.1 b) ]
    forth (j ∷ others) p =
        let one = one_message i j s (flat_map message_text others ++ rest) h p.each.0 (p.whole
        ∙ append_assoc (message_text j) (flat_map message_text others) rest) in
        (others, ap (λ k. k ∷ others) (sym one.0), record { whole = one.1; each = p.each.1; end = p.end })

    back : (items : List Item) → ((others : List Item) × (items ≡ i ∷ others) × Splits s others rest)
        → Splits (message_text i ++ s) items rest
    back items w =
        subst (λ l. Splits (message_text i ++ s) l rest) (sym w.1)
        (record {
          whole = ap (λ l. message_text i ++ l) w.2.whole
              ∙ sym (append_assoc (message_text i) (flat_map message_text w.0) rest);
          each = (h, w.2.each);
          end = w.2.end;
        })
