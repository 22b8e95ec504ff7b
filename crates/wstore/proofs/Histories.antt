-- What histories tell, item by item, and the laws of nodes that know the same.
use Rattle.std.proofs.Common.{◌≡◌, ◌≢◌, ℕ, zero, suc, Bool, true, false, List, [], ◌∷◌, ◌++◌, map, Option, None, Some}
use Rattle.std.proofs.Common.{Result, Ok, Err, ◌⊎◌, inl, inr, refl, sym, ap, ◌∙◌, subst, arith, append-nil}
use Rattle.std.specs.FinMap.{entries}
use Rattle.std.specs.List.{IsAmong}
use Rattle.wsegment.specs.Declaration.{Declaration}
use Rattle.wset.specs.Views.{View, join}
use Rattle.wset.specs.Items.{Item, view_of}
use Rattle.wset.specs.Listing.{listed}
use Rattle.wset.proofs.Union.{view_of_union, same_items_same_view}
use Rattle.wexchange.specs.Files.{file_of, text_of}
use Rattle.wexchange.specs.Judging.{Judges}
use Rattle.wexchange.specs.declared.fault.FileFault.{FileFault}
use Rattle.wscript.specs.Commands.{Command, Listing, Ask, Put, Get}
use Rattle.wstore.specs.Replies.{Reply, Names, Done, NoMemory}
use Rattle.wask.specs.Answer.{IsAnswer}
use Rattle.wask.proofs.OneAnswer.{one_answer}
use Rattle.wstore.specs.History.{Step, Answers, AnswersUnder, declaration, delivers, gets, puts, drawn, replaced, known}
use Rattle.wstore.specs.History.{held, is_put, is_put_by, file_if, slot_file, file_reply, FileAnswers, query_reply}
use Rattle.wstore.specs.Laws.{Drawn, Replaced, Knows, Holds, ListsAreExact, SlotsJoin, SameViews, SameFiles, SameAnswers, SameLists}
use Rattle.wstore.proofs.Soundness.{no_file}
use Rattle.wstore.proofs.Standing.{drawn_here}

no_item : (i : Item) → ¬ (IsAmong [] i)
no_item i h = absurd (omega (arith, h.1.0))

-- an item of a list is its first or among the others
first_or_later : (y : Item) (ys : List Item) (i : Item) → IsAmong (y ∷ ys) i → (i ≡ y) ⊎ IsAmong ys i
first_or_later y ys i (zero, h) = inl h.1
first_or_later y ys i (suc n, h) = inr (n, (omega (arith, h.0), h.1))

later : (y : Item) (ys : List Item) (i : Item) → IsAmong ys i → IsAmong (y ∷ ys) i
later y ys i (n, h) = (suc n, (omega (arith, h.0), h.1))

first : (y : Item) (ys : List Item) → IsAmong (y ∷ ys) y
first y ys = (0, (omega arith, refl))

-- ---- the items of two lists

among_left : (xs ys : List Item) (i : Item) → IsAmong xs i → IsAmong (xs ++ ys) i
among_left [] ys i h = absurd (no_item i h)
among_left (x ∷ xs) ys i h = elim (first_or_later x xs i h) [
  | inl e ↦ subst (λ j. IsAmong (x ∷ (xs ++ ys)) j) (sym e) (first x (xs ++ ys))
  | inr r ↦ later x (xs ++ ys) i (among_left xs ys i r)
]

among_right : (xs ys : List Item) (i : Item) → IsAmong ys i → IsAmong (xs ++ ys) i
among_right [] ys i h = h
among_right (x ∷ xs) ys i h = later x (xs ++ ys) i (among_right xs ys i h)

among_either : (xs ys : List Item) (i : Item) → IsAmong (xs ++ ys) i → IsAmong xs i ⊎ IsAmong ys i
among_either [] ys i h = inr h
among_either (x ∷ xs) ys i h = elim (first_or_later x (xs ++ ys) i h) [
  | inl e ↦ inl (subst (λ j. IsAmong (x ∷ xs) j) (sym e) (first x xs))
  | inr r ↦ elim (among_either xs ys i r) [ inl a ↦ inl (later x xs i a) | inr b ↦ inr b ]
]

-- ---- what is drawn and replaced

draws : (o : Option ℕ) (f : ℕ → List Item) (P : ℕ → Type 0) (i : Item) → ((k : ℕ) → IsAmong (f k) i → P k)
    → IsAmong (drawn o f) i → Drawn o P
draws None f P i to h = absurd (no_item i h)
draws (Some k) f P i to h = to k h

drawn_back : (o : Option ℕ) (f : ℕ → List Item) (P : ℕ → Type 0) (i : Item) → ((k : ℕ) → P k → IsAmong (f k) i) → Drawn o P
    → IsAmong (drawn o f) i
drawn_back None f P i back h = absurd h
drawn_back (Some k) f P i back h = back k h

replaces : (o : Option ℕ) (f : ℕ → List Item) (P : ℕ → Type 0) (old : List Item) (Q : Type 0) (i : Item)
    → ((k : ℕ) → IsAmong (f k) i → P k) → (IsAmong old i → Q) → IsAmong (replaced o f old) i → Replaced o P Q
replaces None f P old Q i to rest h = rest h
replaces (Some k) f P old Q i to rest h = to k h

replaced_back : (o : Option ℕ) (f : ℕ → List Item) (P : ℕ → Type 0) (old : List Item) (Q : Type 0) (i : Item)
    → ((k : ℕ) → P k → IsAmong (f k) i) → (Q → IsAmong old i) → Replaced o P Q → IsAmong (replaced o f old) i
replaced_back None f P old Q i back rest h = rest h
replaced_back (Some k) f P old Q i back rest h = back k h

record Exact (h : List Step) : Type 0 where
  to_knows : (n : ℕ) (i : Item) → IsAmong (known h n) i → Knows h n i
  from_knows : (n : ℕ) (i : Item) → Knows h n i → IsAmong (known h n) i
  to_holds : (k : ℕ) (i : Item) → IsAmong (held h k) i → Holds h k i
  from_holds : (k : ℕ) (i : Item) → Holds h k i → IsAmong (held h k) i

exact : (h : List Step) → Exact h
exact [] = record {
  to_knows = λ n i x. absurd (no_item i x);
  from_knows = λ n i x. absurd x;
  to_holds = λ k i x. absurd (no_item i x);
  from_holds = λ k i x. absurd x;
}
exact (s ∷ h) =
    let e = exact h in
    record {
      to_knows = λ n i x. elim (among_either (known h n ++ drawn (gets s.command s.reply n) (λ k. held h k))
          (delivers s.command s.reply n) i x) [
            | inl a ↦ elim (among_either (known h n) (drawn (gets s.command s.reply n) (λ k. held h k)) i a) [
              | inl b ↦ inl (e.to_knows n i b)
              | inr b ↦ inr (inl (draws (gets s.command s.reply n) (λ k. held h k) (λ k. Holds h k i) i (λ k. e.to_holds k i) b))
            ]
            | inr a ↦ inr (inr a)
          ];
      from_knows = λ n i x. elim x [
        | inl a ↦ among_left (known h n ++ drawn (gets s.command s.reply n) (λ k. held h k)) (delivers s.command s.reply n)
            i (among_left (known h n) (drawn (gets s.command s.reply n) (λ k. held h k)) i (e.from_knows n i a))
        | inr b ↦ elim b [
          | inl c ↦ among_left (known h n ++ drawn (gets s.command s.reply n) (λ k. held h k))
              (delivers s.command s.reply n) i (among_right (known h n) (drawn (gets s.command s.reply n) (λ k. held h k)) i
              (drawn_back (gets s.command s.reply n) (λ k. held h k) (λ k. Holds h k i) i (λ k. e.from_holds k i) c))
          | inr c ↦ among_right (known h n ++ drawn (gets s.command s.reply n) (λ k. held h k)) (delivers s.command s.reply n) i c
        ]
      ];
      to_holds = λ k i x. replaces (puts s.command s.reply k) (λ n. known h n) (λ n. Knows h n i) (held h k) (Holds h k i) i
          (λ n. e.to_knows n i) (e.to_holds k i) x;
      from_holds = λ k i x. replaced_back (puts s.command s.reply k) (λ n. known h n) (λ n. Knows h n i) (held h k)
          (Holds h k i) i (λ n. e.from_knows n i) (e.from_holds k i) x;
    }

pub exact_lists : ListsAreExact
exact_lists = record {
  knows = λ h n i. ((exact h).to_knows n i, (exact h).from_knows n i);
  holds = λ h k i. ((exact h).to_holds k i, (exact h).from_holds k i);
}

-- ---- what a slot brings

-- bytes that are a file are those of a slot that was put
put_first : (d : Declaration) (b : Bool) (items : List Item) → FileAnswers d (file_if b d items) Done → b ≡ true
put_first d true items f = refl
put_first d false items f = absurd (by f.judged f.judges f.reply_is)
  where
    by : (r : Result View FileFault) → Judges d [] r → Done ≡ file_reply r → ⊥
    by (Ok v) j e = no_file d j.version v [] (j.bytes_are ∙ sym (append-nil (text_of j.version d v)))
    by (Err fault) j e = cc

pub slots_join : SlotsJoin
slots_join h k n d is answers = (put_first d (is_put h k) (held h k) allowed, view_is)
  where
    allowed : FileAnswers d (slot_file d h k) Done
    allowed = elim answers [
      | inl a ↦ subst (λ o. AnswersUnder o h (Get k n) Done) is a
      | inr b ↦ absurd (no_memory b.1)
    ]
      where
        no_memory : Done ≢ NoMemory
        no_memory e = cc

    view_is : view_of (known (record { command = Get k n; reply = Done } ∷ h) n) ≡ join (view_of (known h n)) (view_of (held h k))
    view_is =
        ap view_of (append-nil _ ∙ ap (λ o. known h n ++ drawn o (λ q. held h q)) (drawn_here n n k refl))
        ∙ view_of_union (known h n) (held h k)

-- ---- nodes of one view

pub same_views : SameViews
same_views g h m n same =
    same_items_same_view (known g m) (known h n)
    (λ i x. (exact h).from_knows n i (same.to i ((exact g).to_knows m i x)))
    (λ i x. (exact g).from_knows m i (same.back i ((exact h).to_knows n i x)))

-- the file that a node puts is that of its view
put_file : (h : List Step) (d : Declaration) (m k : ℕ) → slot_file d (record { command = Put m k; reply = Done } ∷ h) k
    ≡ file_of d (view_of (known h m))
put_file h d m k = ap (λ o. file_if (is_put_by o (is_put h k)) d (replaced o (λ n. known h n) (held h k))) (drawn_here k k m refl)

pub same_files : SameFiles
same_files g h m n j k d same = put_file g d m j ∙ ap (file_of d) same ∙ sym (put_file h d n k)

-- a reply that is not for lack of memory is told under the declaration in force
told : (h : List Step) (d : Declaration) (c : Command) (r : Reply) → declaration h ≡ Some d → Answers h c r → r ≢ NoMemory
    → AnswersUnder (Some d) h c r
told h d c r is answers some = elim answers [
  | inl a ↦ subst (λ o. AnswersUnder o h c r) is a
  | inr b ↦ absurd (some b.1)
]

pub same_answers : SameAnswers
same_answers g h m n d text r s same at_g at_h by_g by_h some_r some_s =
    let one = told g d (Ask m text) r at_g by_g some_r in
    let other = told h d (Ask n text) s at_h by_h some_s in
    one.2 ∙ ap query_reply (one_answer d (view_of (known h n)) text one.0 other.0 (subst (λ v. IsAnswer d v text one.0)
    same one.1) other.1) ∙ sym other.2

pub same_lists : SameLists
same_lists g h m n d r s same at_g at_h by_g by_h some_r some_s =
    told g d (Listing m) r at_g by_g some_r
    ∙ ap (λ v. Names (map (listed d) (entries v))) same
    ∙ sym (told h d (Listing n) s at_h by_h some_s)
