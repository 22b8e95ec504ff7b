-- A command has one reply beside want of memory.
use Rattle.std.proofs.Common.{◌≡◌, ◌≢◌, ℕ, Bool, true, false, List, [], ◌∷◌, ◌++◌, map, Option, None, Some, Result}
use Rattle.std.proofs.Common.{Ok, Err, IsOk, inl, inr, refl, sym, ap, ◌∙◌, subst, arith, append_assoc, append-nil}
use Rattle.std.specs.List.{flat_map, AllByRecursion}
use Rattle.std.proofs.lemmas.Fmt.{decimal_injective}
use Rattle.wvalues.specs.Names.{NameParts, IsOrigin}
use Rattle.wvalues.specs.Meaning.{Meaning}
use Rattle.wvalues.specs.NameReading.{ReadsName}
use Rattle.wvalues.specs.declared.name.NameFault.{NameFault}
use Rattle.wvalues.specs.declared.name.NameFault.TheVariants.{BadOrigin, BadNumber}
use Rattle.wsegment.specs.Declaration.{Declaration}
use Rattle.wsegment.specs.Rows.{rows_of}
use Rattle.wsegment.specs.Spelling.{IsDeclaration, Spells, IsRefusedFor, repeats_name}
use Rattle.wsegment.specs.declared.fault.SegmentFault.{SegmentFault}
use Rattle.wsegment.specs.declared.schema_fault.SchemaFault.{SchemaFault}
use Rattle.wsegment.specs.declared.schema_fault.SchemaFault.TheVariants as tables
use Rattle.wsegment.proofs.SpellingFacts.{spells-one}
use Rattle.wset.specs.Views.{View, join, known_in}
use Rattle.wset.specs.Items.{Item, SegmentItem, RetirementItem, FloorItem, view_of}
use Rattle.wset.specs.Words.{taken_word, retired_word, floor_word}
use Rattle.wexchange.specs.Files.{text_of}
use Rattle.wexchange.specs.declared.version.Version.TheVariants.{One, Two}
use Rattle.wexchange.specs.Judging.{Place, AtTable, Behind, AtDigest, GoesOn, Judges}
use Rattle.wstream.specs.Messages.{Splits, message_text}
use Rattle.wexchange.specs.declared.fault.FileFault.{FileFault}
use Rattle.wexchange.specs.declared.fault.FileFault.TheVariants as files
use Rattle.wstream.proofs.FirstMessage.{first_of_none, one_message}
use Rattle.wexchange.proofs.OneJudgement.{one_judgement}
use Rattle.wask.proofs.OneAnswer.{one_answer}
use Rattle.wscript.specs.Commands.{Command, Declare, Take, Retire, RetireTo, Listing, Ask, Feed, Put, Get}
use Rattle.wstore.specs.Replies.{Line, TookLine, WasLine, FloorLine, RefusedLine, SpentLine, line_item, line_items}
use Rattle.wstore.specs.Replies.{Reply, Declared, RefusedTable, Took, Was, RefusedName, RefusedSegment, Names}
use Rattle.wstore.specs.Replies.{Answered, RefusedQuery, Fed, Done, RefusedFile, NoMemory}
use Rattle.wstore.specs.History.{Step, Answers, AnswersUnder, PieceAnswers, LineAnswers, LinesAnswer, IsRest}
use Rattle.wstore.specs.History.{declaration, known, held, is_put, is_bad, stream, handled, file_if, take_reply}
use Rattle.wstore.specs.History.{retire_reply, floor_reply, query_reply, file_reply}
use Rattle.wstore.specs.Laws.{IsHandled, HasMemory, IsOfTable, OneReply}
use Rattle.wstore.proofs.OneReading.{IsTold, with_table, with_fault, told_of, no_fault}
use Rattle.wstore.proofs.Soundness.{no_file}

-- ---- names

pub one_name : (o m : List ℕ) (r s : Result NameParts NameFault) → ReadsName o m r → ReadsName o m s → r ≡ s
one_name o m (Ok n) (Ok k) a b =
    let number : n.number ≡ k.number = decimal_injective n.number k.number (omega (arith, a.is_name.number.high))
    (omega (arith, b.is_name.number.high)) (sym a.number_is ∙ b.number_is) in
    let origin : n.origin ≡ k.origin = sym a.origin_is ∙ b.origin_is in
    λ i. Ok (record { origin = origin i; number = number i })
one_name o m (Ok n) (Err BadOrigin) a b = absurd (b (subst IsOrigin (sym a.origin_is) a.is_name.origin))
one_name o m (Ok n) (Err BadNumber) a b = absurd (b.1 n.number a.is_name.number a.number_is)
one_name o m (Err BadOrigin) (Ok n) a b = absurd (a (subst IsOrigin (sym b.origin_is) b.is_name.origin))
one_name o m (Err BadOrigin) (Err BadOrigin) a b = refl
one_name o m (Err BadOrigin) (Err BadNumber) a b = absurd (a b.0)
one_name o m (Err BadNumber) (Ok n) a b = absurd (a.1 n.number b.is_name.number b.number_is)
one_name o m (Err BadNumber) (Err BadOrigin) a b = absurd (b a.0)
one_name o m (Err BadNumber) (Err BadNumber) a b = refl

-- ---- declarations

repeats : (d e : Declaration) (bytes : List ℕ) → Spells d bytes → Spells e bytes → repeats_name d.columns ≡ true
    → repeats_name e.columns ≡ false → ⊥
repeats d e bytes is also one other =
    let w : true ≡ false = sym one ∙ ap (λ (x : Declaration). repeats_name x.columns) (spells-one d e bytes is also) ∙ other in
    cc

one_table_fault : (bytes : List ℕ) (f g : SchemaFault) → f ≢ tables.NoMemory → g ≢ tables.NoMemory → IsRefusedFor bytes f
    → IsRefusedFor bytes g → f ≡ g
one_table_fault bytes tables.NoMemory g some also a b = absurd (some refl)
one_table_fault bytes f tables.NoMemory some also a b = absurd (also refl)
one_table_fault bytes tables.Syntax tables.Syntax some also a b = refl
one_table_fault bytes tables.Syntax tables.RepeatedColumn some also a b = absurd (a b.0 b.1)
one_table_fault bytes tables.Syntax tables.ColumnCount some also a b = absurd (a b.0 b.1)
one_table_fault bytes tables.RepeatedColumn tables.Syntax some also a b = absurd (b a.0 a.1)
one_table_fault bytes tables.RepeatedColumn tables.RepeatedColumn some also a b = refl
one_table_fault bytes tables.RepeatedColumn tables.ColumnCount some also a b = absurd (repeats a.0 b.0 bytes a.1 b.1 a.2 b.2)
one_table_fault bytes tables.ColumnCount tables.Syntax some also a b = absurd (b a.0 a.1)
one_table_fault bytes tables.ColumnCount tables.RepeatedColumn some also a b = absurd (repeats b.0 a.0 bytes b.1 a.1 b.2 a.2)
one_table_fault bytes tables.ColumnCount tables.ColumnCount some also a b = refl

one_table : (bytes : List ℕ) (r s : Reply) → IsTold bytes r → IsTold bytes s → r ≡ s
one_table bytes r s (with_table d is e) (with_table f also k) =
    e ∙ ap (λ x. Declared x) (spells-one d f bytes (subst (Spells d) (sym is.1) is.0.spelled)
    (subst (Spells f) (sym also.1) also.0.spelled)) ∙ sym k
one_table bytes r s (with_table d is e) (with_fault fault some h k) = absurd (no_fault bytes d fault is some h)
one_table bytes r s (with_fault fault some h k) (with_table d is e) = absurd (no_fault bytes d fault is some h)
one_table bytes r s (with_fault f some h e) (with_fault g also i k) =
    e ∙ ap (λ x. RefusedTable x) (one_table_fault bytes f g some also h i) ∙ sym k

-- ---- streams

-- a stream is cut into messages in one way
one_split : (items others : List Item) (s rest more : List ℕ) → Splits s items rest → Splits s others more
    → (items ≡ others) × (rest ≡ more)
one_split [] [] s rest more a b = (refl, sym a.whole ∙ b.whole)
one_split [] (j ∷ js) s rest more a b =
    let never = first_of_none j (flat_map message_text js ++ more) rest b.each.0
    (sym (append_assoc (message_text j) (flat_map message_text js) more) ∙ sym b.whole ∙ a.whole) in
    elim a.end [ inl o ↦ absurd (never.0 o) | inr x ↦ absurd (never.1 x) ]
one_split (i ∷ is) [] s rest more a b =
    let never = first_of_none i (flat_map message_text is ++ rest) more a.each.0
    (sym (append_assoc (message_text i) (flat_map message_text is) rest) ∙ sym a.whole ∙ b.whole) in
    elim b.end [ inl o ↦ absurd (never.0 o) | inr x ↦ absurd (never.1 x) ]
one_split (i ∷ is) (j ∷ js) s rest more a b =
    let one = one_message i j (flat_map message_text is ++ rest) (flat_map message_text js ++ more) a.each.0 b.each.0
    (sym (append_assoc (message_text i) (flat_map message_text is) rest) ∙ sym a.whole ∙ b.whole
    ∙ append_assoc (message_text j) (flat_map message_text js) more) in
    let others = one_split is js (flat_map message_text is ++ rest) rest more (record {
      whole = refl;
      each = a.each.1;
      end =
          a.end;
    }) (record { whole = one.1; each = b.each.1; end = b.end }) in
    (λ k. one.0 k ∷ others.0 k, others.1)

same_behind : (xs a b : List Item) → xs ++ a ≡ xs ++ b → a ≡ b
same_behind [] a b e = e
same_behind (x ∷ xs) a b e = same_behind xs a b (tail x (xs ++ a) (xs ++ b) e)
  where
    tail : (x : Item) (a b : List Item) → x ∷ a ≡ x ∷ b → a ≡ b
    tail x a b e = cc

-- ---- what messages are told

refused_read : (r : Result (List (List Meaning)) SegmentFault) (fault : SegmentFault) → IsOk r → r ≡ Err fault → ⊥
refused_read (Ok rows) fault ok e = cc
refused_read (Err other) fault ok e = let w : false ≡ true = ok in cc

parts : (m n : NameParts) (a b : List ℕ) → SegmentItem m a ≡ SegmentItem n b → (m ≡ n) × (a ≡ b)
parts m n a b e = (cc, cc)

retired : (m n : NameParts) → RetirementItem m ≡ RetirementItem n → m ≡ n
retired m n e = cc

apart : (m n : NameParts) (a : List ℕ) → SegmentItem m a ≡ RetirementItem n → ⊥
apart m n a e = cc

floor_name : (m n : NameParts) → FloorItem m ≡ FloorItem n → m ≡ n
floor_name m n e = cc

apart_floor : (m n : NameParts) (a : List ℕ) → SegmentItem m a ≡ FloorItem n → ⊥
apart_floor m n a e = cc

two_kinds : (m n : NameParts) → RetirementItem m ≡ FloorItem n → ⊥
two_kinds m n e = cc

abbrev err : SegmentFault → Result (List (List Meaning)) SegmentFault
err f = Err f

one_fault : (f g : SegmentFault) → err f ≡ err g → f ≡ g
one_fault f g e = cc

one_line : (d : Declaration) (v : View) (a b : Line) → line_item a ≡ line_item b → LineAnswers d v a → LineAnswers d v b
    → IsHandled a → IsHandled b → a ≡ b
one_line d v (TookLine m x word) (TookLine n y told) e h k p q =
    let same = parts m n x y e in
    let word_is : word ≡ told = h.1 ∙ (λ i. taken_word (known_in v (same.0 i)) (same.1 i)) ∙ sym k.1 in
    λ i. TookLine (same.0 i) (same.1 i) (word_is i)
one_line d v (TookLine m x word) (RefusedLine n y fault) e h k p q =
    let same = parts m n x y e in
    absurd (refused_read (rows_of d x) fault h.0 (ap (rows_of d) same.1 ∙ k))
one_line d v (TookLine m x word) (WasLine n told) e h k p q = absurd (apart m n x e)
one_line d v (WasLine m word) (WasLine n told) e h k p q =
    let same = retired m n e in
    let word_is : word ≡ told = h ∙ ap (λ x. retired_word (known_in v x)) same ∙ sym k in
    λ i. WasLine (same i) (word_is i)
one_line d v (WasLine m word) (TookLine n y told) e h k p q = absurd (apart n m y (sym e))
one_line d v (WasLine m word) (RefusedLine n y fault) e h k p q = absurd (apart n m y (sym e))
one_line d v (RefusedLine m x fault) (RefusedLine n y other) e h k p q =
    let same = parts m n x y e in
    let fault_is : fault ≡ other = one_fault fault other (sym h ∙ ap (rows_of d) same.1 ∙ k) in
    λ i. RefusedLine (same.0 i) (same.1 i) (fault_is i)
one_line d v (RefusedLine m x fault) (TookLine n y told) e h k p q =
    let same = parts m n x y e in
    absurd (refused_read (rows_of d y) fault k.0 (ap (rows_of d) (sym same.1) ∙ h))
one_line d v (RefusedLine m x fault) (WasLine n told) e h k p q = absurd (apart m n x e)
one_line d v (FloorLine m word) (FloorLine n told) e h k p q =
    let same = floor_name m n e in
    let word_is : word ≡ told = h ∙ ap (λ x. floor_word v x) same ∙ sym k in
    λ i. FloorLine (same i) (word_is i)
one_line d v (FloorLine m word) (TookLine n y told) e h k p q = absurd (apart_floor n m y (sym e))
one_line d v (FloorLine m word) (RefusedLine n y fault) e h k p q = absurd (apart_floor n m y (sym e))
one_line d v (FloorLine m word) (WasLine n told) e h k p q = absurd (two_kinds n m (sym e))
one_line d v (TookLine m x word) (FloorLine n told) e h k p q = absurd (apart_floor m n x e)
one_line d v (RefusedLine m x fault) (FloorLine n told) e h k p q = absurd (apart_floor m n x e)
one_line d v (WasLine m word) (FloorLine n told) e h k p q = absurd (two_kinds m n e)
one_line d v (SpentLine i) b e h k p q = absurd p
one_line d v (FloorLine m word) (SpentLine i) e h k p q = absurd q
one_line d v (TookLine m x word) (SpentLine i) e h k p q = absurd q
one_line d v (WasLine m word) (SpentLine i) e h k p q = absurd q
one_line d v (RefusedLine m x fault) (SpentLine i) e h k p q = absurd q

first_item : (i j : Item) (is js : List Item) → i ∷ is ≡ j ∷ js → (i ≡ j) × (is ≡ js)
first_item i j is js e = (cc, cc)

no_item : (i : Item) (is : List Item) → [] ≡ i ∷ is → ⊥
no_item i is e = cc

all_lines : (d : Declaration) (v : View) (ks ls : List Line) → map line_item ks ≡ map line_item ls → LinesAnswer d v ks
    → LinesAnswer d v ls → AllByRecursion IsHandled ks → AllByRecursion IsHandled ls → ks ≡ ls
all_lines d v [] [] e h k p q = refl
all_lines d v [] (b ∷ ls) e h k p q = absurd (no_item (line_item b) (map line_item ls) e)
all_lines d v (a ∷ ks) [] e h k p q = absurd (no_item (line_item a) (map line_item ks) (sym e))
all_lines d v (a ∷ ks) (b ∷ ls) e h k p q =
    let items = first_item (line_item a) (line_item b) (map line_item ks) (map line_item ls) e in
    let one = one_line d v a b items.0 h.0 k.0 p.0 q.0 in
    let others = all_lines d (join v (view_of (line_items a))) ks ls items.1 h.1
    (subst (λ x. LinesAnswer d (join v (view_of (line_items x))) ls) (sym one) k.1) p.1 q.1 in
    λ i. one i ∷ others i

one_rest : (a b : Bool) (rest : List ℕ) → IsRest a rest → IsRest b rest → a ≡ b
one_rest true true rest h k = refl
one_rest true false rest h k = absurd (h.closed k)
one_rest false true rest h k = absurd (k.closed h)
one_rest false false rest h k = refl

pub record IsFed (before : Bool) (d : Declaration) (h : List Step) (n : ℕ) (piece : List ℕ) (r : Reply) : Type 0 where
  pub lines : List Line
  pub bad : Bool
  pub is : r ≡ Fed lines bad
  pub answers : PieceAnswers before d h n piece (Fed lines bad)

pub fed_of : (before : Bool) (d : Declaration) (h : List Step) (n : ℕ) (piece : List ℕ) (r : Reply)
    → PieceAnswers before d h n piece r → IsFed before d h n piece r
fed_of before d h n piece (Fed lines bad) a = record { lines = lines; bad = bad; is = refl; answers = a }
fed_of true d h n piece (Declared e) a = absurd a
fed_of true d h n piece (RefusedTable fault) a = absurd a
fed_of true d h n piece (Took name word) a = absurd a
fed_of true d h n piece (Was name word) a = absurd a
fed_of true d h n piece (RefusedName fault) a = absurd a
fed_of true d h n piece (RefusedSegment fault) a = absurd a
fed_of true d h n piece (Names all) a = absurd a
fed_of true d h n piece (Answered bytes) a = absurd a
fed_of true d h n piece (RefusedQuery fault) a = absurd a
fed_of true d h n piece Done a = absurd a
fed_of true d h n piece (RefusedFile fault) a = absurd a
fed_of true d h n piece NoMemory a = absurd a
fed_of false d h n piece (Declared e) a = absurd a
fed_of false d h n piece (RefusedTable fault) a = absurd a
fed_of false d h n piece (Took name word) a = absurd a
fed_of false d h n piece (Was name word) a = absurd a
fed_of false d h n piece (RefusedName fault) a = absurd a
fed_of false d h n piece (RefusedSegment fault) a = absurd a
fed_of false d h n piece (Names all) a = absurd a
fed_of false d h n piece (Answered bytes) a = absurd a
fed_of false d h n piece (RefusedQuery fault) a = absurd a
fed_of false d h n piece Done a = absurd a
fed_of false d h n piece (RefusedFile fault) a = absurd a
fed_of false d h n piece NoMemory a = absurd a

one_fed : (before : Bool) (d : Declaration) (h : List Step) (n : ℕ) (piece : List ℕ) (a b : List Line) (x y : Bool)
    → PieceAnswers before d h n piece (Fed a x) → PieceAnswers before d h n piece (Fed b y) → AllByRecursion IsHandled a
    → AllByRecursion IsHandled b → (a ≡ b) × (x ≡ y)
one_fed true d h n piece a b x y p q some also = (p.0 ∙ sym q.0, p.1 ∙ sym q.1)
one_fed false d h n piece a b x y p q some also =
    let one = one_split (handled h n ++ map line_item a) (handled h n ++ map line_item b) (stream h n ++ piece) p.rest
    q.rest p.splits q.splits in (
      all_lines d (view_of (known h n)) a b (same_behind (handled h n) (map line_item a) (map line_item b) one.0) p.lines_are
          q.lines_are some also,
      one_rest x y q.rest (subst (IsRest x) one.1 p.end) q.end,
    )

fed_memory : (r : Reply) (lines : List Line) (bad : Bool) → r ≡ Fed lines bad → HasMemory r → AllByRecursion IsHandled lines
fed_memory r lines bad e h = subst HasMemory e h

-- ---- files

no_bytes : (x : ℕ) (xs : List ℕ) → [] ≡ x ∷ xs → ⊥
no_bytes x xs e = cc

nothing_good : (d : Declaration) (p : Place) (rest : List ℕ) → GoesOn d p [] rest → ⊥
nothing_good d (AtTable One) rest g = no_bytes 87 _ g.bytes_are
nothing_good d (AtTable Two) rest g = no_bytes 87 _ g.bytes_are
nothing_good d (Behind One v) rest g = no_bytes 87 _ g.bytes_are
nothing_good d (Behind Two v) rest g = no_bytes 87 _ g.bytes_are
nothing_good d (AtDigest v) rest g = no_bytes 87 _ g.bytes_are

-- no bytes end too early
empty_judged : (d : Declaration) (r : Result View FileFault) → Judges d [] r → r ≢ Err files.NoMemory → r ≡ Err files.Truncated
empty_judged d (Ok v) j some = absurd (no_file d j.version v [] (j.bytes_are ∙ sym (append-nil (text_of j.version d v))))
empty_judged d (Err files.OtherFormat) (inl h) some = absurd (h.no_beginning One _ refl)
empty_judged d (Err files.OtherFormat) (inr (inl h)) some = absurd (nothing_good d h.place _ h.goes_on)
empty_judged d (Err files.OtherFormat) (inr (inr h)) some = absurd (nothing_good d h.place _ h.stands.goes_on)
empty_judged d (Err files.Truncated) j some = refl
empty_judged d (Err files.NotRising) j some = absurd (nothing_good d (Behind j.version j.view) _ j.goes_on)
empty_judged d (Err files.OtherCount) j some = absurd (nothing_good d (Behind j.version j.view) _ j.stands.goes_on)
empty_judged d (Err files.OtherSchema) j some = absurd (nothing_good d (AtTable j.version) _ j.stands.goes_on)
empty_judged d (Err (files.Segment fault)) j some = absurd (nothing_good d (Behind j.version j.view) _ j.stands.goes_on)
empty_judged d (Err files.Trailing) j some = absurd (no_file d j.version j.view (j.byte ∷ j.more) j.bytes_are)
empty_judged d (Err files.OtherDigest) j some = absurd (nothing_good d (AtDigest j.view) _ j.stands.goes_on)
empty_judged d (Err files.NoMemory) j some = absurd (some refl)

slot_judged : (d : Declaration) (b : Bool) (items : List Item) → (b ≡ true → IsDeclaration d)
    → (r s : Result View FileFault) → Judges d (file_if b d items) r → Judges d (file_if b d items) s
    → r ≢ Err files.NoMemory → s ≢ Err files.NoMemory → r ≡ s
slot_judged d true items declared r s j k some also = one_judgement d (file_if true d items) r s (declared refl) j k some also
slot_judged d false items declared r s j k some also = empty_judged d r j some ∙ sym (empty_judged d s k also)

-- ---- all commands

told : (h : List Step) (c : Command) (r : Reply) → HasMemory r → Answers h c r → AnswersUnder (declaration h) h c r
told h c r some a = elim a [ inl x ↦ x | inr x ↦ absurd (subst HasMemory x.1 some) ]

one_under : (o : Option Declaration) (h : List Step) (c : Command) (r s : Reply)
    → ((d : Declaration) → o ≡ Some d → declaration h ≡ Some d) → IsOfTable h c → AnswersUnder o h c r
    → AnswersUnder o h c s → HasMemory r → HasMemory s → r ≡ s
one_under None h (Declare bytes) r s is of a b some also = one_table bytes r s (told_of bytes r a) (told_of bytes s b)
one_under None h (Take n o m bytes) r s is of a b some also = absurd a
one_under None h (Retire n o m) r s is of a b some also = absurd a
one_under None h (RetireTo n o m) r s is of a b some also = absurd a
one_under None h (Listing n) r s is of a b some also = absurd a
one_under None h (Ask n text) r s is of a b some also = absurd a
one_under None h (Feed n piece) r s is of a b some also = absurd a
one_under None h (Put n k) r s is of a b some also = absurd a
one_under None h (Get k n) r s is of a b some also = absurd a
one_under (Some d) h (Declare bytes) r s is of a b some also = absurd a
one_under (Some d) h (Take n o m bytes) r s is of a b some also = a.2 ∙ ap (λ x. take_reply x d (view_of (known h n)) bytes)
    (one_name o m a.0 b.0 a.1 b.1) ∙ sym b.2
one_under (Some d) h (Retire n o m) r s is of a b some also =
    a.2 ∙ ap (λ x. retire_reply x (view_of (known h n))) (one_name o m a.0 b.0 a.1 b.1) ∙ sym b.2
one_under (Some d) h (RetireTo n o m) r s is of a b some also =
    a.2 ∙ ap (λ x. floor_reply x (view_of (known h n))) (one_name o m a.0 b.0 a.1 b.1) ∙ sym b.2
one_under (Some d) h (Listing n) r s is of a b some also = a ∙ sym b
one_under (Some d) h (Ask n text) r s is of a b some also =
    a.2 ∙ ap query_reply (one_answer d (view_of (known h n)) text a.0 b.0 a.1 b.1) ∙ sym b.2
one_under (Some d) h (Feed n piece) r s is of a b some also =
    let x = fed_of (is_bad h n) d h n piece r a in
    let y = fed_of (is_bad h n) d h n piece s b in
    let one = one_fed (is_bad h n) d h n piece x.lines y.lines x.bad y.bad x.answers y.answers
    (fed_memory r x.lines x.bad x.is some) (fed_memory s y.lines y.bad y.is also) in
    x.is ∙ (λ i. Fed (one.0 i) (one.1 i)) ∙ sym y.is
one_under (Some d) h (Put n k) r s is of a b some also = a ∙ sym b
one_under (Some d) h (Get k n) r s is of a b some also =
    a.reply_is
    ∙ ap file_reply (slot_judged d (is_put h k) (held h k) (of d (is d refl)) a.judged b.judged a.judges b.judges a.is_judged b.is_judged)
    ∙ sym b.reply_is

pub one_reply : OneReply
one_reply h c r s of a b some also = one_under (declaration h) h c r s (λ d e. e) of (told h c r some a) (told h c s also b) some also
