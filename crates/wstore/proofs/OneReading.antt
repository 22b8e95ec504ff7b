-- An input has one reading as commands.
use Rattle.std.proofs.Common.{◌≡◌, ◌≢◌, ℕ, ◌^◌, ◌<◌, Bool, true, false, List, [], ◌∷◌, ◌++◌, map, length, Option, None, Some}
use Rattle.std.proofs.Common.{is_some, Ok, inl, inr, refl, sym, ap, ◌∙◌, subst, arith, append_assoc, length-append}
use Rattle.std.specs.Fmt.{decimal}
use Rattle.std.proofs.lemmas.Fmt.{decimal_injective}
use Rattle.wlines.specs.Words.{IsWord}
use Rattle.wlines.proofs.Cuts.{cut_once}
use Rattle.wsegment.specs.Declaration.{Declaration}
use Rattle.wsegment.specs.Spelling.{Spells, IsRefusedFor, ReadsDeclaration, repeats_name}
use Rattle.wsegment.specs.declared.schema_fault.SchemaFault.{SchemaFault}
use Rattle.wsegment.specs.declared.schema_fault.SchemaFault.TheVariants as tables
use Rattle.wsegment.proofs.SpellingFacts.{spells-one}
use Rattle.wrecords.proofs.Lines.{same_front}
use Rattle.wscript.specs.Commands.{Command, Declare, Take, Retire, RetireTo, Listing, Ask, Feed, Put, Get, IsForm, IsNode, IsSlot}
use Rattle.wscript.specs.Commands.{IsPieceLength, IsAllowed, IsCommand, line_of, form_of, behind, spell, pair_words}
use Rattle.wstore.specs.Replies.{Reply, Declared, RefusedTable, Took, Was, RefusedName, RefusedSegment}
use Rattle.wstore.specs.Replies.{Names, Answered, RefusedQuery, Fed, Done, RefusedFile, NoMemory}
use Rattle.wstore.specs.History.{Step, Answers, AnswersUnder, DeclareAnswers, declaration, declared_by, is_declared}
use Rattle.wstore.specs.Runs.{Ran, asked}
use Rattle.wstore.specs.Laws.{EndsRun, OneReading}
use Rattle.wlines.proofs.Decimals.{no_space}
use Rattle.wscript.proofs.Spelling.{line_lacks}

-- ---- words

first_byte : (a b : ℕ) (xs ys : List ℕ) → a ∷ xs ≡ b ∷ ys → a ≡ b
first_byte a b xs ys e = cc

behind_two : (a b c d : ℕ) (xs ys : List ℕ) → a ∷ b ∷ xs ≡ c ∷ d ∷ ys → xs ≡ ys
behind_two a b c d xs ys e = cc

one_number : (m n : ℕ) → m < 2 ^ 32 → n < 2 ^ 32 → decimal m ≡ decimal n → m ≡ n
one_number m n h k e = decimal_injective m n (omega (arith, h)) (omega (arith, k)) e

node_fits : (n : ℕ) → IsNode n → n < 2 ^ 32
node_fits n h = omega (arith, h.high)

slot_fits : (n : ℕ) → IsSlot n → n < 2 ^ 32
slot_fits n h = omega (arith, h.high)

piece_fits : (n : ℕ) → IsPieceLength n → n < 2 ^ 32
piece_fits n h = omega (arith, h.fits)

-- a number, a space, and what follows
one_front : (m n : ℕ) (xs ys : List ℕ) → m < 2 ^ 32 → n < 2 ^ 32 → decimal m ++ (32 ∷ xs) ≡ decimal n ++ (32 ∷ ys) → (m ≡ n) × (xs ≡ ys)
one_front m n xs ys h k e =
    let cut = cut_once 32 (decimal m) (decimal n) xs ys (no_space m h) (no_space n k) e in
    (one_number m n h k cut.0, cut.1)

one_word : (a b xs ys : List ℕ) → IsWord a → IsWord b → a ++ (32 ∷ xs) ≡ b ++ (32 ∷ ys) → (a ≡ b) × (xs ≡ ys)
one_word a b xs ys h k e = cut_once 32 a b xs ys h.no_space k.no_space e

one_pair : (a b c d : ℕ) → a < 2 ^ 32 → b < 2 ^ 32 → c < 2 ^ 32 → d < 2 ^ 32 → pair_words a b ≡ pair_words c d → (a ≡ c) × (b ≡ d)
one_pair a b c d h i j k e =
    let front = one_front a c (decimal b) (decimal d) h j e in
    (front.0, one_number b d i k front.1)

-- ---- bodies

one_body : (a b xs ys : List ℕ) → length a ≡ length b → (a ++ 10 ∷ []) ++ xs ≡ (b ++ 10 ∷ []) ++ ys → (a ≡ b) × (xs ≡ ys)
one_body a b xs ys size e =
    let cut = same_front a b (10 ∷ xs) (10 ∷ ys) size (sym (append_assoc a (10 ∷ []) xs) ∙ e ∙ append_assoc b (10 ∷ []) ys) in
    (cut.0, behind_one 10 10 xs ys cut.1)
  where
    behind_one : (x y : ℕ) (xs ys : List ℕ) → x ∷ xs ≡ y ∷ ys → xs ≡ ys
    behind_one x y xs ys e = cc

-- ---- one command

-- a line and what stands behind it are those of one command
one_command : (c e : Command) (xs ys : List ℕ) → IsForm (form_of c) → IsForm (form_of e)
    → line_of (form_of c) ≡ line_of (form_of e) → behind c ++ xs ≡ behind e ++ ys → (c ≡ e) × (xs ≡ ys)
one_command (Declare a) (Declare b) xs ys h k l r =
    let size = one_number (length a) (length b) h.fits k.fits (behind_two 84 32 84 32 _ _ l) in
    let body = one_body a b xs ys size r in
    (ap (λ x. Declare x) body.0, body.1)
one_command (Declare a) (Take i p j b) xs ys h k l r = absurd (omega (arith, first_byte 84 83 _ _ l))
one_command (Declare a) (Retire i p j) xs ys h k l r = absurd (omega (arith, first_byte 84 82 _ _ l))
one_command (Declare a) (RetireTo i p j) xs ys h k l r = absurd (omega (arith, first_byte 84 85 _ _ l))
one_command (Declare a) (Listing i) xs ys h k l r = absurd (omega (arith, first_byte 84 76 _ _ l))
one_command (Declare a) (Ask i b) xs ys h k l r = absurd (omega (arith, first_byte 84 81 _ _ l))
one_command (Declare a) (Feed i b) xs ys h k l r = absurd (omega (arith, first_byte 84 70 _ _ l))
one_command (Declare a) (Put i s) xs ys h k l r = absurd (omega (arith, first_byte 84 80 _ _ l))
one_command (Declare a) (Get s i) xs ys h k l r = absurd (omega (arith, first_byte 84 71 _ _ l))
one_command (Take n o m a) (Declare b) xs ys h k l r = absurd (omega (arith, first_byte 83 84 _ _ l))
one_command (Take n o m a) (Take i p j b) xs ys h k l r =
    let node = one_front n i _ _ (node_fits n h.0) (node_fits i k.0) (behind_two 83 32 83 32 _ _ l) in
    let origin = one_word o p _ _ h.1 k.1 node.1 in
    let number = one_word m j _ _ h.2 k.2 origin.1 in
    let body = one_body a b xs ys (one_number (length a) (length b) h.3.fits k.3.fits number.1) r in
    (λ t. Take (node.0 t) (origin.0 t) (number.0 t) (body.0 t), body.1)
one_command (Take n o m a) (Retire i p j) xs ys h k l r = absurd (omega (arith, first_byte 83 82 _ _ l))
one_command (Take n o m a) (RetireTo i p j) xs ys h k l r = absurd (omega (arith, first_byte 83 85 _ _ l))
one_command (Take n o m a) (Listing i) xs ys h k l r = absurd (omega (arith, first_byte 83 76 _ _ l))
one_command (Take n o m a) (Ask i b) xs ys h k l r = absurd (omega (arith, first_byte 83 81 _ _ l))
one_command (Take n o m a) (Feed i b) xs ys h k l r = absurd (omega (arith, first_byte 83 70 _ _ l))
one_command (Take n o m a) (Put i s) xs ys h k l r = absurd (omega (arith, first_byte 83 80 _ _ l))
one_command (Take n o m a) (Get s i) xs ys h k l r = absurd (omega (arith, first_byte 83 71 _ _ l))
one_command (Retire n o m) (Declare b) xs ys h k l r = absurd (omega (arith, first_byte 82 84 _ _ l))
one_command (Retire n o m) (Take i p j b) xs ys h k l r = absurd (omega (arith, first_byte 82 83 _ _ l))
one_command (Retire n o m) (Retire i p j) xs ys h k l r =
    let node = one_front n i _ _ (node_fits n h.0) (node_fits i k.0) (behind_two 82 32 82 32 _ _ l) in
    let origin = one_word o p _ _ h.1 k.1 node.1 in
    (λ t. Retire (node.0 t) (origin.0 t) (origin.1 t), r)
one_command (Retire n o m) (RetireTo i p j) xs ys h k l r = absurd (omega (arith, first_byte 82 85 _ _ l))
one_command (Retire n o m) (Listing i) xs ys h k l r = absurd (omega (arith, first_byte 82 76 _ _ l))
one_command (Retire n o m) (Ask i b) xs ys h k l r = absurd (omega (arith, first_byte 82 81 _ _ l))
one_command (Retire n o m) (Feed i b) xs ys h k l r = absurd (omega (arith, first_byte 82 70 _ _ l))
one_command (Retire n o m) (Put i s) xs ys h k l r = absurd (omega (arith, first_byte 82 80 _ _ l))
one_command (Retire n o m) (Get s i) xs ys h k l r = absurd (omega (arith, first_byte 82 71 _ _ l))
one_command (RetireTo n o m) (Declare b) xs ys h k l r = absurd (omega (arith, first_byte 85 84 _ _ l))
one_command (RetireTo n o m) (Take i p j b) xs ys h k l r = absurd (omega (arith, first_byte 85 83 _ _ l))
one_command (RetireTo n o m) (Retire i p j) xs ys h k l r = absurd (omega (arith, first_byte 85 82 _ _ l))
one_command (RetireTo n o m) (RetireTo i p j) xs ys h k l r =
    let node = one_front n i _ _ (node_fits n h.0) (node_fits i k.0) (behind_two 85 32 85 32 _ _ l) in
    let origin = one_word o p _ _ h.1 k.1 node.1 in
    (λ t. RetireTo (node.0 t) (origin.0 t) (origin.1 t), r)
one_command (RetireTo n o m) (Listing i) xs ys h k l r = absurd (omega (arith, first_byte 85 76 _ _ l))
one_command (RetireTo n o m) (Ask i b) xs ys h k l r = absurd (omega (arith, first_byte 85 81 _ _ l))
one_command (RetireTo n o m) (Feed i b) xs ys h k l r = absurd (omega (arith, first_byte 85 70 _ _ l))
one_command (RetireTo n o m) (Put i s) xs ys h k l r = absurd (omega (arith, first_byte 85 80 _ _ l))
one_command (RetireTo n o m) (Get s i) xs ys h k l r = absurd (omega (arith, first_byte 85 71 _ _ l))
one_command (Listing n) (Declare b) xs ys h k l r = absurd (omega (arith, first_byte 76 84 _ _ l))
one_command (Listing n) (Take i p j b) xs ys h k l r = absurd (omega (arith, first_byte 76 83 _ _ l))
one_command (Listing n) (Retire i p j) xs ys h k l r = absurd (omega (arith, first_byte 76 82 _ _ l))
one_command (Listing n) (RetireTo i p j) xs ys h k l r = absurd (omega (arith, first_byte 76 85 _ _ l))
one_command (Listing n) (Listing i) xs ys h k l r =
    (ap (λ x. Listing x) (one_number n i (node_fits n h) (node_fits i k) (behind_two 76 32 76 32 _ _ l)), r)
one_command (Listing n) (Ask i b) xs ys h k l r = absurd (omega (arith, first_byte 76 81 _ _ l))
one_command (Listing n) (Feed i b) xs ys h k l r = absurd (omega (arith, first_byte 76 70 _ _ l))
one_command (Listing n) (Put i s) xs ys h k l r = absurd (omega (arith, first_byte 76 80 _ _ l))
one_command (Listing n) (Get s i) xs ys h k l r = absurd (omega (arith, first_byte 76 71 _ _ l))
one_command (Ask n a) (Declare b) xs ys h k l r = absurd (omega (arith, first_byte 81 84 _ _ l))
one_command (Ask n a) (Take i p j b) xs ys h k l r = absurd (omega (arith, first_byte 81 83 _ _ l))
one_command (Ask n a) (Retire i p j) xs ys h k l r = absurd (omega (arith, first_byte 81 82 _ _ l))
one_command (Ask n a) (RetireTo i p j) xs ys h k l r = absurd (omega (arith, first_byte 81 85 _ _ l))
one_command (Ask n a) (Listing i) xs ys h k l r = absurd (omega (arith, first_byte 81 76 _ _ l))
one_command (Ask n a) (Ask i b) xs ys h k l r =
    let pair = one_pair n (length a) i (length b) (node_fits n h.0) h.1.fits (node_fits i k.0) k.1.fits (behind_two 81 32 81 32 _ _ l) in
    let body = one_body a b xs ys pair.1 r in
    (λ t. Ask (pair.0 t) (body.0 t), body.1)
one_command (Ask n a) (Feed i b) xs ys h k l r = absurd (omega (arith, first_byte 81 70 _ _ l))
one_command (Ask n a) (Put i s) xs ys h k l r = absurd (omega (arith, first_byte 81 80 _ _ l))
one_command (Ask n a) (Get s i) xs ys h k l r = absurd (omega (arith, first_byte 81 71 _ _ l))
one_command (Feed n a) (Declare b) xs ys h k l r = absurd (omega (arith, first_byte 70 84 _ _ l))
one_command (Feed n a) (Take i p j b) xs ys h k l r = absurd (omega (arith, first_byte 70 83 _ _ l))
one_command (Feed n a) (Retire i p j) xs ys h k l r = absurd (omega (arith, first_byte 70 82 _ _ l))
one_command (Feed n a) (RetireTo i p j) xs ys h k l r = absurd (omega (arith, first_byte 70 85 _ _ l))
one_command (Feed n a) (Listing i) xs ys h k l r = absurd (omega (arith, first_byte 70 76 _ _ l))
one_command (Feed n a) (Ask i b) xs ys h k l r = absurd (omega (arith, first_byte 70 81 _ _ l))
one_command (Feed n a) (Feed i b) xs ys h k l r =
    let pair = one_pair n (length a) i (length b) (node_fits n h.0) (piece_fits (length a) h.1) (node_fits i k.0)
    (piece_fits (length b) k.1) (behind_two 70 32 70 32 _ _ l) in
    let body = one_body a b xs ys pair.1 r in
    (λ t. Feed (pair.0 t) (body.0 t), body.1)
one_command (Feed n a) (Put i s) xs ys h k l r = absurd (omega (arith, first_byte 70 80 _ _ l))
one_command (Feed n a) (Get s i) xs ys h k l r = absurd (omega (arith, first_byte 70 71 _ _ l))
one_command (Put n q) (Declare b) xs ys h k l r = absurd (omega (arith, first_byte 80 84 _ _ l))
one_command (Put n q) (Take i p j b) xs ys h k l r = absurd (omega (arith, first_byte 80 83 _ _ l))
one_command (Put n q) (Retire i p j) xs ys h k l r = absurd (omega (arith, first_byte 80 82 _ _ l))
one_command (Put n q) (RetireTo i p j) xs ys h k l r = absurd (omega (arith, first_byte 80 85 _ _ l))
one_command (Put n q) (Listing i) xs ys h k l r = absurd (omega (arith, first_byte 80 76 _ _ l))
one_command (Put n q) (Ask i b) xs ys h k l r = absurd (omega (arith, first_byte 80 81 _ _ l))
one_command (Put n q) (Feed i b) xs ys h k l r = absurd (omega (arith, first_byte 80 70 _ _ l))
one_command (Put n q) (Put i s) xs ys h k l r =
    let pair = one_pair n q i s (node_fits n h.0) (slot_fits q h.1) (node_fits i k.0) (slot_fits s k.1) (behind_two 80 32 80 32 _ _ l) in
    (λ t. Put (pair.0 t) (pair.1 t), r)
one_command (Put n q) (Get s i) xs ys h k l r = absurd (omega (arith, first_byte 80 71 _ _ l))
one_command (Get q n) (Declare b) xs ys h k l r = absurd (omega (arith, first_byte 71 84 _ _ l))
one_command (Get q n) (Take i p j b) xs ys h k l r = absurd (omega (arith, first_byte 71 83 _ _ l))
one_command (Get q n) (Retire i p j) xs ys h k l r = absurd (omega (arith, first_byte 71 82 _ _ l))
one_command (Get q n) (RetireTo i p j) xs ys h k l r = absurd (omega (arith, first_byte 71 85 _ _ l))
one_command (Get q n) (Listing i) xs ys h k l r = absurd (omega (arith, first_byte 71 76 _ _ l))
one_command (Get q n) (Ask i b) xs ys h k l r = absurd (omega (arith, first_byte 71 81 _ _ l))
one_command (Get q n) (Feed i b) xs ys h k l r = absurd (omega (arith, first_byte 71 70 _ _ l))
one_command (Get q n) (Put i s) xs ys h k l r = absurd (omega (arith, first_byte 71 80 _ _ l))
one_command (Get q n) (Get s i) xs ys h k l r =
    let pair = one_pair q n s i (slot_fits q h.0) (node_fits n h.1) (slot_fits s k.0) (node_fits i k.1) (behind_two 71 32 71 32 _ _ l) in
    (λ t. Get (pair.0 t) (pair.1 t), r)

spell_front : (d : Bool) (c e : Command) (xs ys : List ℕ) → IsCommand d c → IsCommand d e → spell c ++ xs ≡ spell e ++ ys
    → (c ≡ e) × (xs ≡ ys)
spell_front d c e xs ys h k same =
    let cut =
    cut_once 10 (line_of (form_of c)) (line_of (form_of e)) (behind c ++ xs) (behind e ++ ys)
    (line_lacks (form_of c) h.form) (line_lacks (form_of e) k.form)
    (sym (append_assoc (line_of (form_of c)) (10 ∷ behind c) xs) ∙ same ∙ append_assoc (line_of (form_of e)) (10 ∷ behind e) ys) in
    one_command c e xs ys h.form k.form cut.0 cut.1

spell_some : (c : Command) (xs : List ℕ) → spell c ++ xs ≢ []
spell_some c xs e = omega (arith, ap length e, length-append (spell c) xs, length-append (line_of (form_of c)) (10 ∷ behind c))

-- ---- what is declared

-- a declaration in force stays
stays : (r : Reply) (o : Option Declaration) → is_some o ≡ true → is_some (declared_by r o) ≡ true
stays (Declared d) o e = refl
stays (RefusedTable fault) o e = e
stays (Took name word) o e = e
stays (Was name word) o e = e
stays (RefusedName fault) o e = e
stays (RefusedSegment fault) o e = e
stays (Names all) o e = e
stays (Answered bytes) o e = e
stays (RefusedQuery fault) o e = e
stays (Fed lines bad) o e = e
stays Done o e = e
stays (RefusedFile fault) o e = e
stays NoMemory o e = e

none_of : (o : Option Declaration) → is_some o ≡ false → o ≡ None
none_of None e = refl
none_of (Some d) e = cc

-- bytes that spell a declaration have no fault
pub no_fault : (bytes : List ℕ) (d : Declaration) (fault : SchemaFault) → ReadsDeclaration bytes (Ok d)
    → fault ≢ tables.NoMemory → IsRefusedFor bytes fault → ⊥
no_fault bytes d tables.Syntax is some h = h d (subst (Spells d) (sym is.1) is.0.spelled)
no_fault bytes d tables.RepeatedColumn is some h =
    let same : d ≡ h.0 = spells-one d h.0 bytes (subst (Spells d) (sym is.1) is.0.spelled) h.1 in
    let w : false ≡ true = sym is.0.distinct ∙ ap (λ (x : Declaration). repeats_name x.columns) same ∙ h.2 in
    cc
no_fault bytes d tables.ColumnCount is some h =
    let same : d ≡ h.0 = spells-one d h.0 bytes (subst (Spells d) (sym is.1) is.0.spelled) h.1 in
    let size : length d.columns ≡ length (h.0).columns = ap (λ (x : Declaration). length x.columns) same in
    elim h.3 [ inl none ↦ omega (arith, size, none, is.0.some) | inr many ↦ omega (arith, size, many, is.0.few) ]
no_fault bytes d tables.NoMemory is some h = some refl

-- what a reply to a declaration declares
pub data IsTold (bytes : List ℕ) (r : Reply) : Type 0 where
  with_table : (d : Declaration) → ReadsDeclaration bytes (Ok d) → r ≡ Declared d → IsTold bytes r
  with_fault : (fault : SchemaFault) → fault ≢ tables.NoMemory → IsRefusedFor bytes fault → r ≡ RefusedTable fault → IsTold bytes r

pub told_of : (bytes : List ℕ) (r : Reply) → DeclareAnswers bytes r → IsTold bytes r
told_of bytes (Declared d) a = with_table d a refl
told_of bytes (RefusedTable fault) a = with_fault fault a.0 a.1 refl
told_of bytes (Took name word) a = absurd a
told_of bytes (Was name word) a = absurd a
told_of bytes (RefusedName fault) a = absurd a
told_of bytes (RefusedSegment fault) a = absurd a
told_of bytes (Names all) a = absurd a
told_of bytes (Answered text) a = absurd a
told_of bytes (RefusedQuery fault) a = absurd a
told_of bytes (Fed lines bad) a = absurd a
told_of bytes Done a = absurd a
told_of bytes (RefusedFile fault) a = absurd a
told_of bytes NoMemory a = absurd a

-- two replies to a declaration both declare, or neither does
alike : (bytes : List ℕ) (r q : Reply) → IsTold bytes r → IsTold bytes q → is_some (declared_by r None) ≡ is_some (declared_by q None)
alike bytes r q (with_table d is e) (with_table f also k) = ap (λ x. is_some (declared_by x None)) e
    ∙ sym (ap (λ x. is_some (declared_by x None)) k)
alike bytes r q (with_table d is e) (with_fault fault some h k) = absurd (no_fault bytes d fault is some h)
alike bytes r q (with_fault fault some h k) (with_table d is e) = absurd (no_fault bytes d fault is some h)
alike bytes r q (with_fault fault some h e) (with_fault other some' h' k) = ap (λ x. is_some (declared_by x None)) e
    ∙ sym (ap (λ x. is_some (declared_by x None)) k)

declared_alike : (g h : List Step) (c : Command) (r q : Reply) → IsAllowed (is_declared g) c → Answers g c r → Answers h c q
    → is_declared g ≡ is_declared h → is_some (declared_by r (declaration g)) ≡ is_some (declared_by q (declaration h))
declared_alike g h (Declare bytes) r q allowed a b same =
    let none_g : declaration g ≡ None = none_of (declaration g) allowed in
    let none_h : declaration h ≡ None = none_of (declaration h) (sym same ∙ allowed) in
    ap (λ o. is_some (declared_by r o)) none_g
    ∙ alike bytes r q (told_of bytes r (told g none_g r a)) (told_of bytes q (told h none_h q b))
    ∙ sym (ap (λ o. is_some (declared_by q o)) none_h)
  where
    told : (h : List Step) → declaration h ≡ None → (r : Reply) → Answers h (Declare bytes) r → DeclareAnswers bytes r
    told h is r a = elim a [ inl x ↦ subst (λ o. AnswersUnder o h (Declare bytes) r) is x | inr x ↦ absurd x.0 ]
declared_alike g h (Take n o m bytes) r q allowed a b same = stays r (declaration g) allowed
    ∙ sym (stays q (declaration h) (sym same ∙ allowed))
declared_alike g h (Retire n o m) r q allowed a b same = stays r (declaration g) allowed
    ∙ sym (stays q (declaration h) (sym same ∙ allowed))
declared_alike g h (RetireTo n o m) r q allowed a b same = stays r (declaration g) allowed
    ∙ sym (stays q (declaration h) (sym same ∙ allowed))
declared_alike g h (Listing n) r q allowed a b same = stays r (declaration g) allowed ∙ sym (stays q (declaration h) (sym same ∙ allowed))
declared_alike g h (Ask n text) r q allowed a b same = stays r (declaration g) allowed ∙ sym (stays q (declaration h) (sym same ∙ allowed))
declared_alike g h (Feed n piece) r q allowed a b same = stays r (declaration g) allowed
    ∙ sym (stays q (declaration h) (sym same ∙ allowed))
declared_alike g h (Put n k) r q allowed a b same = stays r (declaration g) allowed ∙ sym (stays q (declaration h) (sym same ∙ allowed))
declared_alike g h (Get k n) r q allowed a b same = stays r (declaration g) allowed ∙ sym (stays q (declaration h) (sym same ∙ allowed))

-- ---- whole inputs

no_more : (h : List Step) (rest xs : List ℕ) (c : Command) → EndsRun h rest → IsCommand (is_declared h) c → rest ≡ spell c ++ xs → ⊥
no_more h rest xs c ends is e = elim ends [ inl none ↦ spell_some c xs (sym e ∙ none) | inr bad ↦ bad.none c xs is e ]

reads_alike : (old first : List Step) (s t g h : List Step) (rest more : List ℕ) → is_declared old ≡ is_declared first
    → Ran old s g → Ran first t h → EndsRun g rest → EndsRun h more → asked s ++ rest ≡ asked t ++ more
    → (map (λ x. x.command) s ≡ map (λ x. x.command) t) × (rest ≡ more)
reads_alike old first [] [] g h rest more same r q ends stops e = (refl, e)
reads_alike old first [] (y ∷ ys) g h rest more same r q ends stops e =
    absurd (no_more old rest (asked ys ++ more) y.command (subst (λ l. EndsRun l rest) r ends)
    (subst (λ b. IsCommand b y.command) (sym same) q.0) (e ∙ append_assoc (spell y.command) (asked ys) more))
reads_alike old first (x ∷ xs) [] g h rest more same r q ends stops e =
    absurd (no_more first more (asked xs ++ rest) x.command (subst (λ l. EndsRun l more) q stops)
    (subst (λ b. IsCommand b x.command) same r.0) (sym e ∙ append_assoc (spell x.command) (asked xs) rest))
reads_alike old first (x ∷ xs) (y ∷ ys) g h rest more same r q ends stops e =
    let one =
    spell_front (is_declared old) x.command y.command (asked xs ++ rest) (asked ys ++ more) r.0
    (subst (λ b. IsCommand b y.command) (sym same) q.0)
    (sym (append_assoc (spell x.command) (asked xs) rest) ∙ e ∙ append_assoc (spell y.command) (asked ys) more) in
    let still = declared_alike old first x.command x.reply y.reply r.0.allowed r.1 (subst (λ c. Answers first c y.reply)
    (sym one.0) q.1) same in
    let others = reads_alike (x ∷ old) (y ∷ first) xs ys g h rest more still r.2 q.2 ends stops one.1 in
    (λ i. one.0 i ∷ others.0 i, others.1)

pub one_reading : OneReading
one_reading s t g h rest more r q ends stops e = reads_alike [] [] s t g h rest more refl r q ends stops e
