-- A text has one answer.
use Rattle.std.proofs.Common.{◌≡◌, ◌⊎◌, inl, inr, ℕ, ◌<◌, ◌≤◌, List, length, Result, Ok, Err, refl, sym, ap, ◌∙◌, subst, arith}
use Rattle.wsegment.specs.Declaration.{Declaration}
use Rattle.wset.specs.Views.{View}
use Rattle.wlexer.proofs.OneLexing.{one_list, tokens_or_fault, one_place}
use Rattle.wquery.specs.QueryTree.{QueryTree}
use Rattle.wparser.specs.Queries.{Spells}
use Rattle.wparser.proofs.Singles.{one_query}
use Rattle.wplanner.specs.declared.fault.AskFault.{AskFault}
use Rattle.wplanner.specs.declared.fault.AskFault.TheVariants as faults
use Rattle.wask.specs.Texts.{IsUnread, Reads, said}
use Rattle.wask.specs.Answer.{IsAnswer, query_answer}

long_or_short : (text : List ℕ) → 65536 < length text → ¬ (length text ≤ 65536)
long_or_short text long short = omega (arith, long, short)

-- a text is read as one query
pub read_once : (text : List ℕ) (p q : QueryTree) → Reads text p → Reads text q → p ≡ q
read_once text p q a b = one_query p q (said b.1) (subst (λ t. Spells p (said t)) (one_list text a.1 b.1 a.2 b.2) a.3) b.3

-- a text that is read is not refused
read_or_not : (text : List ℕ) (fault : AskFault) (q : QueryTree) → IsUnread text fault → Reads text q → ⊥
read_or_not text faults.TooLong q a b = long_or_short text a b.0.0
read_or_not text faults.NotUtf8 q a b = b.0.1 a.1
read_or_not text (faults.At k) q a b = tokens_or_fault text b.1 k b.2 a.1
read_or_not text faults.Syntax q a b = a.3 q (subst (λ t. Spells q (said t)) (one_list text b.1 a.1 b.2 a.2) b.3)
read_or_not text (faults.Broken r) q a b = absurd a
read_or_not text faults.OutOfRange q a b = absurd a
read_or_not text faults.TooManyRows q a b = absurd a
read_or_not text faults.NoMemory q a b = absurd a

-- a text is refused for one reason
unread_once : (text : List ℕ) (f g : AskFault) → IsUnread text f → IsUnread text g → f ≡ g
unread_once text faults.TooLong faults.TooLong a b = refl
unread_once text faults.TooLong faults.NotUtf8 a b = absurd (long_or_short text a b.0)
unread_once text faults.TooLong (faults.At k) a b = absurd (long_or_short text a b.0.0)
unread_once text faults.TooLong faults.Syntax a b = absurd (long_or_short text a b.0.0)
unread_once text faults.NotUtf8 faults.TooLong a b = absurd (long_or_short text b a.0)
unread_once text faults.NotUtf8 faults.NotUtf8 a b = refl
unread_once text faults.NotUtf8 (faults.At k) a b = absurd (b.0.1 a.1)
unread_once text faults.NotUtf8 faults.Syntax a b = absurd (b.0.1 a.1)
unread_once text (faults.At k) faults.TooLong a b = absurd (long_or_short text b a.0.0)
unread_once text (faults.At k) faults.NotUtf8 a b = absurd (a.0.1 b.1)
unread_once text (faults.At k) (faults.At j) a b = ap faults.At (one_place text k j a.1 b.1)
unread_once text (faults.At k) faults.Syntax a b = absurd (tokens_or_fault text b.1 k b.2 a.1)
unread_once text faults.Syntax faults.TooLong a b = absurd (long_or_short text b a.0.0)
unread_once text faults.Syntax faults.NotUtf8 a b = absurd (a.0.1 b.1)
unread_once text faults.Syntax (faults.At k) a b = absurd (tokens_or_fault text a.1 k a.2 b.1)
unread_once text faults.Syntax faults.Syntax a b = refl
unread_once text (faults.Broken r) g a b = absurd a
unread_once text faults.OutOfRange g a b = absurd a
unread_once text faults.TooManyRows g a b = absurd a
unread_once text faults.NoMemory g a b = absurd a
unread_once text f (faults.Broken r) a b = absurd b
unread_once text f faults.OutOfRange a b = absurd b
unread_once text f faults.TooManyRows a b = absurd b
unread_once text f faults.NoMemory a b = absurd b

-- an answer by where it comes from: the text, or its query
abbrev Told : Declaration → View → List ℕ → Result (List ℕ) AskFault → Type 0
Told d v text a = ((fault : AskFault) × IsUnread text fault × (a ≡ Err fault)) ⊎ ((q : QueryTree) × Reads text q × (query_answer d v q ≡ a))

told_fault : (d : Declaration) (v : View) (text : List ℕ) (fault : AskFault) → IsUnread text fault
    ⊎ ((q : QueryTree) × Reads text q × (query_answer d v q ≡ (Err fault))) → Told d v text (Err fault)
told_fault d v text fault (inl unread) = inl (fault, unread, refl)
told_fault d v text fault (inr read) = inr read

told : (d : Declaration) (v : View) (text : List ℕ) (a : Result (List ℕ) AskFault) → IsAnswer d v text a → Told d v text a
told d v text (Ok bytes) is = inr is
told d v text (Err faults.TooLong) is = told_fault d v text faults.TooLong is
told d v text (Err faults.NotUtf8) is = told_fault d v text faults.NotUtf8 is
told d v text (Err (faults.At k)) is = told_fault d v text (faults.At k) is
told d v text (Err faults.Syntax) is = told_fault d v text faults.Syntax is
told d v text (Err (faults.Broken r)) is = told_fault d v text (faults.Broken r) is
told d v text (Err faults.OutOfRange) is = told_fault d v text faults.OutOfRange is
told d v text (Err faults.TooManyRows) is = told_fault d v text faults.TooManyRows is
told d v text (Err faults.NoMemory) is = absurd is

told_once : (d : Declaration) (v : View) (text : List ℕ) (a b : Result (List ℕ) AskFault) → Told d v text a → Told d v text b → a ≡ b
told_once d v text a b (inl x) (inl y) = x.2 ∙ (ap Err (unread_once text x.0 y.0 x.1 y.1) ∙ sym y.2)
told_once d v text a b (inl x) (inr y) = absurd (read_or_not text x.0 y.0 x.1 y.1)
told_once d v text a b (inr x) (inl y) = absurd (read_or_not text y.0 x.0 y.1 x.1)
told_once d v text a b (inr x) (inr y) = sym (subst (λ q. query_answer d v q ≡ a) (read_once text x.0 y.0 x.1 y.1) x.2) ∙ y.2

pub one_answer : (d : Declaration) (v : View) (text : List ℕ) (a b : Result (List ℕ) AskFault) → IsAnswer d v text a
    → IsAnswer d v text b → a ≡ b
one_answer d v text a b is_a is_b = told_once d v text a b (told d v text a is_a) (told d v text b is_b)
