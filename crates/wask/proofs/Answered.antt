-- What a node establishes as it answers a text.
use Rattle.std.proofs.Common.{◌≡◌, ◌⊎◌, inl, inr, List, ℕ, true, false, Result, Ok, Err, IfErr, MatchResult, refl, sym, ap, ◌∙◌}
use Rattle.std.proofs.lemmas.Bool.{false≢true}
use Rattle.wsegment.specs.Declaration.{Declaration}
use Rattle.wset.specs.Views.{View}
use Rattle.wquery.specs.QueryTree.{QueryTree}
use Rattle.wplanner.specs.declared.fault.AskFault.{AskFault}
use Rattle.wplanner.specs.declared.fault.AskFault.TheVariants as faults
use Rattle.wask.specs.Texts.{IsRefused, IsUnread, Reads}
use Rattle.wask.specs.Answer.{IsAnswer, comes_before_rows, query_answer}
use Rattle.wplanner.specs.Faults as rows
use Rattle.wplanner.specs.Parts.{TableParts}
use Rattle.wplanner.specs.Texts.{printed}
use Rattle.wrows.specs.declared.fault.AnswerFault.{AnswerFault}
use Rattle.wrows.specs.declared.fault.AnswerFault.TheVariants as answers

-- a fault that is want of memory or an answer
abbrev IsTold : Declaration → View → List ℕ → AskFault → Type 0
IsTold d v text fault = (fault ≡ faults.NoMemory) ⊎ IsAnswer d v text (Err fault)

unread_told : (d : Declaration) (v : View) (text : List ℕ) (fault : AskFault) → IsUnread text fault → IsTold d v text fault
unread_told d v text faults.TooLong a = inr (inl a)
unread_told d v text faults.NotUtf8 a = inr (inl a)
unread_told d v text (faults.At k) a = inr (inl a)
unread_told d v text faults.Syntax a = inr (inl a)
unread_told d v text (faults.Broken r) a = inr (inl a)
unread_told d v text faults.OutOfRange a = inr (inl a)
unread_told d v text faults.TooManyRows a = inr (inl a)
unread_told d v text faults.NoMemory a = absurd a

-- a text that spells no query
pub refused : (d : Declaration) (v : View) (text : List ℕ) (fault : AskFault) → IsRefused text fault
    → (fault ≡ faults.NoMemory) ⊎ IsAnswer d v text (Err fault)
refused d v text fault (inl e) = inl e
refused d v text fault (inr a) = unread_told d v text fault a

read_told : (d : Declaration) (v : View) (text : List ℕ) (q : QueryTree) (fault : AskFault) → Reads text q
    → (query_answer d v q ≡ Err fault) → IsTold d v text fault
read_told d v text q faults.TooLong reads a = inr (inr (q, reads, a))
read_told d v text q faults.NotUtf8 reads a = inr (inr (q, reads, a))
read_told d v text q (faults.At k) reads a = inr (inr (q, reads, a))
read_told d v text q faults.Syntax reads a = inr (inr (q, reads, a))
read_told d v text q (faults.Broken r) reads a = inr (inr (q, reads, a))
read_told d v text q faults.OutOfRange reads a = inr (inr (q, reads, a))
read_told d v text q faults.TooManyRows reads a = inr (inr (q, reads, a))
read_told d v text q faults.NoMemory reads a = inl refl

-- a query that is not answered
pub unanswered : (d : Declaration) (v : View) (text : List ℕ) (q : QueryTree) (fault : AskFault) → Reads text q
    → (fault ≡ faults.NoMemory) ⊎ (query_answer d v q ≡ Err fault) → (fault ≡ faults.NoMemory) ⊎ IsAnswer d v text (Err fault)
unanswered d v text q fault reads (inl e) = inl e
unanswered d v text q fault reads (inr a) = read_told d v text q fault reads a

-- what a query is answered, where the text spells it
pub answered_by : {A : Type 0} (d : Declaration) (v : View) (text : List ℕ) (q : QueryTree) (items : A
    → List ℕ) (r : Result A AskFault) → Reads text q
    → MatchResult r (λ a. (query_answer d v q ≡ Ok (items a))) (λ fault. (fault ≡ faults.NoMemory) ⊎ (query_answer d v q ≡ Err fault))
    → MatchResult r (λ a. IsAnswer d v text (Ok (items a))) (λ fault. (fault ≡ faults.NoMemory) ⊎ IsAnswer d v text (Err fault))
answered_by d v text q items (Ok a) reads told = (q, reads, told)
answered_by d v text q items (Err fault) reads told = unanswered d v text q fault reads told

abbrev fault_in : Result (List ℕ) AskFault → AskFault
fault_in (Ok bytes) = faults.NoMemory
fault_in (Err fault) = fault

-- what is answered on rows is no refusal of the text
pub refused_on_rows : {A : Type 0} (r : Result A AskFault) (P : A → Type 0) (Q : Type 0) (meant : Result TableParts AnswerFault)
    → MatchResult r P (λ fault. (fault ≡ faults.NoMemory) ⊎ (printed meant ≡ Err fault))
    → IfErr r (λ fault. comes_before_rows fault ≡ true → Q)
refused_on_rows (Ok x) P Q meant is = tt
refused_on_rows (Err faults.NoMemory) P Q meant is = λ before. absurd (false≢true before)
refused_on_rows (Err faults.OutOfRange) P Q meant is = λ before. absurd (false≢true before)
refused_on_rows (Err faults.TooManyRows) P Q meant is = λ before. absurd (false≢true before)
refused_on_rows (Err f) P Q meant (inl e) = λ before. absurd (false≢true (ap comes_before_rows (sym e) ∙ before))
refused_on_rows (Err f) P Q (Ok table) (inr e) = λ before. absurd (cc)
refused_on_rows (Err f) P Q (Err g) (inr e) = λ before. absurd (false≢true (sym (behind g) ∙ ap comes_before_rows (ap fault_in e) ∙ before))
  where
    behind : (g : AnswerFault) → comes_before_rows (rows.unanswered g) ≡ false
    behind answers.OutOfRange = refl
    behind answers.TooManyRows = refl
    behind answers.NoMemory = refl
