-- A query that is one SELECT, from the text of the rows that this answers.
use Rattle.std.proofs.Common.{◌≡◌, ◌⊎◌, inl, inr, ℕ, List, [], ◌∷◌, get_or, length, map, Result, Ok, Err, sym, ap, ◌∙◌, refl, arith}
use Rattle.wplan.specs.Plans.{SelectPlan, select_plan}
use Rattle.wplan.specs.declared.resolved.Selection.{Selection}
use Rattle.wprinted.specs.Printing.{table_text}
use Rattle.wrows.specs.declared.fault.AnswerFault.{AnswerFault}
use Rattle.wrows.specs.declared.fault.AnswerFault.TheVariants.{OutOfRange, TooManyRows, NoMemory}
use Rattle.wrows.specs.Columns.{Row}
use Rattle.wrows.specs.Outcomes.{◌>>=◌, Gives}
use Rattle.wplanner.specs.Answers.{select_of}
use Rattle.wplanner.specs.Faults.{unanswered}
use Rattle.wplanner.specs.Lent.{text_in}
use Rattle.wplanner.specs.Texts.{plan_answer, printed}
use Rattle.wplanner.specs.declared.fault.AskFault.{AskFault}
use Rattle.wplanner.specs.declared.fault.AskFault.TheVariants as faults

-- a query that is one SELECT
pub one_is : (ss : List Selection) (d : Selection) → length ss ≡ 1 → map select_plan ss ≡ select_plan (get_or ss 0 d) ∷ []
one_is [] d one = absurd (omega arith)
one_is (s ∷ []) d one = refl
one_is (s ∷ t ∷ ss) d one = absurd (omega arith)

abbrev printed_of : SelectPlan → Result (List Row) AnswerFault → Result (List ℕ) AskFault
printed_of s r = printed ((r >>= λ rows. Ok rows) >>= λ rows. Ok (record { names = map (λ o. o.name) s.items; rows = rows }))

pub plan_is : (s : SelectPlan) (rows : List Row) (bytes : List ℕ) → text_in s (select_of s rows) ≡ Ok bytes
    → plan_answer (s ∷ []) rows ≡ Ok bytes
plan_is s rows bytes h = go (select_of s rows) h
  where
    go : (r : Result (List Row) AnswerFault) → text_in s r ≡ Ok bytes → printed_of s r ≡ Ok bytes
    go (Ok cells) h = let same : table_text (map (λ o. o.name) s.items) cells ≡ bytes = cc in ap Ok same
    go (Err fault) h = absurd (cc)

pub plan_fails : {Y : Type 0} (whole : Y → List ℕ) (s : SelectPlan) (rows : List Row) (fault : AnswerFault)
    (asked : AskFault) → asked ≡ unanswered fault → Gives whole (Err fault) (text_in s (select_of s rows))
    → (asked ≡ faults.NoMemory) ⊎ (plan_answer (s ∷ []) rows ≡ Err asked)
plan_fails {Y} whole s rows fault asked e h = go (select_of s rows) fault e h
  where
    go : (r : Result (List Row) AnswerFault) (fault : AnswerFault) → asked ≡ unanswered fault
        → Gives whole (Err fault) (text_in s r) → (asked ≡ faults.NoMemory) ⊎ (printed_of s r ≡ Err asked)
    go r NoMemory e h = inl e
    go (Ok cells) OutOfRange e h = absurd (cc)
    go (Ok cells) TooManyRows e h = absurd (cc)
    go (Err f) OutOfRange e h = let same : f ≡ OutOfRange = cc in inr (ap (λ f. Err (unanswered f)) same ∙ ap Err (sym e))
    go (Err f) TooManyRows e h = let same : f ≡ TooManyRows = cc in inr (ap (λ f. Err (unanswered f)) same ∙ ap Err (sym e))
