-- Items of rows that are presorted are the items of the rows in order.
use Rattle.std.proofs.Common.{◌≡◌, ℕ, Bool, true, false, List, length, map, Option, Result, Ok, Err, refl, sym, ap, ◌∙◌}
use Rattle.std.proofs.lemmas.List.{length-map}
use Rattle.wvalues.specs.declared.key.SortKey.{SortKey}
use Rattle.wvalues.specs.Meaning.{Meaning}
use Rattle.wframe.specs.Peers.{key_at}
use Rattle.wplan.specs.Formula.{Formula}
use Rattle.wrows.specs.declared.fault.AnswerFault.{AnswerFault}
use Rattle.wrows.specs.declared.fault.AnswerFault.TheVariants.{OutOfRange, TooManyRows, NoMemory}
use Rattle.wrows.specs.Outcomes.{Gives, unless, ◌>>=◌}
use Rattle.wrows.specs.Columns.{Row, lists_of, value_on}
use Rattle.wrows.specs.Plain.{cut, numbers_by, ordered, ordered_of}
use Rattle.wrows.specs.Picked.{asked_of, items_at, numbers_of}
use Rattle.wrows.proofs.PickFacts.{items_asked}
use Rattle.wrows.proofs.RowFacts.{then_ok}

-- there are as many lists as rows
lists_long : (ts : List Formula) (rows : List Row) (lists : List (List Meaning)) → lists_of ts rows ≡ Ok lists → length lists ≡ length rows
lists_long ts rows lists e = go _ e
  where
    listed : List (List Meaning)
    listed = map (λ row. map (λ t. value_on t row) ts) rows

    go : (b : Bool) → unless b OutOfRange listed ≡ Ok lists → length lists ≡ length rows
    go true h = absurd (cc)
    go false h = let same : listed ≡ lists = cc in sym (ap length same) ∙ length-map rows (λ row. map (λ t. value_on t row) ts)

module _ (ts ks : List Formula) (order : List SortKey) (offset : ℕ) (limit : Option ℕ) (rows : List Row) where
  -- the rows of the numbers that are asked for
  pub asked_is : (taken : List ℕ) → asked_of ks order offset limit rows ≡ Ok taken
      → items_at ts taken rows ≡ ordered_of ts ks order offset limit rows
  asked_is taken asked = go (lists_of ts rows) refl
    where
      go : (lists : Result (List (List Meaning)) AnswerFault) → lists_of ts rows ≡ lists
          → items_at ts taken rows ≡ ordered_of ts ks order offset limit rows
      go (Ok lists) e =
          then_ok lists (lists_of ts rows) (λ lists. Ok (map (key_at lists) taken)) e
          ∙ sym (items_asked ts ks order offset limit rows lists taken e (lists_long ts rows lists e) asked)
      go (Err fault) e =
          ap (λ r. r >>= λ lists. Ok (map (key_at lists) taken)) e
          ∙ sym (ap (λ r. r >>= λ lists. lists_of ks rows >>= λ by. Ok (cut offset limit (ordered order by lists))) e)

  -- where there are no numbers, since a key is out of range, there are no rows
  pub asked_fails : {X Y : Type 0} (numbers : X → List ℕ) (view : Y → List Row) (fault : AnswerFault)
      → Gives numbers (Err fault) (asked_of ks order offset limit rows) → Gives view (Err fault) (ordered_of ts ks order offset limit rows)
  asked_fails {X} {Y} numbers view fault gives = go _ _ fault gives
    where
      listed : List Row
      listed = map (λ row. map (λ t. value_on t row) ts) rows

      by : List (List Meaning)
      by = map (λ row. map (λ t. value_on t row) ks) rows

      go : (a b : Bool) (fault : AnswerFault)
          → Gives numbers (Err fault) (unless a OutOfRange by >>= λ by. Ok (cut offset limit (numbers_by order by (length rows))))
          → Gives view (Err fault) (unless b OutOfRange listed >>= λ listed. unless a OutOfRange by >>= λ by.
          Ok (cut offset limit (ordered order by listed)))
      go true true OutOfRange h = refl
      go true false OutOfRange h = refl
      go false b OutOfRange h = absurd (cc)
      go true b TooManyRows h = absurd (cc)
      go false b TooManyRows h = absurd (cc)
      go a b NoMemory h = tt

  -- the numbers that are asked for are cut from those of all
  asked_numbers : (numbers taken : List ℕ) → numbers_of ks order rows ≡ Ok numbers → taken ≡ cut offset limit numbers
      → asked_of ks order offset limit rows ≡ Ok taken
  asked_numbers numbers taken listed is = go (lists_of ks rows) listed
    where
      go : (by : Result (List (List Meaning)) AnswerFault) → (by >>= λ by. Ok (numbers_by order by (length rows)))
          ≡ Ok numbers → (by >>= λ by. Ok (cut offset limit (numbers_by order by (length rows)))) ≡ Ok taken
      go (Ok by) h = let same : numbers_by order by (length rows) ≡ numbers = cc in ap (λ l. Ok (cut offset limit l)) same ∙ ap Ok (sym is)
      go (Err fault) h = absurd (cc)

  pub items_are : (numbers taken : List ℕ) → numbers_of ks order rows ≡ Ok numbers → taken ≡ cut offset limit numbers
      → items_at ts taken rows ≡ ordered_of ts ks order offset limit rows
  items_are numbers taken listed is = asked_is taken (asked_numbers numbers taken listed is)
