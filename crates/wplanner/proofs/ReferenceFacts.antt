-- The text of the rows that references tell.
use Rattle.std.proofs.Common.{◌≡◌, ℕ, ◌<◌, ◌^◌, Bool, true, false, List, [], ◌∷◌, append-nil, length}
use Rattle.std.proofs.Common.{map, nat_lt, None, Result, Ok, Err, refl, sym, ap, ◌∙◌, subst, arith}
use Rattle.std.proofs.lemmas.Bool.Decides.{nat_tests}
use Rattle.std.proofs.lemmas.Cmp.{on_total}
use Rattle.std.proofs.lemmas.List.{length-map}
use Rattle.std.proofs.lemmas.List.Elements.{recursion_from_All}
use Rattle.std.specs.Ordering.{on}
use Rattle.wvalues.specs.Meaning.{Meaning}
use Rattle.wvalues.specs.Order.{keys_cmp}
use Rattle.wvalues.specs.OrderLaws.{keys_total}
use Rattle.wframe.proofs.SortFacts.{length_sorted}
use Rattle.wframe.specs.Peers.{key_at}
use Rattle.wframe.specs.Places.{places}
use Rattle.wplan.specs.Plans.{KeyPlan, SelectPlan}
use Rattle.wprinted.specs.Printing.{table_text, values_at}
use Rattle.wrows.specs.declared.fault.AnswerFault.{AnswerFault}
use Rattle.wrows.specs.declared.fault.AnswerFault.TheVariants.{OutOfRange, TooManyRows, NoMemory}
use Rattle.wrows.specs.Columns.{Row, beside, lists_of, not_too_many}
use Rattle.wrows.specs.Outcomes.{◌>>=◌, Gives, unless}
use Rattle.wrows.specs.Plain.{cut, kept_of, numbers_by}
use Rattle.wrows.specs.Picked.{row_beside}
use Rattle.wrows.proofs.RowFacts.{length-places, map-cut}
use Rattle.wruns.specs.Orderings.{kept_numbers}
use Rattle.wruns.specs.Runs.{joined}
use Rattle.wruns.specs.declared.refs.RowRef.{RowRef}
use Rattle.wtable.specs.Referenced.{referenced_row}
use Rattle.wtable.specs.TableOrders.{IsOrderFor, IsRowOf, by_keys, holds_by}
use Rattle.wtable.proofs.NumberFacts.{all_filtered, few_is}
use Rattle.wtable.proofs.ReferenceFacts.{presorted_rows}
use Rattle.wplanner.specs.Answers.{select_of}
use Rattle.wplanner.specs.Lent.{ReadsPlaces, text_in}
use Rattle.wplanner.specs.Sound.{is_sound_select}
use Rattle.wplanner.proofs.BesideFacts.{kept_fails, kept_is, sorted_is}
use Rattle.wplanner.proofs.PlanFacts.{beside_nothing}

-- there are as many numbers in order as rows
long_given : (plans : List KeyPlan) (rows : List Row) (numbers : List ℕ) → by_keys plans [] rows ≡ Ok numbers → length numbers ≡ length rows
long_given plans rows numbers e = go (lists_of (map (λ k. k.value) plans) (beside rows [])) e
  where
    go : (by : Result (List (List Meaning)) AnswerFault)
        → (by >>= λ by. Ok (numbers_by (map (λ k. k.order) plans) by (length (beside rows [])))) ≡ Ok numbers → length numbers ≡ length rows
    go (Ok by) h =
        let n = length (beside rows []) in
        let same : numbers_by (map (λ k. k.order) plans) by n ≡ numbers = cc in
        let cmp = on (key_at by) (keys_cmp (map (λ k. k.order) plans)) in
        ap length (sym same) ∙ length_sorted cmp (on_total (key_at by) (keys_total (map (λ k. k.order) plans))) (places n)
        ∙ length-places 0 n
        ∙ length-map (places (length rows)) _ ∙ length-places 0 (length rows)
    go (Err fault) h = absurd (cc)

-- as many rows are as much too many
few_alike : (rows found : List Row) → length found ≡ length rows → length found < 2 ^ 31 → not_too_many rows ≡ Ok rows
few_alike rows found long few =
    let fits : nat_lt 2147483647 (length rows) ≡ false = grind (arith, nat_tests, long, few) in
    ap (λ b. unless b TooManyRows rows) fits

many_alike : {X Y : Type 0} (view : X → List Row) (whole : Y → List Row) (fault : AnswerFault) (rows found : List Row)
    → length found ≡ length rows → Gives view (Err fault) (not_too_many found) → Gives whole (Err fault) (not_too_many rows)
many_alike {X} {Y} view whole fault rows found long refused =
    subst (λ n. Gives whole (Err fault) (unless (nat_lt 2147483647 n) TooManyRows rows)) long
    (go (nat_lt 2147483647 (length found)) fault refused)
  where
    go : (b : Bool) (fault : AnswerFault) → Gives view (Err fault) (unless b TooManyRows found)
        → Gives whole (Err fault) (unless b TooManyRows rows)
    go b NoMemory h = tt
    go true OutOfRange h = absurd (cc)
    go true TooManyRows h = refl
    go false OutOfRange h = absurd (cc)
    go false TooManyRows h = absurd (cc)

-- rows of numbers, beside which nothing stands
none_beside : (rows : List Row) (numbers : List ℕ) → map (row_beside rows []) numbers ≡ map (key_at rows) numbers
none_beside rows [] = refl
none_beside rows (i ∷ numbers) = ap (λ r. r ∷ map (row_beside rows []) numbers) (append-nil (key_at rows i))
    ∙ ap (λ l. key_at rows i ∷ l) (none_beside rows numbers)

module _ (s : SelectPlan) (ps : List ℕ) (reads : ReadsPlaces s ps) (sound : is_sound_select s ≡ true)
    (none : length s.windows ≡ 0) (all : s.condition ≡ None) (segments : List (List Row)) (refs : List RowRef)
    (of : IsOrderFor segments (by_keys s.keys []) refs) where
  abbrev rows : List Row
  rows = joined segments

  abbrev numbers : List ℕ
  numbers = kept_numbers (holds_by None) segments refs

  in_order : by_keys s.keys [] rows ≡ Ok numbers
  in_order = ap (by_keys s.keys []) (sym (all_filtered rows)) ∙ of.orders (holds_by None)

  are_presorted : map (key_at rows) numbers ≡ map (referenced_row segments) refs
  are_presorted = presorted_rows segments refs (recursion_from_All (IsRowOf segments) refs of.within)

  long : length (map (referenced_row segments) refs) ≡ length rows
  long = ap length (sym are_presorted) ∙ length-map numbers (key_at rows) ∙ long_given s.keys rows numbers in_order

  kept_all : kept_of s.condition rows ≡ not_too_many rows
  kept_all = ap (λ condition. kept_of condition rows) all

  abbrev text_of : List Row → List ℕ
  text_of rows = table_text (map (λ o. o.name) s.items) (map (values_at ps) rows)

  -- the rows of the numbers, as they are asked for
  asked_are : (found : List Row) → found ≡ map (referenced_row segments) refs → cut s.offset s.limit (beside found [])
      ≡ map (row_beside rows []) (cut s.offset s.limit numbers)
  asked_are found is =
      ap (cut s.offset s.limit) (beside_nothing found ∙ is ∙ sym are_presorted ∙ sym (none_beside rows numbers))
      ∙ sym (map-cut (row_beside rows []) s.offset s.limit numbers)

  -- the text of all rows, as references tell them
  pub referenced_is : (found : List Row) (bytes : List ℕ) → not_too_many (map (referenced_row segments) refs) ≡ Ok found
      → bytes ≡ text_of (cut s.offset s.limit (beside found [])) → text_in s (select_of s rows) ≡ Ok bytes
  referenced_is found bytes judged printed =
      let few = few_is (map (referenced_row segments) refs) found judged in
      kept_is s ps reads rows rows (kept_all ∙ few_alike rows found (ap length few.0 ∙ long) few.1)
      ∙ sorted_is s ps reads rows numbers bytes sound none in_order (printed ∙ ap text_of (asked_are found few.0))

  pub referenced_fails : {X Y : Type 0} (view : X → List Row) (whole : Y → List ℕ) (fault : AnswerFault)
      → Gives view (Err fault) (not_too_many (map (referenced_row segments) refs)) → Gives whole (Err fault) (text_in s (select_of s rows))
  referenced_fails {X} view whole fault refused =
      let P : Result (List Row) AnswerFault → Type 0 = λ r. Gives view (Err fault) r in
      kept_fails s ps reads view whole fault rows
      (subst P (sym kept_all) (many_alike view view fault rows (map (referenced_row segments) refs) long refused))
