-- The text of a SELECT whose items stand at places, from its rows and the columns of what its calls answer.
use Rattle.std.proofs.Common.{◌≡◌, ℕ, zero, suc, ◌+◌, ◌-◌, ◌<◌, ◌||◌, false, List, [], ◌∷◌, drop, get_or, length}
use Rattle.std.proofs.Common.{map, min, take, Option, Result, Ok, Err, true, refl, sym, ap, ◌∙◌, subst, arith}
use Rattle.std.specs.List.{AllByRecursion, list_any, range_with_len}
use Rattle.std.proofs.lemmas.List.{get_or-map, length-map}
use Rattle.std.proofs.lemmas.List.Elements.{recursion_from_All}
use Rattle.wvalues.specs.declared.key.SortKey.{SortKey}
use Rattle.wvalues.specs.Meaning.{Meaning}
use Rattle.wframe.specs.Peers.{key_at}
use Rattle.wframe.specs.Places.{places, places_from}
use Rattle.wplan.specs.Formula.{At, Formula}
use Rattle.wplan.specs.Plans.{KeyPlan, SelectPlan}
use Rattle.wprinted.specs.Beside.{rows_from}
use Rattle.wprinted.specs.Printing.{table_text, values_at}
use Rattle.wrows.specs.declared.fault.AnswerFault.{AnswerFault}
use Rattle.wrows.specs.declared.fault.AnswerFault.TheVariants.{OutOfRange, TooManyRows, NoMemory}
use Rattle.wrows.specs.Outcomes.{◌>>=◌, Gives, unless}
use Rattle.wrows.specs.Columns.{Row, beside, is_out_of_range, lists_of, value_on}
use Rattle.wrows.specs.Picked.{numbers_of, row_beside}
use Rattle.wrows.specs.Plain.{at_most_limit, cut, kept_of, numbers_by, ordered, ordered_of}
use Rattle.wrows.proofs.KeyFacts.{by_no_key}
use Rattle.wrows.proofs.RowFacts.{cut_numbers, length-places, map-cut, map-map, then_ok, then_refused}
use Rattle.wplanner.specs.Answers.{items_of, left_items, left_rows, select_of}
use Rattle.wplanner.specs.ByWindow.{columns_from, columns_of_calls}
use Rattle.wplanner.specs.Lent.{ReadsPlaces, text_in}
use Rattle.wplanner.specs.Sound.{is_sound_select}
use Rattle.wtable.specs.TableOrders.{by_keys}
use Rattle.wtable.proofs.ColumnFacts.{below_keys, beside_long}
use Rattle.wplanner.proofs.PlanFacts.{beside_nothing, no_calls}
use Rattle.wplanner.proofs.SelectFacts.{called_is}

module _ (ps : List ℕ) where
  -- plain columns are out of range on no row
  none_refused : (qs : List ℕ) (row : Row) → list_any (λ t. is_out_of_range t row) (map At qs) ≡ false
  none_refused [] row = refl
  none_refused (q ∷ qs) row = none_refused qs row

  none_at_fault : (rows : List Row) → list_any (λ row. list_any (λ t. is_out_of_range t row) (map At ps)) rows ≡ false
  none_at_fault [] = refl
  none_at_fault (row ∷ rows) = ap (λ b. b || list_any (λ row. list_any (λ t. is_out_of_range t row) (map At ps)) rows)
      (none_refused ps row) ∙ none_at_fault rows

  values_of_all : (rows : List Row) → map (λ row. map (λ t. value_on t row) (map At ps)) rows ≡ map (values_at ps) rows
  values_of_all [] = refl
  values_of_all (row ∷ rows) = ap (λ r. r ∷ map (λ row. map (λ t. value_on t row) (map At ps)) rows)
      (map-map (λ t. value_on t row) At ps) ∙ ap (λ l. values_at ps row ∷ l) (values_of_all rows)

  pub plain_lists : (rows : List Row) → lists_of (map At ps) rows ≡ Ok (map (values_at ps) rows)
  plain_lists rows =
      ap (λ b. unless b OutOfRange (map (λ row. map (λ t. value_on t row) (map At ps)) rows)) (none_at_fault rows)
      ∙ ap Ok (values_of_all rows)

-- the places of rows are their numbers
places_are : (a n : ℕ) → range_with_len a n ≡ places_from a n
places_are a zero = refl
places_are a (suc n) = ap (λ l. a ∷ l) (places_are (a + 1) n)

place_at : (a n i : ℕ) → i < n → get_or (places_from a n) i 0 ≡ a + i
place_at a zero i h = absurd (omega arith)
place_at a (suc n) zero h = omega arith
place_at a (suc n) (suc i) h = let e : a + 1 + i ≡ a + suc i = omega arith in place_at (a + 1) n i (omega arith) ∙ e

module _ (rows : List Row) (columns : List (List Meaning)) where
  -- the row of a number, with what the columns have for it
  row_is : (i : ℕ) → i < length rows → key_at (beside rows columns) i ≡ row_beside rows columns i
  row_is i h =
      get_or-map (row_beside rows columns) (places (length rows)) i 0 [] (omega (arith, h, length-places 0 (length rows)))
      ∙ ap (row_beside rows columns) (place_at 0 (length rows) i h ∙ (let e : 0 + i ≡ i = omega arith in e))

  rows_of : (ps : List ℕ) (numbers : List ℕ) → AllByRecursion (λ i. i < length rows) numbers
      → map (key_at (map (values_at ps) (beside rows columns))) numbers ≡ map (λ i. values_at ps (row_beside rows columns i)) numbers
  rows_of ps [] all = refl
  rows_of ps (i ∷ numbers) all =
      let here : i < length (beside rows columns) = omega (arith, all.0, beside_long rows columns) in
      ap (λ r. r ∷ map (key_at (map (values_at ps) (beside rows columns))) numbers)
      (get_or-map (values_at ps) (beside rows columns) i [] [] here ∙ ap (values_at ps) (row_is i all.0))
      ∙ ap (λ l. values_at ps (row_beside rows columns i) ∷ l) (rows_of ps numbers all.1)

  -- so many rows from one on are those that are asked for
  pub standing_are : (offset : ℕ) (limit : Option ℕ) (n from count : ℕ) → n ≡ length rows → from ≡ min offset n
      → count ≡ at_most_limit limit (n - from) → rows_from rows columns from count ≡ cut offset limit (beside rows columns)
  standing_are offset limit n from count long e f =
      let all : n ≡ length (beside rows columns) = long ∙ sym (beside_long rows columns) in
      ap (λ l. take count (drop from (map (row_beside rows columns) l))) (places_are 0 (length rows))
      ∙ cut_numbers offset limit (beside rows columns) from count (e ∙ ap (min offset) all)
      (f ∙ ap (λ m. at_most_limit limit (m - from)) all)

-- the numbers of rows in order, beside which nothing stands
module _ (plans : List KeyPlan) where
  abbrev values : List Formula
  values = map (λ k. k.value) plans

  abbrev orders : List SortKey
  orders = map (λ k. k.order) plans

  pub numbers_are : (rows : List Row) (by : List (List Meaning)) (numbers : List ℕ) → lists_of values rows ≡ Ok by
      → numbers ≡ numbers_by orders by (length rows) → by_keys plans [] rows ≡ Ok numbers
  numbers_are rows by numbers e is =
      ap (numbers_of values orders) (beside_nothing rows)
      ∙ then_ok by (lists_of values rows) (λ by. Ok (numbers_by orders by (length rows))) e ∙ ap Ok (sym is)

  pub keys_fail : {X Y : Type 0} (view : X → List (List Meaning)) (whole : Y → List ℕ) (fault : AnswerFault)
      (rows : List Row) → Gives view (Err fault) (lists_of values rows) → Gives whole (Err fault) (by_keys plans [] rows)
  keys_fail {X} {Y} view whole fault rows refused =
      let P : List Row → Type 0 = λ r. Gives whole (Err fault) (numbers_of values orders r) in
      subst P (sym (beside_nothing rows)) (then_refused view whole fault (lists_of values rows)
      (λ by. Ok (numbers_by orders by (length rows))) refused)

module _ (s : SelectPlan) (ps : List ℕ) (reads : ReadsPlaces s ps) where
  abbrev keys : List Formula
  keys = map (λ k. k.value) s.keys

  abbrev order : List SortKey
  order = map (λ k. k.order) s.keys

  abbrev text_of : List Row → List ℕ
  text_of rows = table_text (map (λ o. o.name) s.items) rows

  abbrev in_order : List Row → List (List Meaning) → Result (List Row) AnswerFault
  in_order rows by = Ok (cut s.offset s.limit (ordered order by (map (values_at ps) rows)))

  -- items that stand at places are there, whatever the keys are
  items_are : (rows : List Row) → items_of s rows ≡ (lists_of keys rows >>= in_order rows)
  items_are rows =
      ap (λ ts. ordered_of ts keys order s.offset s.limit rows) reads.plain
      ∙ then_ok (map (values_at ps) rows) (lists_of (map At ps) rows) (λ listed. lists_of keys rows >>= λ by.
      Ok (cut s.offset s.limit (ordered order by listed))) (plain_lists ps rows)

  in_numbers : (rows : List Row) (numbers : List ℕ) → numbers_of keys order rows ≡ Ok numbers
      → (lists_of keys rows >>= in_order rows) ≡ Ok (cut s.offset s.limit (map (key_at (map (values_at ps) rows)) numbers))
  in_numbers rows numbers presorted = go (lists_of keys rows) presorted
    where
      go : (by : Result (List (List Meaning)) AnswerFault) → (by >>= λ by. Ok (numbers_by order by (length rows)))
          ≡ Ok numbers → (by >>= in_order rows) ≡ Ok (cut s.offset s.limit (map (key_at (map (values_at ps) rows)) numbers))
      go (Ok by) h =
          let same : numbers_by order by (length rows) ≡ numbers = cc in
          ap (λ n. Ok (cut s.offset s.limit (map (key_at (map (values_at ps) rows)) (numbers_by order by n))))
          (length-map rows (values_at ps))
          ∙ ap (λ l. Ok (cut s.offset s.limit (map (key_at (map (values_at ps) rows)) l))) same
      go (Err fault) h = absurd (cc)

  presorted_items : (rows : List Row) (columns : List (List Meaning)) (numbers : List ℕ)
      → by_keys s.keys columns rows ≡ Ok numbers → items_of s (beside rows columns)
      ≡ Ok (map (values_at ps) (map (row_beside rows columns) (cut s.offset s.limit numbers)))
  presorted_items rows columns numbers presorted =
      let below = recursion_from_All (λ i. i < length rows) numbers (below_keys s.keys columns rows numbers (length rows) presorted refl) in
      items_are (beside rows columns) ∙ in_numbers (beside rows columns) numbers presorted
      ∙ ap (λ l. Ok (cut s.offset s.limit l)) (rows_of rows columns ps numbers below
      ∙ sym (map-map (values_at ps) (row_beside rows columns) numbers))
      ∙ ap Ok (sym (map-cut (values_at ps) s.offset s.limit (map (row_beside rows columns) numbers))
      ∙ ap (map (values_at ps)) (sym (map-cut (row_beside rows columns) s.offset s.limit numbers)))

  -- rows that are presorted
  pub presorted_is : (rows : List Row) (columns : List (List Meaning)) (numbers bytes : List ℕ)
      → by_keys s.keys columns rows ≡ Ok numbers
      → bytes ≡ text_of (map (values_at ps) (map (row_beside rows columns) (cut s.offset s.limit numbers)))
      → text_in s (items_of s (beside rows columns)) ≡ Ok bytes
  presorted_is rows columns numbers bytes presorted printed =
      ap (text_in s) (presorted_items rows columns numbers presorted) ∙ ap Ok (sym printed)

  no_order : (plans : List KeyPlan) (rows : List Row) → length plans ≡ 0
      → numbers_of (map (λ k. k.value) plans) (map (λ k. k.order) plans) rows ≡ Ok (places (length rows))
  no_order [] rows none =
      then_ok (map (values_at []) rows) (lists_of [] rows) (λ by. Ok (numbers_by [] by (length rows))) (plain_lists [] rows)
      ∙ ap Ok (by_no_key [] (map (values_at []) rows) (places (length rows)) 0 refl)
  no_order (k ∷ plans) rows none = absurd (omega arith)

  -- rows that stay as they stand
  pub standing_is : (rows : List Row) (columns : List (List Meaning)) (bytes : List ℕ) → length s.keys ≡ 0
      → bytes ≡ text_of (map (values_at ps) (cut s.offset s.limit (beside rows columns)))
      → text_in s (items_of s (beside rows columns)) ≡ Ok bytes
  standing_is rows columns bytes none printed =
      presorted_is rows columns (places (length rows)) bytes (no_order s.keys (beside rows columns) none
      ∙ ap (λ n. Ok (places n)) (beside_long rows columns))
      (printed ∙ ap (λ l. text_of (map (values_at ps) l)) (sym (map-cut (row_beside rows columns) s.offset s.limit (places (length rows)))))

  -- the columns of the calls are there, or one of them is out of range
  pub called_gives : (rows : List Row) (answers : List (List Row)) (bytes : List ℕ) → is_sound_select s ≡ true
      → columns_from rows s.calls 0 s.windows ≡ Ok answers
      → text_in s (items_of s (beside rows (columns_of_calls answers s.calls))) ≡ Ok bytes
      → text_in s (left_items s rows) ≡ Ok bytes
  called_gives rows answers bytes sound answered printed =
      ap (text_in s) (called_is s rows sound ∙ then_ok answers (columns_from rows s.calls 0 s.windows)
      (λ answers. items_of s (beside rows (columns_of_calls answers s.calls))) answered) ∙ printed

  pub called_fails : {X Y : Type 0} (view : X → List (List Row)) (whole : Y → List ℕ) (fault : AnswerFault)
      (rows : List Row) → is_sound_select s ≡ true → Gives view (Err fault) (columns_from rows s.calls 0 s.windows)
      → Gives whole (Err fault) (text_in s (left_items s rows))
  called_fails view whole fault rows sound refused =
      let P : Result (List Row) AnswerFault → Type 0 = λ r. Gives whole (Err fault) (text_in s r) in
      let items : List (List Row) → Result (List Row) AnswerFault =
      λ answers. items_of s (beside rows (columns_of_calls answers s.calls)) in
      subst P (sym (called_is s rows sound))
      (then_refused (λ (r : List Row). r) whole fault (columns_from rows s.calls 0 s.windows >>= items) _
      (then_refused view (λ (r : List Row). r) fault (columns_from rows s.calls 0 s.windows) items refused))

  -- rows that are put in order by themselves, where nothing calls for a window
  pub unwindowed_is : (rows : List Row) → is_sound_select s ≡ true → length s.windows ≡ 0 → left_items s rows ≡ items_of s (beside rows [])
  unwindowed_is rows sound none = no_calls s rows none sound ∙ ap (items_of s) (sym (beside_nothing rows))

  pub sorted_is : (rows : List Row) (numbers bytes : List ℕ) → is_sound_select s ≡ true → length s.windows ≡ 0
      → by_keys s.keys [] rows ≡ Ok numbers → bytes ≡ text_of (map (values_at ps) (map (row_beside rows []) (cut s.offset s.limit numbers)))
      → text_in s (left_items s rows) ≡ Ok bytes
  sorted_is rows numbers bytes sound none presorted printed = ap (text_in s) (unwindowed_is rows sound none)
      ∙ presorted_is rows [] numbers bytes presorted printed

  pub sorted_fails : {X Y : Type 0} (view : X → List ℕ) (whole : Y → List ℕ) (fault : AnswerFault) (rows : List Row)
      → is_sound_select s ≡ true → length s.windows ≡ 0 → Gives view (Err fault) (by_keys s.keys [] rows)
      → Gives whole (Err fault) (text_in s (left_items s rows))
  sorted_fails {X} {Y} view whole fault rows sound none refused =
      let P : Result (List Row) AnswerFault → Type 0 = λ r. Gives whole (Err fault) (text_in s r) in
      subst P (sym (unwindowed_is rows sound none ∙ items_are (beside rows []))) (go (lists_of keys (beside rows [])) fault refused)
    where
      go : (by : Result (List (List Meaning)) AnswerFault) (fault : AnswerFault)
          → Gives view (Err fault) (by >>= λ by. Ok (numbers_by order by (length (beside rows []))))
          → Gives whole (Err fault) (text_in s (by >>= in_order (beside rows [])))
      go by NoMemory h = tt
      go (Ok by) OutOfRange h = absurd (cc)
      go (Ok by) TooManyRows h = absurd (cc)
      go (Err f) OutOfRange h = h
      go (Err f) TooManyRows h = h

  -- the rows that WHERE keeps
  abbrev left : List Row → Result (List Row) AnswerFault
  left kept = left_rows s.grouping kept >>= left_items s

  pub kept_is : (rows kept : List Row) → kept_of s.condition rows ≡ Ok kept → text_in s (select_of s rows) ≡ text_in s (left_items s kept)
  kept_is rows kept e = ap (text_in s) (then_ok kept (kept_of s.condition rows) left e
      ∙ ap (λ g. left_rows g kept >>= left_items s) reads.ungrouped)

  pub kept_gives : {X : Type 0} (view : X → List ℕ) (r : Result X AnswerFault) (rows kept : List Row)
      → kept_of s.condition rows ≡ Ok kept → Gives view r (text_in s (left_items s kept)) → Gives view r (text_in s (select_of s rows))
  kept_gives view r rows kept e given =
      let P : Result (List ℕ) AnswerFault → Type 0 = λ meant. Gives view r meant in
      subst P (sym (kept_is rows kept e)) given

  pub kept_fails : {X Y : Type 0} (view : X → List Row) (whole : Y → List ℕ) (fault : AnswerFault) (rows : List Row)
      → Gives view (Err fault) (kept_of s.condition rows) → Gives whole (Err fault) (text_in s (select_of s rows))
  kept_fails view whole fault rows refused =
      then_refused (λ (r : List Row). r) whole fault (select_of s rows) _ (then_refused view (λ (r : List Row). r) fault
      (kept_of s.condition rows) left refused)
