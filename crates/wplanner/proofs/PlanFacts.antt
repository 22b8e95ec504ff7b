-- SELECTs, and queries of them.
use Rattle.std.proofs.Common.{◌≡◌, ℕ, zero, suc, ◌+◌, ◌<◌, ◌≤◌, Bool, true, false, ◌&&◌, List, [], ◌∷◌, ◌++◌, length, map}
use Rattle.std.proofs.Common.{drop, drop-cons, get_or, add-one, Result, Ok, Err, refl, sym, ap, ◌∙◌, subst, arith}
use Rattle.std.specs.List.{list_all}
use Rattle.std.proofs.lemmas.Bool.Decides.{nat_tests}
use Rattle.std.proofs.lemmas.List.{append-nil, length-map}
use Rattle.wvalues.specs.declared.key.SortKey.{SortKey}
use Rattle.wframe.specs.Peers.{key_at}
use Rattle.wframe.specs.Places.{places_from}
use Rattle.wplan.specs.Formula.{Formula}
use Rattle.wplan.specs.Plans.{WindowPlan, CallPlan, SelectPlan, output_plan, select_plan}
use Rattle.wplan.specs.declared.resolved.Selection.{Selection}
use Rattle.wrows.specs.declared.fault.AnswerFault.{AnswerFault}
use Rattle.wrows.specs.declared.fault.AnswerFault.TheVariants.{OutOfRange, TooManyRows, NoMemory}
use Rattle.wrows.specs.Outcomes.{Gives, ◌>>=◌, each}
use Rattle.wrows.specs.Columns.{Row, beside}
use Rattle.wrows.specs.Plain.{ordered_of}
use Rattle.wplanner.specs.Answers.{answer_of, call_column, items_of, left_items, names_of, select_of, table_answer, width_of}
use Rattle.wcalls.specs.Sound.{is_sound_window}
use Rattle.wplanner.specs.Sound.{is_sound_call, is_sound_query, is_sound_select}
use Rattle.wcalls.specs.Windows.{windowed}
use Rattle.wplanner.specs.declared.fault.AskFault.{AskFault}
use Rattle.wplanner.specs.Faults.{unanswered}
use Rattle.wplanner.specs.Parts.{TableParts}
use Rattle.wplanner.specs.Faults.{AnswersTable}
use Rattle.wcalls.proofs.WindowFacts.{all_places}

same_at_places : {X : Type 0} (f g : ℕ → X) (a n : ℕ) → ((j : ℕ) → f j ≡ g j) → map f (places_from a n) ≡ map g (places_from a n)
same_at_places f g a zero h = refl
same_at_places f g a (suc n) h = ap (λ x. x ∷ map f (places_from (a + 1) n)) (h a) ∙ ap (λ l. g a ∷ l) (same_at_places f g (a + 1) n h)

-- rows beside which nothing stands
pub beside_nothing : (rows : List Row) → beside rows [] ≡ rows
beside_nothing rows = same_at_places (λ i. key_at rows i ++ []) (λ i. get_or rows i []) 0 (length rows)
    (λ j. append-nil (key_at rows j)) ∙ all_places [] rows

-- rows without windows are asked for as they are
pub no_calls : (s : SelectPlan) (rows : List Row) → length s.windows ≡ 0 → is_sound_select s ≡ true → left_items s rows ≡ items_of s rows
no_calls s rows none e = go s.windows s.calls none e
  where
    go : (ws : List WindowPlan) (cs : List CallPlan) → length ws ≡ 0
        → (list_all is_sound_window ws && list_all (is_sound_call (length ws)) cs) ≡ true
        → ((each (windowed rows) ws >>= λ windows. each (call_column rows windows) cs) >>= λ columns. items_of s
        (beside rows columns)) ≡ items_of s rows
    go [] [] h k = ap (items_of s) (beside_nothing rows)
    go [] (c ∷ cs) h k = let no : c.window < 0 = grind (arith, nat_tests, k) in absurd (omega (arith, no))
    go (w ∷ ws) cs h k = absurd (omega arith)

-- a query that is sound is one of which each SELECT is so
pub each_is_sound : (ss : List SelectPlan) → is_sound_query ss ≡ true → list_all is_sound_select ss ≡ true
each_is_sound [] h = absurd (cc)
each_is_sound (s ∷ ss) h = h

pub some_select : (ss : List Selection) → is_sound_query (map select_plan ss) ≡ true → 0 < length ss
some_select [] h = absurd (cc)
some_select (s ∷ ss) h = omega arith

-- the outermost SELECT stands last
pub names_at_last : (ss : List Selection) (n : ℕ) (d : Selection) → length ss ≡ suc n
    → names_of (map select_plan ss) ≡ map (λ o. o.name) (select_plan (get_or ss n d)).items
names_at_last [] n d e = absurd (omega arith)
names_at_last (s ∷ []) zero d e = refl
names_at_last (s ∷ []) (suc n) d e = absurd (omega arith)
names_at_last (s ∷ t ∷ ss) zero d e = absurd (omega arith)
names_at_last (s ∷ t ∷ ss) (suc n) d e = names_at_last (t ∷ ss) n d (omega arith)

-- as many names as values
pub names_wide : (ss : List SelectPlan) (width : ℕ) → 0 < length ss → length (names_of ss) ≡ width_of ss width
names_wide [] width h = absurd (omega arith)
names_wide (s ∷ []) width h = length-map s.items (λ o. o.name)
names_wide (s ∷ t ∷ ss) width h = names_wide (t ∷ ss) (length s.items) (omega arith)

-- the SELECTs that are left, the first of them and the others
pub rest_is : (ss : List Selection) (i : ℕ) (s : Selection) → i < length ss → s ≡ get_or ss i s
    → map select_plan (drop i ss) ≡ select_plan s ∷ map select_plan (drop (i + 1) ss)
rest_is ss i s h e = ap (map select_plan) (drop-cons ss i s h) ∙ ap (λ x. select_plan x ∷ map select_plan (drop (suc i) ss))
    (sym e) ∙ ap (λ k. select_plan s ∷ map select_plan (drop k ss)) (sym (add-one i))

pub sound_at : (ss : List Selection) (i : ℕ) (s : Selection) → i < length ss → s ≡ get_or ss i s
    → list_all is_sound_select (map select_plan ss) ≡ true → is_sound_select (select_plan s) ≡ true
sound_at [] i s h e all = absurd (omega arith)
sound_at (x ∷ xs) zero s h e all = ap (λ y. is_sound_select (select_plan y)) e ∙ first (is_sound_select (select_plan x))
    (list_all is_sound_select (map select_plan xs)) all
  where
    first : (a b : Bool) → (a && b) ≡ true → a ≡ true
    first true b k = refl
    first false b k = k
sound_at (x ∷ xs) (suc i) s h e all = sound_at xs i s (omega arith) e (second (is_sound_select (select_plan x))
    (list_all is_sound_select (map select_plan xs)) all)
  where
    second : (a b : Bool) → (a && b) ≡ true → b ≡ true
    second true b k = k
    second false b k = absurd (cc)

-- a SELECT was answered
pub goes_on : (ss : List Selection) (i : ℕ) (s : Selection) (before after : List Row)
    (whole : Result (List Row) AnswerFault) → i < length ss → s ≡ get_or ss i s
    → answer_of (map select_plan (drop i ss)) before ≡ whole → select_of (select_plan s) before ≡ Ok after
    → answer_of (map select_plan (drop (i + 1) ss)) after ≡ whole
goes_on ss i s before after whole h e so_far step =
    sym (ap (λ r. r >>= answer_of (map select_plan (drop (i + 1) ss))) step)
    ∙ sym (ap (λ l. answer_of l before) (rest_is ss i s h e)) ∙ so_far

-- a SELECT was refused
pub stops : {X : Type 0} (view : X → List Row) (ss : List Selection) (i : ℕ) (s : Selection) (before : List Row)
    (whole : Result (List Row) AnswerFault) (fault : AnswerFault) → i < length ss → s ≡ get_or ss i s
    → answer_of (map select_plan (drop i ss)) before ≡ whole
    → Gives view (Err fault) (select_of (select_plan s) before) → Gives view (Err fault) whole
stops view ss i s before whole fault h e so_far f =
    let P : Result (List Row) AnswerFault → Type 0 = λ r. Gives view (Err fault) r in
    subst P (sym (ap (λ l. answer_of l before) (rest_is ss i s h e)) ∙ so_far) (refused fault f)
  where
    refused : (fault : AnswerFault) → Gives view (Err fault) (select_of (select_plan s) before)
        → Gives view (Err fault) (select_of (select_plan s) before >>= answer_of (map select_plan (drop (i + 1) ss)))
    refused OutOfRange g = ap (λ r. r >>= answer_of (map select_plan (drop (i + 1) ss))) g
    refused TooManyRows g = ap (λ r. r >>= answer_of (map select_plan (drop (i + 1) ss))) g
    refused NoMemory g = tt

pub width_goes_on : (ss : List Selection) (i : ℕ) (s : Selection) (before after whole : ℕ) → i < length ss
    → s ≡ get_or ss i s → width_of (map select_plan (drop i ss)) before ≡ whole → after ≡ length s.items.items
    → width_of (map select_plan (drop (i + 1) ss)) after ≡ whole
width_goes_on ss i s before after whole h e so_far is =
    ap (width_of (map select_plan (drop (i + 1) ss))) (is ∙ sym (length-map s.items.items output_plan))
    ∙ sym (ap (λ l. width_of l before) (rest_is ss i s h e)) ∙ so_far

-- no SELECT is left
pub finished : (ss : List Selection) (i : ℕ) → length ss ≤ i → drop i ss ≡ []
finished [] zero h = refl
finished [] (suc i) h = refl
finished (s ∷ ss) zero h = absurd (omega arith)
finished (s ∷ ss) (suc i) h = finished ss i (omega arith)

all_mapped : (ss : List Selection) → list_all (λ s. is_sound_select (select_plan s)) ss ≡ list_all is_sound_select (map select_plan ss)
all_mapped [] = refl
all_mapped (s ∷ ss) = ap (λ b. is_sound_select (select_plan s) && b) (all_mapped ss)

pub no_query : (ss : List Selection) → length ss ≡ 0 → false ≡ is_sound_query (map select_plan ss)
no_query [] h = refl
no_query (s ∷ ss) h = absurd (omega arith)

pub some_query : (ss : List Selection) → 0 < length ss → list_all (λ s. is_sound_select (select_plan s)) ss
    ≡ is_sound_query (map select_plan ss)
some_query [] h = absurd (omega arith)
some_query (s ∷ ss) h = all_mapped (s ∷ ss)

-- the items of rows, from the parts of a SELECT
pub items_from : (s : Selection) (items keys : List Formula) (order : List SortKey) (rows : List Row)
    → items ≡ map (λ o. o.value) (select_plan s).items → keys ≡ map (λ k. k.value) (select_plan s).keys
    → order ≡ map (λ k. k.order) (select_plan s).keys
    → ordered_of items keys order s.offset s.limit rows ≡ items_of (select_plan s) rows
items_from s items keys order rows ei ek eo =
    let p = select_plan s in
    ap (λ xs. ordered_of xs keys order s.offset s.limit rows) ei
    ∙ ap (λ xs. ordered_of (map (λ o. o.value) p.items) xs order s.offset s.limit rows) ek
    ∙ ap (λ xs. ordered_of (map (λ o. o.value) p.items) (map (λ k. k.value) p.keys) xs s.offset s.limit rows) eo

-- a table has as many names as its rows have values
pub table_wide : (ss : List Selection) (width long : ℕ) (names : List (List ℕ)) → is_sound_query (map select_plan ss) ≡ true
    → names ≡ names_of (map select_plan ss) → width ≡ width_of (map select_plan ss) long → width ≡ length names
table_wide ss width long names h e w = w
    ∙ sym (names_wide (map select_plan ss) long (omega (arith, length-map ss select_plan, some_select ss h))) ∙ ap length (sym e)

pub table_given : (ss : List SelectPlan) (rows cells : List Row) (names : List (List ℕ)) → answer_of ss rows ≡ Ok cells
    → names ≡ names_of ss → table_answer ss rows ≡ Ok (record { names = names; rows = cells })
table_given ss rows cells names e n =
    ap (λ r. r >>= λ answered. Ok (record { names = names_of ss; rows = answered })) e
    ∙ ap (λ ns. Ok (record { names = ns; rows = cells })) (sym n)

-- a fault is the one that is asked for
pub fault_given : (fault : AnswerFault) (asked : AskFault) (meant : Result TableParts AnswerFault)
    → asked ≡ unanswered fault → Gives {X = TableParts} (λ t. t) (Err fault) meant → AnswersTable (Err asked) meant
fault_given OutOfRange asked meant e g = let P : AskFault → Type 0 = λ a. AnswersTable (Err a) meant in subst P (sym e) g
fault_given TooManyRows asked meant e g = let P : AskFault → Type 0 = λ a. AnswersTable (Err a) meant in subst P (sym e) g
fault_given NoMemory asked meant e g = let P : AskFault → Type 0 = λ a. AnswersTable (Err a) meant in subst P (sym e) tt
