-- Kept rows and groups, and steps over calls and windows.
use Rattle.std.proofs.Common.{◌≡◌, ℕ, zero, suc, ◌+◌, ◌<◌, ◌≤◌, ◌==◌, Bool, true, false, ◌&&◌, cond, List, [], ◌∷◌}
use Rattle.std.proofs.Common.{◌++◌, length, map, filter, take, drop, drop-cons, get_or, add-one, nat_lt, Option}
use Rattle.std.proofs.Common.{Some, None, Result, Ok, Err, refl, sym, ap, ◌∙◌, subst, append_assoc, arith}
use Rattle.std.proofs.lemmas.Bool.Decides.{nat_tests}
use Rattle.std.proofs.lemmas.List.{append-nil, length-map, map-append, take_more}
use Rattle.std.specs.List.{list_all, list_any, slice_get}
use Rattle.wvalues.specs.Meaning.{Meaning}
use Rattle.wframe.specs.Places.{places}
use Rattle.wplan.specs.Formula.{Formula}
use Rattle.wplan.specs.Plans.{CallPlan, GroupingPlan, SelectPlan, WindowPlan, call_plan, function_plan, select_plan, window_plan}
use Rattle.wplan.specs.declared.resolved.CallOver.{CallOver}
use Rattle.wplan.specs.declared.resolved.Selection.{Selection}
use Rattle.wplan.specs.declared.resolved.ResolvedWindow.{ResolvedWindow}
use Rattle.wrows.specs.declared.fault.AnswerFault.{AnswerFault}
use Rattle.wrows.specs.declared.fault.AnswerFault.TheVariants.{OutOfRange, TooManyRows}
use Rattle.wrows.specs.Outcomes.{◌>>=◌, each, unless}
use Rattle.wrows.specs.Columns.{Row, beside, held_rows, holds_on, is_out_of_range, not_too_many}
use Rattle.wrows.proofs.RowFacts.{length-places, map-taken, places_more}
use Rattle.wgroup.specs.Grouping.{Group, call_column, group_rows, groups_of}
use Rattle.wcalls.specs.Frames.{frame_of}
use Rattle.wcalls.specs.Functions.{window_columns}
use Rattle.wcalls.specs.Joins.{most_of_functions}
use Rattle.wcalls.specs.Sound.{is_sound_window}
use Rattle.wplanner.specs.ByWindow.{calls_before, column_found, columns_from, columns_of_calls, functions_over, most_from}
use Rattle.wplanner.specs.Answers.{items_of, left_items}
use Rattle.wplanner.specs.Sound.{is_sound_call, is_sound_select}
use Rattle.wplanner.proofs.CallFacts.{by_window, sound_windows}

short_filter : {X : Type 0} (p : X → Bool) (xs : List X) → length (filter p xs) ≤ length xs
short_filter p [] = omega arith
short_filter p (x ∷ xs) = go (p x) (short_filter p xs)
  where
    go : (b : Bool) → length (filter p xs) ≤ length xs → length (cond b (x ∷ filter p xs) (filter p xs)) ≤ length (x ∷ xs)
    go true rest = omega (arith, rest)
    go false rest = omega (arith, rest)

held_short : (c : Option Formula) (rows kept : List Row) → held_rows c rows ≡ Ok kept → length kept ≤ length rows
held_short None rows kept e = let same : rows ≡ kept = cc in subst (λ (l : List Row). length l ≤ length rows) same (omega arith)
held_short (Some t) rows kept e = go (list_any (is_out_of_range t) rows) e
  where
    go : (b : Bool) → unless b OutOfRange (filter (holds_on t) rows) ≡ Ok kept → length kept ≤ length rows
    go true h = absurd (cc)
    go false h = let same : filter (holds_on t) rows ≡ kept = cc in subst (λ (l : List Row). length l ≤ length rows) same
        (short_filter (holds_on t) rows)

not_many : {X : Type 0} (xs ys : List X) → not_too_many xs ≡ Ok ys → (xs ≡ ys) × (length ys < 2147483648)
not_many {X = X} xs ys e = go (nat_lt 2147483647 (length xs)) refl e
  where
    go : (b : Bool) → nat_lt 2147483647 (length xs) ≡ b → unless b TooManyRows xs ≡ Ok ys → (xs ≡ ys) × (length ys < 2147483648)
    go true h k = absurd (cc)
    go false h k = let same : xs ≡ ys = cc in (
      same,
      let few : length xs < 2147483648 = grind (arith, nat_tests, h) in
          subst (λ (l : List X). length l < 2147483648) same few,
    )

-- group rows are not too many
pub groups_few : (g : GroupingPlan) (rows left : List Row) → group_rows g rows ≡ Ok left → length left < 2147483648
groups_few g rows left e = go (not_too_many (groups_of g.columns g.sets rows)) refl e
  where
    further : (groups : List Group) (r : Result (List (List Meaning)) AnswerFault)
        → (r >>= λ columns. held_rows g.having (beside (map (λ group. group.key) groups) columns)) ≡ Ok left → length left ≤ length groups
    further groups (Ok columns) h =
        let keys : List Row = map (λ group. group.key) groups in
        let long : length (beside keys columns) ≡ length groups = length-map (places (length keys)) _
        ∙ length-places 0 (length keys) ∙ length-map groups (λ group. group.key) in
        omega (arith, held_short g.having (beside keys columns) left h, long)
    further groups (Err f) h = absurd (cc)

    go : (r : Result (List Group) AnswerFault) → not_too_many (groups_of g.columns g.sets rows) ≡ r
        → (r >>= λ groups. each (call_column rows groups) g.calls >>= λ columns. held_rows g.having
        (beside (map (λ group. group.key) groups) columns)) ≡ Ok left → length left < 2147483648
    go (Ok groups) k h = omega (
      arith,
      (not_many (groups_of g.columns g.sets rows) groups k).1,
      further groups (each (call_column rows groups) g.calls) h,
    )
    go (Err f) k h = absurd (cc)

-- the functions of one call more
over_append : (xs : List CallPlan) (y : CallPlan) (w : ℕ) → functions_over (xs ++ y ∷ []) w ≡ functions_over xs w
    ++ functions_over (y ∷ []) w
over_append [] y w = refl
over_append (x ∷ xs) y w = go (x.window == w) (over_append xs y w)
  where
    p : CallPlan → Bool
    p c = c.window == w

    go : (b : Bool) → functions_over (xs ++ y ∷ []) w ≡ functions_over xs w ++ functions_over (y ∷ []) w
        → map (λ (c : CallPlan). c.function) (cond b (x ∷ filter p (xs ++ y ∷ [])) (filter p (xs ++ y ∷ [])))
        ≡ map (λ (c : CallPlan). c.function) (cond b (x ∷ filter p xs) (filter p xs)) ++ functions_over (y ∷ []) w
    go true rest = ap (λ l. x.function ∷ l) rest
    go false rest = rest

over_next : (calls : List CallOver) (i : ℕ) (c : CallOver) (w : ℕ) → i < length calls → c ≡ get_or calls i c
    → functions_over (map call_plan (take (i + 1) calls)) w ≡ functions_over (map call_plan (take i calls)) w
    ++ functions_over (call_plan c ∷ []) w
over_next calls i c w h e =
    ap (λ l. functions_over (map call_plan l) w) (take_more calls i c h)
    ∙ ap (λ l. functions_over l w) (map-append call_plan (take i calls) (get_or calls i c ∷ []))
    ∙ over_append (map call_plan (take i calls)) (call_plan (get_or calls i c)) w
    ∙ ap (λ x. functions_over (map call_plan (take i calls)) w ++ functions_over (call_plan x ∷ []) w) (sym e)

pub over_taken : (calls : List CallOver) (i : ℕ) (c : CallOver) (w : ℕ) → i < length calls → c ≡ get_or calls i c
    → (c.window == w) ≡ true → functions_over (map call_plan (take (i + 1) calls)) w
    ≡ functions_over (map call_plan (take i calls)) w ++ function_plan c.function ∷ []
over_taken calls i c w h e k =
    over_next calls i c w h e ∙ ap (λ b. functions_over (map call_plan (take i calls)) w ++ map
    (λ (d : CallPlan). d.function) (cond b (call_plan c ∷ []) [])) k

pub over_left : (calls : List CallOver) (i : ℕ) (c : CallOver) (w : ℕ) → i < length calls → c ≡ get_or calls i c
    → (c.window == w) ≡ false → functions_over (map call_plan (take (i + 1) calls)) w ≡ functions_over (map call_plan (take i calls)) w
over_left calls i c w h e k =
    over_next calls i c w h e ∙ ap (λ b. functions_over (map call_plan (take i calls)) w ++ map
    (λ (d : CallPlan). d.function) (cond b (call_plan c ∷ []) [])) k
    ∙ append-nil (functions_over (map call_plan (take i calls)) w)

-- the windows that are left, the first of them and the others
windows_left : (ws : List ResolvedWindow) (i : ℕ) (w : ResolvedWindow) → i < length ws → w ≡ get_or ws i w
    → map window_plan (drop i ws) ≡ window_plan w ∷ map window_plan (drop (i + 1) ws)
windows_left ws i w h e = ap (map window_plan) (drop-cons ws i w h)
    ∙ ap (λ x. window_plan x ∷ map window_plan (drop (suc i) ws)) (sym e)
    ∙ ap (λ k. window_plan w ∷ map window_plan (drop k ws)) (sym (add-one i))

-- what so many windows have answered, and those that are left
abbrev pub goes_with : List Row → List CallPlan → List (List (List Meaning)) → ℕ → List WindowPlan
    → Result (List (List (List Meaning))) AnswerFault
goes_with rows calls answered i ws = columns_from rows calls i ws >>= λ others. Ok (answered ++ others)

pub window_answered : (rows : List Row) (calls : List CallPlan) (ws : List ResolvedWindow)
    (answered more : List (List (List Meaning))) (i : ℕ) (w : ResolvedWindow) (columns : List (List Meaning))
    (whole : Result (List (List (List Meaning))) AnswerFault)
    → i < length ws → w ≡ get_or ws i w → whole ≡ goes_with rows calls answered i (map window_plan (drop i ws))
    → window_columns (window_plan w) (functions_over calls i) rows ≡ Ok columns → more ≡ answered ++ columns ∷ []
    → whole ≡ goes_with rows calls more (i + 1) (map window_plan (drop (i + 1) ws))
window_answered rows calls ws answered more i w columns whole h e so_far is next =
    let rest : Result (List (List (List Meaning))) AnswerFault = columns_from rows calls (i + 1) (map window_plan (drop (i + 1) ws)) in
    so_far ∙ ap (goes_with rows calls answered i) (windows_left ws i w h e)
    ∙ ap (λ r. (r >>= λ c. rest >>= λ others. Ok (c ∷ others)) >>= λ others. Ok (answered ++ others)) is
    ∙ joined rest ∙ ap (λ l. rest >>= λ others. Ok (l ++ others)) (sym next)
  where
    joined : (r : Result (List (List (List Meaning))) AnswerFault)
        → ((r >>= λ others. Ok (columns ∷ others)) >>= λ others. Ok (answered ++ others))
        ≡ (r >>= λ others. Ok ((answered ++ columns ∷ []) ++ others))
    joined (Ok others) = ap Ok (sym (append_assoc answered (columns ∷ []) others))
    joined (Err f) = refl

pub window_refused : (rows : List Row) (calls : List CallPlan) (ws : List ResolvedWindow)
    (answered : List (List (List Meaning))) (i : ℕ) (w : ResolvedWindow) (fault : AnswerFault)
    (whole : Result (List (List (List Meaning))) AnswerFault)
    → i < length ws → w ≡ get_or ws i w → whole ≡ goes_with rows calls answered i (map window_plan (drop i ws))
    → window_columns (window_plan w) (functions_over calls i) rows ≡ Err fault → whole ≡ Err fault
window_refused rows calls ws answered i w fault whole h e so_far is =
    let rest : Result (List (List (List Meaning))) AnswerFault = columns_from rows calls (i + 1) (map window_plan (drop (i + 1) ws)) in
    so_far ∙ ap (goes_with rows calls answered i) (windows_left ws i w h e)
    ∙ ap (λ r. (r >>= λ c. rest >>= λ others. Ok (c ∷ others)) >>= λ others. Ok (answered ++ others)) is

-- the joins of the functions over one window more, and those that are left
pub joins_answered : (rows : ℕ) (calls : List CallPlan) (ws : List ResolvedWindow) (i : ℕ) (w : ResolvedWindow) (old new whole : ℕ)
    → i < length ws → w ≡ get_or ws i w → old + most_from rows calls i (map window_plan (drop i ws)) ≤ whole
    → new ≤ old + most_of_functions (frame_of (window_plan w).frame).exclusion rows (functions_over calls i)
    → new + most_from rows calls (i + 1) (map window_plan (drop (i + 1) ws)) ≤ whole
joins_answered rows calls ws i w old new whole h e so_far here = omega (arith, ap (most_from rows calls i) (windows_left ws i w h e))

pub joins_refused : (rows : ℕ) (calls : List CallPlan) (ws : List ResolvedWindow) (i : ℕ) (w : ResolvedWindow) (old new whole : ℕ)
    → i < length ws → w ≡ get_or ws i w → old + most_from rows calls i (map window_plan (drop i ws)) ≤ whole
    → new ≤ old + most_of_functions (frame_of (window_plan w).frame).exclusion rows (functions_over calls i)
    → new ≤ whole
joins_refused rows calls ws i w old new whole h e so_far here = omega (arith, ap (most_from rows calls i) (windows_left ws i w h e))

pub none_left : (ws : List ResolvedWindow) (i : ℕ) → length ws ≤ i → drop i ws ≡ []
none_left [] zero h = refl
none_left [] (suc i) h = refl
none_left (w ∷ ws) zero h = absurd (omega arith)
none_left (w ∷ ws) (suc i) h = none_left ws i (omega arith)

pub all_windows_answered : (rows : List Row) (calls : List CallPlan) (ws : List ResolvedWindow)
    (answered : List (List (List Meaning))) (i : ℕ) (whole : Result (List (List (List Meaning))) AnswerFault)
    → length ws ≤ i → whole ≡ goes_with rows calls answered i (map window_plan (drop i ws)) → whole ≡ Ok answered
all_windows_answered rows calls ws answered i whole h so_far =
    so_far ∙ ap (λ l. goes_with rows calls answered i (map window_plan l)) (none_left ws i h) ∙ ap Ok (append-nil answered)

pub nothing_answered : (rows : List Row) (calls : List CallPlan) (ws : List WindowPlan)
    → columns_from rows calls 0 ws ≡ goes_with rows calls [] 0 ws
nothing_answered rows calls ws = go (columns_from rows calls 0 ws)
  where
    go : (r : Result (List (List (List Meaning))) AnswerFault) → r ≡ (r >>= λ others. Ok ([] ++ others))
    go (Ok others) = refl
    go (Err f) = refl

-- one window of sound ones is so
pub sound_window_at : (ws : List ResolvedWindow) (i : ℕ) (w : ResolvedWindow) → i < length ws → w ≡ get_or ws i w
    → list_all is_sound_window (map window_plan ws) ≡ true → is_sound_window (window_plan w) ≡ true
sound_window_at [] i w h e all = absurd (omega arith)
sound_window_at (x ∷ xs) zero w h e all = ap (λ y. is_sound_window (window_plan y)) e
    ∙ first (is_sound_window (window_plan x)) (list_all is_sound_window (map window_plan xs)) all
  where
    first : (a b : Bool) → (a && b) ≡ true → a ≡ true
    first true b k = refl
    first false b k = k
sound_window_at (x ∷ xs) (suc i) w h e all =
    sound_window_at xs i w (omega arith) e (second (is_sound_window (window_plan x)) (list_all is_sound_window (map window_plan xs)) all)
  where
    second : (a b : Bool) → (a && b) ≡ true → b ≡ true
    second true b k = k
    second false b k = absurd (cc)

-- what is sound in lists as they lie in memory
windows_mapped : (ws : List ResolvedWindow) → list_all (λ w. is_sound_window (window_plan w)) ws ≡ list_all is_sound_window
    (map window_plan ws)
windows_mapped [] = refl
windows_mapped (w ∷ ws) = ap (λ b. is_sound_window (window_plan w) && b) (windows_mapped ws)

calls_mapped : (n : ℕ) (cs : List CallOver) → list_all (λ c. is_sound_call n (call_plan c)) cs ≡ list_all (is_sound_call n)
    (map call_plan cs)
calls_mapped n [] = refl
calls_mapped n (c ∷ cs) = ap (λ b. is_sound_call n (call_plan c) && b) (calls_mapped n cs)

pub sound_is : (s : Selection) (n : ℕ) (a b : Bool) → n ≡ length s.windows.items
    → a ≡ list_all (λ w. is_sound_window (window_plan w)) s.windows.items
    → b ≡ list_all (λ c. is_sound_call n (call_plan c)) s.calls.items → (a && b) ≡ is_sound_select (select_plan s)
sound_is s n a b long e f =
    ap (λ x. x && b) (e ∙ windows_mapped s.windows.items)
    ∙ ap (λ x. list_all is_sound_window (map window_plan s.windows.items) && x)
    (f ∙ calls_mapped n s.calls.items ∙ ap (λ m. list_all (is_sound_call m) (map call_plan s.calls.items))
    (long ∙ sym (length-map s.windows.items window_plan)))

-- the call of a number
pub call_there : (calls : List CallOver) (i : ℕ) (c : CallOver) → i < length calls → c ≡ get_or calls i c
    → slice_get (map call_plan calls) i ≡ Some (call_plan c)
call_there [] i c h e = absurd (omega arith)
call_there (x ∷ xs) zero c h e = ap (λ y. Some (call_plan y)) (sym e)
call_there (x ∷ xs) (suc i) c h e = call_there xs i c (omega arith) e

-- how many earlier calls are over a window
before_is : (calls : List CallOver) (i w : ℕ) → length (functions_over (map call_plan (take i calls)) w)
    ≡ calls_before (map call_plan calls) w i
before_is calls i w =
    length-map (filter (λ (c : CallPlan). c.window == w) (map call_plan (take i calls))) (λ (c : CallPlan). c.function)
    ∙ ap (λ l. length (filter (λ (c : CallPlan). c.window == w) l)) (map-taken call_plan i calls)

abbrev pub answered_columns : List (List (List Meaning)) → List CallPlan → ℕ → List (List Meaning)
answered_columns answers calls n = map (λ c. column_found answers calls c (slice_get calls c)) (places n)

-- one call more has its column
pub column_answered : (answers : List (List (List Meaning))) (calls : List CallOver) (i : ℕ) (call : CallOver)
    (before more : List (List Meaning)) (column : List Meaning) → i < length calls → call ≡ get_or calls i call
    → before ≡ answered_columns answers (map call_plan calls) i → more ≡ before ++ column ∷ []
    → column ≡ get_or (get_or answers call.window []) (length (functions_over (map call_plan (take i calls)) call.window)) []
    → more ≡ answered_columns answers (map call_plan calls) (i + 1)
column_answered answers calls i call before more column h e so_far next is =
    let plans : List CallPlan = map call_plan calls in
    let g : ℕ → List Meaning = λ c. column_found answers plans c (slice_get plans c) in
    let here : column ≡ g i = is ∙ ap (λ n. get_or (get_or answers call.window []) n []) (before_is calls i call.window)
    ∙ sym (ap (column_found answers plans i) (call_there calls i call h e)) in
    next ∙ ap (λ l. l ++ column ∷ []) so_far ∙ ap (λ x. map g (places i) ++ x ∷ []) here
    ∙ sym (ap (map g) (places_more 0 i i (omega arith)) ∙ map-append g (places i) (i ∷ []))

-- the items of rows with their calls, from the calls by window
pub called_is : (s : SelectPlan) (rows : List Row) → is_sound_select s ≡ true
    → left_items s rows ≡ (columns_from rows s.calls 0 s.windows >>= λ answers. items_of s (beside rows (columns_of_calls answers s.calls)))
called_is s rows sound =
    ap (λ r. r >>= λ columns. items_of s (beside rows columns))
    (by_window rows s (sound_windows (length s.windows) s.calls (second (list_all is_sound_window s.windows)
    (list_all (is_sound_call (length s.windows)) s.calls) sound)))
    ∙ joined (columns_from rows s.calls 0 s.windows)
  where
    second : (a b : Bool) → (a && b) ≡ true → b ≡ true
    second true b k = k
    second false b k = absurd (cc)

    joined : (r : Result (List (List (List Meaning))) AnswerFault)
        → ((r >>= λ answers. Ok (columns_of_calls answers s.calls)) >>= λ columns. items_of s (beside rows columns))
        ≡ (r >>= λ answers. items_of s (beside rows (columns_of_calls answers s.calls)))
    joined (Ok answers) = refl
    joined (Err f) = refl

pub then_sound : (a b s : Bool) → a ≡ true → (a && b) ≡ s → b ≡ s
then_sound true b s h k = k
then_sound false b s h k = absurd (cc)

pub else_sound : (a b s : Bool) → a ≡ false → (a && b) ≡ s → a ≡ s
else_sound true b s h k = absurd (cc)
else_sound false b s h k = k

pub none_there : {X : Type 0} (n : ℕ) (xs : List X) → n ≡ length xs → true ≡ (n == 0) → length xs ≡ 0
none_there n xs e h = let z : n ≡ 0 = grind (arith, nat_tests, h) in sym e ∙ z
