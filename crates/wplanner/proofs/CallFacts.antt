-- Calls window by window: the columns that are computed so are those that a query means.
use Rattle.std.proofs.Common.{◌≡◌, ℕ, zero, suc, ◌+◌, ◌<◌, ◌==◌, Bool, true, false, ◌&&◌, ◌||◌, cond, List, [], ◌∷◌, length, map, filter}
use Rattle.std.proofs.Common.{take, get_or, nat_lt, Option, Some, None, Result, Ok, Err, refl, sym, ap, ◌∙◌, subst, arith}
use Rattle.std.proofs.lemmas.Bool.Decides.{nat_tests}
use Rattle.std.specs.List.{AllByRecursion, list_all, list_any, slice_get}
use Rattle.wvalues.specs.Meaning.{Meaning}
use Rattle.wframe.specs.declared.frame.FrameMode.TheVariants.{Rows}
use Rattle.wframe.specs.declared.frame.FrameBound.TheVariants.{CurrentRow}
use Rattle.wframe.specs.declared.frame.FrameExclusion.TheVariants.{NoOthers}
use Rattle.wframe.specs.Places.{places_from}
use Rattle.wplan.specs.Formula.{Formula}
use Rattle.wplan.specs.Plans.{CallPlan, FunctionPlan, SelectPlan, WindowPlan, RowNumber, Rank, DenseRank}
use Rattle.wplan.specs.Plans.{Tile, Lag, Lead, FirstValue, LastValue, NthValue, Aggregated}
use Rattle.wrows.specs.declared.fault.AnswerFault.{AnswerFault}
use Rattle.wrows.specs.declared.fault.AnswerFault.TheVariants.{OutOfRange, TooManyRows, NoMemory}
use Rattle.wrows.specs.Outcomes.{◌>>=◌, each, unless}
use Rattle.wrows.specs.Columns.{Row, filter_of, lists_of}
use Rattle.wcalls.specs.Windows.{Windowed, windowed}
use Rattle.wcalls.specs.Functions.{function_column, window_columns}
use Rattle.wcalls.specs.Sound.{is_sound_function}
use Rattle.wplanner.specs.Answers.{call_column, call_columns, column_in}
use Rattle.wplanner.specs.ByWindow.{calls_before, column_found, columns_from, columns_of_calls, functions_over}
use Rattle.wplanner.specs.Sound.{is_sound_call}

-- whether there is a fault, and what there is else
abbrev is_refused : {A : Type 0} → Result A AnswerFault → Bool
is_refused (Ok x) = false
is_refused (Err f) = true

abbrev value_or : {A : Type 0} → A → Result A AnswerFault → A
value_or d (Ok x) = x
value_or d (Err f) = d

-- the one fault of windows and their calls is that something is out of range
IsSimple : {A : Type 0} → Result A AnswerFault → Type 0
IsSimple (Ok x) = Unit {0}
IsSimple (Err OutOfRange) = Unit {0}
IsSimple (Err TooManyRows) = ⊥
IsSimple (Err NoMemory) = ⊥

simple_ok : {A : Type 0} (x : A) → IsSimple {A = A} (Ok x)
unfolding IsSimple
simple_ok x = tt {0}

simple_unless : {A : Type 0} (b : Bool) (x : A) → IsSimple (unless b OutOfRange x)
unfolding IsSimple
simple_unless true x = tt {0}
simple_unless false x = tt {0}

simple_then : {A B : Type 0} (r : Result A AnswerFault) (k : A → Result B AnswerFault) → IsSimple r
    → ((x : A) → IsSimple (k x)) → IsSimple (r >>= k)
unfolding IsSimple
simple_then (Ok x) k s h = h x
simple_then (Err OutOfRange) k s h = tt {0}
simple_then (Err TooManyRows) k s h = s
simple_then (Err NoMemory) k s h = s

simple_filter : (t : Option Formula) (rows : List Row) → IsSimple (filter_of t rows)
simple_filter None rows = simple_ok None
simple_filter (Some t) rows = simple_unless _ _

simple_lists : (ts : List Formula) (rows : List Row) → IsSimple (lists_of ts rows)
simple_lists ts rows = simple_unless _ _

simple_window : (rows : List Row) (w : WindowPlan) → IsSimple (windowed rows w)
simple_window rows w = simple_then (lists_of w.partition rows) _ (simple_lists w.partition rows)
    (λ values. simple_then (lists_of (map (λ k. k.value) w.keys) rows) _ (simple_lists (map (λ k. k.value) w.keys) rows)
    (λ keys. simple_ok _))

simple_column : (rows : List Row) (w : Windowed) (f : FunctionPlan) → IsSimple (function_column rows w f)
simple_column rows w RowNumber = simple_ok _
simple_column rows w Rank = simple_ok _
simple_column rows w DenseRank = simple_ok _
simple_column rows w (Tile n) = simple_ok _
simple_column rows w (Lag t n d) = simple_then _ _ (simple_unless _ _) (λ values. simple_ok _)
simple_column rows w (Lead t n d) = simple_then _ _ (simple_unless _ _) (λ values. simple_ok _)
simple_column rows w (FirstValue t) = simple_then _ _ (simple_unless _ _) (λ values. simple_ok _)
simple_column rows w (LastValue t) = simple_then _ _ (simple_unless _ _) (λ values. simple_ok _)
simple_column rows w (NthValue t n) = simple_then _ _ (simple_unless _ _) (λ values. simple_ok _)
simple_column rows w (Aggregated a) = simple_then _ _ (simple_then _ _ (simple_unless _ _)
    (λ values. simple_then _ _ (simple_filter a.filter rows) (λ tests. simple_ok _))) (λ feed. simple_unless _ _)

-- several results, of which each is out of range or a value
module _ {A B : Type 0} (d : B) (f : A → Result B AnswerFault) (simple : (x : A) → IsSimple (f x)) where
  push : (b : Bool) (y : B) (ys : List B) → (unless b OutOfRange ys >>= λ zs. Ok (y ∷ zs)) ≡ unless b OutOfRange (y ∷ ys)
  push true y ys = refl
  push false y ys = refl

  each_is : (xs : List A) → each f xs ≡ unless (list_any (λ x. is_refused (f x)) xs) OutOfRange (map (λ x. value_or d (f x)) xs)
  unfolding IsSimple
  each_is [] = refl
  each_is (x ∷ xs) = go (f x) (simple x) (each_is xs)
    where
      go : (r : Result B AnswerFault) → IsSimple r → each f xs ≡ unless (list_any (λ x. is_refused (f x)) xs) OutOfRange
          (map (λ x. value_or d (f x)) xs) → (r >>= λ y. each f xs >>= λ ys. Ok (y ∷ ys))
          ≡ unless (is_refused r || list_any (λ x. is_refused (f x)) xs) OutOfRange (value_or d r ∷ map (λ x. value_or d (f x)) xs)
      go (Ok y) s rest = ap (λ r. r >>= λ ys. Ok (y ∷ ys)) rest ∙ push (list_any (λ x. is_refused (f x)) xs) y
          (map (λ x. value_or d (f x)) xs)
      go (Err OutOfRange) s rest = refl
      go (Err TooManyRows) s rest = absurd s
      go (Err NoMemory) s rest = absurd s

exchange : (a b c d : Bool) → ((a || b) || (c || d)) ≡ ((a || c) || (b || d))
exchange true b c d = refl
exchange false true true d = refl
exchange false true false d = refl
exchange false false c d = refl

both : {X : Type 0} (a b : Bool) (x : X) (xs : List X)
    → (unless a OutOfRange x >>= λ y. unless b OutOfRange xs >>= λ ys. Ok (y ∷ ys)) ≡ unless (a || b) OutOfRange (x ∷ xs)
both true b x xs = refl
both false true x xs = refl
both false false x xs = refl

same_number : (a b : ℕ) → a ≡ b → (a == b) ≡ true
same_number a b e = grind (arith, nat_tests, e)

other_number : (a b : ℕ) → a < b → (a == b) ≡ false
other_number a b e = grind (arith, nat_tests, e)

greater_number : (a b : ℕ) → b < a → (a == b) ≡ false
greater_number a b e = grind (arith, nat_tests, e)

-- an element that a list has at a place
element_mapped : {X Y : Type 0} (f : X → Y) (xs : List X) (i : ℕ) (x : X) (d : Y) → slice_get xs i ≡ Some x → get_or (map f xs) i d ≡ f x
element_mapped f [] i x d e = absurd (cc)
element_mapped f (y ∷ ys) zero x d e = ap f (inside e)
  where
    inside : Some y ≡ Some x → y ≡ x
    inside h = cc
element_mapped f (y ∷ ys) (suc i) x d e = element_mapped f ys i x d e

all_at : {X : Type 0} (P : X → Type 0) (xs : List X) (i : ℕ) (x : X) → AllByRecursion P xs → slice_get xs i ≡ Some x → P x
all_at P [] i x all e = absurd (cc)
all_at P (y ∷ ys) zero x all e = subst P (inside e) all.0
  where
    inside : Some y ≡ Some x → y ≡ x
    inside h = cc
all_at P (y ∷ ys) (suc i) x all e = all_at P ys i x all.1 e

-- elements by their places
listed : {X Y : Type 0} (h : X → Y) (g : ℕ → Y) (xs : List X) (a : ℕ) → ((j : ℕ) (x : X) → slice_get xs j ≡ Some x
    → g (a + j) ≡ h x) → map g (places_from a (length xs)) ≡ map h xs
listed h g [] a e = refl
listed h g (x ∷ xs) a e =
    let here : a ≡ a + 0 = omega arith in
    ap (λ y. y ∷ map g (places_from (a + 1) (length xs))) (ap g here ∙ e 0 x refl)
    ∙ ap (λ l. h x ∷ l) (listed h g xs (a + 1) (λ j y s. let next : a + 1 + j ≡ a + suc j = omega arith in ap g next ∙ e (suc j) y s))

-- the call of a number is the one that so many earlier calls over its window tell
nth_call : (calls : List CallPlan) (j : ℕ) (c : CallPlan) (w : ℕ) → slice_get calls j ≡ Some c → c.window ≡ w
    → slice_get (functions_over calls w) (calls_before calls w j) ≡ Some c.function
nth_call [] j c w e h = absurd (cc)
nth_call (x ∷ xs) zero c w e h = go (x.window == w) (same_number x.window w (ap (λ (y : CallPlan). y.window) same ∙ h))
  where
    same : x ≡ c
    same = cc

    go : (b : Bool) → b ≡ true → slice_get (map (λ (y : CallPlan). y.function)
        (cond b (x ∷ filter (λ (y : CallPlan). y.window == w) xs) (filter (λ (y : CallPlan). y.window == w) xs))) 0 ≡ Some c.function
    go true k = ap (λ (y : CallPlan). Some y.function) same
    go false k = absurd (cc)
nth_call (x ∷ xs) (suc j) c w e h = go (x.window == w) (nth_call xs j c w e h)
  where
    p : CallPlan → Bool
    p y = y.window == w

    go : (b : Bool) → slice_get (functions_over xs w) (calls_before xs w j) ≡ Some c.function
        → slice_get (map (λ (y : CallPlan). y.function) (cond b (x ∷ filter p xs) (filter p xs)))
        (length (cond b (x ∷ filter p (take j xs)) (filter p (take j xs)))) ≡ Some c.function
    go true rest = rest
    go false rest = rest

no_window : Windowed
no_window = record {
  values = [];
  value_order = [];
  keys = [];
  order = [];
  frame = record {
    mode = Rows;
    start = CurrentRow;
    end = CurrentRow;
    exclusion = NoOthers;
  };
}

module _ (rows : List Row) where
  abbrev bad_window : WindowPlan → Bool
  bad_window w = is_refused (windowed rows w)

  abbrev seen : WindowPlan → Windowed
  seen w = value_or no_window (windowed rows w)

  abbrev bad_call : Windowed → FunctionPlan → Bool
  bad_call y f = is_refused (function_column rows y f)

  abbrev column : Windowed → FunctionPlan → List Meaning
  column y f = value_or [] (function_column rows y f)

  -- the columns of one window
  one_window : (w : WindowPlan) (fs : List FunctionPlan)
      → window_columns w fs rows ≡ unless (bad_window w || list_any (bad_call (seen w)) fs) OutOfRange (map (column (seen w)) fs)
  unfolding IsSimple
  one_window w fs = go (windowed rows w) (simple_window rows w)
    where
      go : (r : Result Windowed AnswerFault) → IsSimple r → (r >>= λ y. each (function_column rows y) fs)
          ≡ unless (is_refused r || list_any (bad_call (value_or no_window r)) fs) OutOfRange (map (column (value_or no_window r)) fs)
      go (Ok y) s = each_is [] (function_column rows y) (simple_column rows y) fs
      go (Err OutOfRange) s = refl
      go (Err TooManyRows) s = absurd s
      go (Err NoMemory) s = absurd s

  abbrev any_from : List CallPlan → ℕ → List WindowPlan → Bool
  any_from cs k [] = false
  any_from cs k (w ∷ ws) = (bad_window w || list_any (bad_call (seen w)) (functions_over cs k)) || any_from cs (k + 1) ws

  abbrev columns_on : List CallPlan → ℕ → List WindowPlan → List (List (List Meaning))
  columns_on cs k [] = []
  columns_on cs k (w ∷ ws) = map (column (seen w)) (functions_over cs k) ∷ columns_on cs (k + 1) ws

  from_is : (cs : List CallPlan) (k : ℕ) (ws : List WindowPlan)
      → columns_from rows cs k ws ≡ unless (any_from cs k ws) OutOfRange (columns_on cs k ws)
  from_is cs k [] = refl
  from_is cs k (w ∷ ws) =
      ap (λ r. r >>= λ columns. columns_from rows cs (k + 1) ws >>= λ others. Ok (columns ∷ others)) (one_window w (functions_over cs k))
      ∙ ap (λ r. unless (bad_window w || list_any (bad_call (seen w)) (functions_over cs k)) OutOfRange
      (map (column (seen w)) (functions_over cs k)) >>= λ columns. r >>= λ others. Ok (columns ∷ others)) (from_is cs (k + 1) ws)
      ∙ both (bad_window w || list_any (bad_call (seen w)) (functions_over cs k)) (any_from cs (k + 1) ws)
      (map (column (seen w)) (functions_over cs k)) (columns_on cs (k + 1) ws)

  -- whether a call of some windows is refused
  abbrev hit : CallPlan → ℕ → List WindowPlan → Bool
  hit c k [] = false
  hit c k (w ∷ ws) = ((c.window == k) && bad_call (seen w) c.function) || hit c (k + 1) ws

  abbrev calls_from : List CallPlan → ℕ → List WindowPlan → Bool
  calls_from cs k [] = false
  calls_from cs k (w ∷ ws) = list_any (bad_call (seen w)) (functions_over cs k) || calls_from cs (k + 1) ws

  apart : (cs : List CallPlan) (k : ℕ) (ws : List WindowPlan) → any_from cs k ws ≡ (list_any bad_window ws || calls_from cs k ws)
  apart cs k [] = refl
  apart cs k (w ∷ ws) =
      ap (λ b. (bad_window w || list_any (bad_call (seen w)) (functions_over cs k)) || b) (apart cs (k + 1) ws)
      ∙ exchange (bad_window w) (list_any (bad_call (seen w)) (functions_over cs k)) (list_any bad_window ws) (calls_from cs (k + 1) ws)

  no_calls : (k : ℕ) (ws : List WindowPlan) → calls_from [] k ws ≡ false
  no_calls k [] = refl
  no_calls k (w ∷ ws) = no_calls (k + 1) ws

  first_call : (q : FunctionPlan → Bool) (c : CallPlan) (cs : List CallPlan) (k : ℕ)
      → list_any q (functions_over (c ∷ cs) k) ≡ (((c.window == k) && q c.function) || list_any q (functions_over cs k))
  first_call q c cs k = go (c.window == k)
    where
      go : (b : Bool) → list_any q (map (λ (y : CallPlan). y.function)
          (cond b (c ∷ filter (λ (y : CallPlan). y.window == k) cs) (filter (λ (y : CallPlan). y.window == k) cs)))
          ≡ ((b && q c.function) || list_any q (functions_over cs k))
      go true = refl
      go false = refl

  more_calls : (c : CallPlan) (cs : List CallPlan) (k : ℕ) (ws : List WindowPlan)
      → calls_from (c ∷ cs) k ws ≡ (hit c k ws || calls_from cs k ws)
  more_calls c cs k [] = refl
  more_calls c cs k (w ∷ ws) =
      ap (λ b. b || calls_from (c ∷ cs) (k + 1) ws) (first_call (bad_call (seen w)) c cs k)
      ∙ ap (λ b. (((c.window == k) && bad_call (seen w) c.function) || list_any (bad_call (seen w)) (functions_over cs k))
      || b) (more_calls c cs (k + 1) ws)
      ∙ exchange ((c.window == k) && bad_call (seen w) c.function) (list_any (bad_call (seen w)) (functions_over cs k))
      (hit c (k + 1) ws) (calls_from cs (k + 1) ws)

  miss : (c : CallPlan) (k : ℕ) (ws : List WindowPlan) → c.window < k → hit c k ws ≡ false
  miss c k [] h = refl
  miss c k (w ∷ ws) h = ap (λ b. (b && bad_call (seen w) c.function) || hit c (k + 1) ws) (other_number c.window k h)
      ∙ miss c (k + 1) ws (omega arith)

  hit_is : (c : CallPlan) (k i : ℕ) (ws : List WindowPlan) → c.window ≡ k + i → i < length ws
      → hit c k ws ≡ is_refused (column_in rows c.function (slice_get (map seen ws) i))
  hit_is c k i [] e h = absurd (omega arith)
  hit_is c k zero (w ∷ ws) e h =
      ap (λ b. (b && bad_call (seen w) c.function) || hit c (k + 1) ws) (same_number c.window k (omega arith))
      ∙ ap (λ b. bad_call (seen w) c.function || b) (miss c (k + 1) ws (omega arith)) ∙ or_false (bad_call (seen w) c.function)
    where
      or_false : (b : Bool) → (b || false) ≡ b
      or_false true = refl
      or_false false = refl
  hit_is c k (suc i) (w ∷ ws) e h =
      ap (λ b. (b && bad_call (seen w) c.function) || hit c (k + 1) ws) (greater_number c.window k (omega arith))
      ∙ hit_is c (k + 1) i ws (omega arith) (omega arith)

  all_calls : (cs : List CallPlan) (ws : List WindowPlan) → AllByRecursion (λ (c : CallPlan). c.window < length ws) cs
      → calls_from cs 0 ws ≡ list_any (λ c. is_refused (call_column rows (map seen ws) c)) cs
  all_calls [] ws all = no_calls 0 ws
  all_calls (c ∷ cs) ws all =
      more_calls c cs 0 ws ∙ ap (λ b. b || calls_from cs 0 ws) (hit_is c 0 c.window ws (omega arith) all.0)
      ∙ ap (λ b. is_refused (call_column rows (map seen ws) c) || b) (all_calls cs ws all.1)

  -- the columns of a window's functions
  abbrev over : List FunctionPlan → Option Windowed → List (List Meaning)
  over fs None = []
  over fs (Some y) = map (column y) fs

  columns_at : (cs : List CallPlan) (k i : ℕ) (ws : List WindowPlan) → i < length ws → get_or (columns_on cs k ws) i []
      ≡ over (functions_over cs (k + i)) (slice_get (map seen ws) i)
  columns_at cs k i [] h = absurd (omega arith)
  columns_at cs k zero (w ∷ ws) h = let e : k ≡ k + 0 = omega arith in ap (λ n. map (column (seen w)) (functions_over cs n)) e
  columns_at cs k (suc i) (w ∷ ws) h =
      let e : k + 1 + i ≡ k + suc i = omega arith in
      columns_at cs (k + 1) i ws (omega arith) ∙ ap (λ n. over (functions_over cs n) (slice_get (map seen ws) i)) e

  column_is : (cs : List CallPlan) (ws : List WindowPlan) (j : ℕ) (c : CallPlan) → c.window < length ws
      → slice_get cs j ≡ Some c → column_found (columns_on cs 0 ws) cs j (slice_get cs j) ≡ value_or [] (call_column rows (map seen ws) c)
  column_is cs ws j c h e =
      ap (column_found (columns_on cs 0 ws) cs j) e
      ∙ ap (λ l. get_or l (calls_before cs c.window j) []) (columns_at cs 0 c.window ws h
      ∙ ap (λ n. over (functions_over cs n) (slice_get (map seen ws) c.window)) (let here : 0 + c.window ≡ c.window =
      omega arith in here))
      ∙ go (slice_get (map seen ws) c.window)
    where
      none : List (List Meaning)
      none = []

      nothing : (n : ℕ) → get_or none n [] ≡ []
      nothing n = refl

      go : (o : Option Windowed) → get_or (over (functions_over cs c.window) o) (calls_before cs c.window j) []
          ≡ value_or [] (column_in rows c.function o)
      go None = nothing (calls_before cs c.window j)
      go (Some y) = element_mapped (column y) (functions_over cs c.window) (calls_before cs c.window j) c.function []
          (nth_call cs j c c.window e refl)

  columns_same : (cs : List CallPlan) (ws : List WindowPlan) → AllByRecursion (λ (c : CallPlan). c.window < length ws) cs
      → columns_of_calls (columns_on cs 0 ws) cs ≡ map (λ c. value_or [] (call_column rows (map seen ws) c)) cs
  columns_same cs ws all =
      listed (λ c. value_or [] (call_column rows (map seen ws) c)) (λ j. column_found (columns_on cs 0 ws) cs j (slice_get cs j)) cs 0
      (λ j c e. let here : 0 + j ≡ j = omega arith in ap (λ n. column_found (columns_on cs 0 ws) cs n (slice_get cs n)) here
      ∙ column_is cs ws j c (all_at (λ (c : CallPlan). c.window < length ws) cs j c all e) e)

  -- the calls' columns by window are those that are meant
  pub by_window : (s : SelectPlan) → AllByRecursion (λ (c : CallPlan). c.window < length s.windows) s.calls
      → call_columns s rows ≡ (columns_from rows s.calls 0 s.windows >>= λ answers. Ok (columns_of_calls answers s.calls))
  by_window s all =
      ap (λ r. r >>= λ windows. each (call_column rows windows) s.calls) (each_is no_window (windowed rows) (simple_window rows) s.windows)
      ∙ after (list_any bad_window s.windows)
      ∙ ap (λ b. unless b OutOfRange columns) (ap (λ b. list_any bad_window s.windows || b)
      (sym (all_calls s.calls s.windows all)) ∙ sym (apart s.calls 0 s.windows))
      ∙ ap (λ cs. unless (any_from s.calls 0 s.windows) OutOfRange cs) (sym (columns_same s.calls s.windows all))
      ∙ sym (answered (any_from s.calls 0 s.windows))
      ∙ sym (ap (λ r. r >>= λ answers. Ok (columns_of_calls answers s.calls)) (from_is s.calls 0 s.windows))
    where
      columns : List (List Meaning)
      columns = map (λ c. value_or [] (call_column rows (map seen s.windows) c)) s.calls

      after : (b : Bool) → (unless b OutOfRange (map seen s.windows) >>= λ windows. each (call_column rows windows) s.calls)
          ≡ unless (b || list_any (λ c. is_refused (call_column rows (map seen s.windows) c)) s.calls) OutOfRange columns
      after true = refl
      after false = each_is [] (call_column rows (map seen s.windows))
          (λ c. simple_in c.function (slice_get (map seen s.windows) c.window)) s.calls
        where
          simple_in : (f : FunctionPlan) (o : Option Windowed) → IsSimple (column_in rows f o)
          simple_in f None = simple_ok []
          simple_in f (Some y) = simple_column rows y f

      answered : (b : Bool) → (unless b OutOfRange (columns_on s.calls 0 s.windows) >>= λ answers.
          Ok (columns_of_calls answers s.calls)) ≡ unless b OutOfRange (columns_of_calls (columns_on s.calls 0 s.windows) s.calls)
      answered true = refl
      answered false = refl

-- sound calls are over their windows, and their functions are sound
sound_parts : (n : ℕ) (c : CallPlan) (b : Bool) → (is_sound_call n c && b) ≡ true → (c.window < n)
    × (is_sound_function c.function ≡ true) × (b ≡ true)
sound_parts n c b e = (
  grind (
    arith,
    nat_tests,
    first (nat_lt c.window n) (is_sound_function c.function)
        (first (is_sound_call n c) b e),
  ),
  second (nat_lt c.window n) (is_sound_function c.function)
      (first (is_sound_call n c) b e),
  second (is_sound_call n c) b e,
)
  where
    first : (a b : Bool) → (a && b) ≡ true → a ≡ true
    first true b k = refl
    first false b k = k

    second : (a b : Bool) → (a && b) ≡ true → b ≡ true
    second true b k = k
    second false b k = absurd (cc)

pub sound_windows : (n : ℕ) (cs : List CallPlan) → list_all (is_sound_call n) cs ≡ true → AllByRecursion (λ (c : CallPlan). c.window < n) cs
sound_windows n [] e = tt
sound_windows n (c ∷ cs) e = let p = sound_parts n c (list_all (is_sound_call n) cs) e in (p.0, sound_windows n cs p.2)

pub sound_functions : (n w : ℕ) (cs : List CallPlan) → list_all (is_sound_call n) cs ≡ true
    → list_all is_sound_function (functions_over cs w) ≡ true
sound_functions n w [] e = refl
sound_functions n w (c ∷ cs) e =
    let p = sound_parts n c (list_all (is_sound_call n) cs) e in
    go (c.window == w) p.1 (sound_functions n w cs p.2)
  where
    go : (b : Bool) → is_sound_function c.function ≡ true → list_all is_sound_function (functions_over cs w) ≡ true
        → list_all is_sound_function (map (λ (y : CallPlan). y.function)
        (cond b (c ∷ filter (λ (y : CallPlan). y.window == w) cs) (filter (λ (y : CallPlan). y.window == w) cs))) ≡ true
    go true here rest = ap (λ b. b && list_all is_sound_function (functions_over cs w)) here ∙ rest
    go false here rest = rest
