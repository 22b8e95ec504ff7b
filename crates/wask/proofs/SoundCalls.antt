-- A query whose windows are known and whose counts are not 0 has sound calls.
use Rattle.std.proofs.Common.{◌≡◌, Bool, true, false, not, ◌&&◌, ℕ, zero, suc, ◌+◌, ◌<◌, ◌≤◌, nat_le, List}
use Rattle.std.proofs.Common.{[], ◌∷◌, length, Option, Some, is_some, refl, sym, ap₂, true≢false, arith}
use Rattle.std.specs.Prelude.{if◌then◌else◌}
use Rattle.std.specs.Str.{bytes_eq}
use Rattle.std.specs.List.{list_all}
use Rattle.std.proofs.lemmas.Bool.{and_parts, not-true, not-false, lt-ltb, le-leb}
use Rattle.std.proofs.lemmas.List.{length-append}
use Rattle.wquery.specs.Tree.{Tree, Numeral, Invoked, Trees, NoTrees, MoreTrees, Given, Everything}
use Rattle.wquery.specs.Tree.{These, Columns, Filter, ItsGroup, ThatWindow, OwnWindow}
use Rattle.wscope.specs.declared.function.Function.{Function}
use Rattle.wscope.specs.declared.function.Function.TheVariants as functions
use Rattle.wscope.specs.Functions.{function_of}
use Rattle.wscope.specs.Windows.{NamedWindow, window_named}
use Rattle.wnames.specs.Calls.{counts_some, is_nonzero, is_zeroth, passes_at}
use Rattle.wwindows.specs.Windows.{is_over_unknown, reach_is}
use Rattle.wcalls.specs.Sound.{is_sound_function}
use Rattle.wplanner.specs.Sound.{is_sound_call}
use Rattle.wdistinct.specs.declared.distinct_calls.CallKind.TheVariants.{Windowed}
use Rattle.wdistinct.specs.Calls.{is_call_of}
use Rattle.wbinding.specs.Resolving.{Layout}
use Rattle.wbinding.specs.Functions.{call_function, function_made, number_or, tree_at}
use Rattle.wresolve.specs.Selecting.{calls_made, has_own_window, own_window, own_windows, place_over, window_place}
use Rattle.wask.proofs.Nodes.{is_kept}

-- a count that is not 0, or that is left out
counted : (t : Tree) → not (is_nonzero t) ≡ false → nat_le 1 (number_or 1 t) ≡ true
counted (Numeral zero) e = absurd (true≢false e)
counted (Numeral (suc n)) e = le-leb 1 (suc n) (omega arith)
counted t e = refl

first_counted : (ts : Trees) → not (passes_at 0 is_nonzero ts) ≡ false → nat_le 1 (number_or 1 (tree_at 0 ts)) ≡ true
first_counted NoTrees e = refl
first_counted (MoreTrees t ts) e = counted t e

second_counted : (ts : Trees) → not (passes_at 1 is_nonzero ts) ≡ false → nat_le 1 (number_or 1 (tree_at 1 ts)) ≡ true
second_counted NoTrees e = refl
second_counted (MoreTrees t ts) e = first_counted ts e

function_sound : (l : Layout) (f : Option Function) (given : Given) (filter : Filter) → not (counts_some f given) ≡ false
    → is_sound_function (function_made l f given filter) ≡ true
function_sound l (Some functions.Ntile) Everything filter e = refl
function_sound l (Some functions.Ntile) (These ts) filter e = first_counted ts e
function_sound l (Some functions.Ntile) (Columns ts) filter e = refl
function_sound l (Some functions.NthValue) Everything filter e = refl
function_sound l (Some functions.NthValue) (These ts) filter e = second_counted ts e
function_sound l (Some functions.NthValue) (Columns ts) filter e = refl
function_sound l f given filter e = refl

call_sound : (l : Layout) (t : Tree) → is_zeroth t ≡ false → is_sound_function (call_function l t) ≡ true
call_sound l (Invoked name given filter reach) e = function_sound l (function_of name) given filter e
call_sound l t e = refl

-- a window that some entry names has its place among them
placed : (ws : List NamedWindow) (name : List ℕ) → is_some (window_named ws name) ≡ true → window_place ws name < length ws
placed [] name e = absurd (true≢false (sym e))
placed (w ∷ ws) name e = go (bytes_eq w.name name) (placed ws name) e
  where
    go : (same : Bool) → (is_some (window_named ws name) ≡ true → window_place ws name < length ws)
        → is_some (if same then Some w.window else window_named ws name) ≡ true
        → (if same then 0 else suc (window_place ws name)) < length (w ∷ ws)
    go true later some = omega arith
    go false later some = let below : window_place ws name < length ws = later some in omega (arith, below)

-- what is known of a call with OVER: its window is there, and it counts from 1
abbrev pub IsCall : List NamedWindow → Tree → Type 0
IsCall ws t = (is_call_of Windowed t ≡ true) × (reach_is (is_over_unknown ws) t ≡ false) × (is_zeroth t ≡ false)

-- so many windows of its own
abbrev own_count : Tree → ℕ
own_count t = if has_own_window t then 1 else 0

own_length : (l : Layout) (ws : List NamedWindow) (t : Tree) → length (own_window l ws t) ≡ own_count t
own_length l ws (Invoked name given filter ItsGroup) = refl
own_length l ws (Invoked name given filter (ThatWindow window)) = refl
own_length l ws (Invoked name given filter (OwnWindow copied partition order frame)) = refl
own_length l ws t = refl

next_place : (next : ℕ) (own : Bool) → (if own then suc next else next) ≡ next + (if own then 1 else 0)
next_place next true = omega arith
next_place next false = omega arith

-- the window of a call lies among the windows
over_one : (ws : List NamedWindow) (next n : ℕ) (t : Tree) → IsCall ws t → length ws ≤ n → next + own_count t ≤ n → place_over ws next t < n
over_one ws next n (Invoked name given filter ItsGroup) is few room = absurd (true≢false (sym is.0))
over_one ws next n (Invoked name given filter (ThatWindow window)) is few room =
    let below : window_place ws window < length ws = placed ws window (not-false (is_some (window_named ws window)) is.1) in
    omega (arith, below, few)
over_one ws next n (Invoked name given filter (OwnWindow copied partition order frame)) is few room = omega (arith, room)
over_one ws next n t is few room = absurd (true≢false (sym is.0))

tail_room : (a b c d n next m : ℕ) → a ≡ b + c → b ≡ d → m ≡ next + d → next + a ≤ n → m + c ≤ n
tail_room a b c d n next m total first moved room = omega (arith, total, first, moved, room)

head_room : (a b c d n next : ℕ) → a ≡ b + c → b ≡ d → next + a ≤ n → next + d ≤ n
head_room a b c d n next total first room = omega (arith, total, first, room)

kept_head : (s r : Tree → Bool) (t : Tree) (ts : List Tree) → list_all (is_kept s r) (t ∷ ts) ≡ true → (s t ≡ true) × (r t ≡ false)
kept_head s r t ts e = let parts = and_parts (s t) (not (r t)) (and_parts (is_kept s r t) (list_all (is_kept s r) ts) e).0
    in (parts.0, not-true (r t) parts.1)

kept_tail : (s r : Tree → Bool) (t : Tree) (ts : List Tree) → list_all (is_kept s r) (t ∷ ts) ≡ true → list_all (is_kept s r) ts ≡ true
kept_tail s r t ts e = (and_parts (is_kept s r t) (list_all (is_kept s r) ts) e).1

-- calls whose own windows have the places from the next one on
pub calls_sound : (l : Layout) (ws : List NamedWindow) (n : ℕ) (ts : List Tree) (next : ℕ) → length ws ≤ n
    → next + length (own_windows l ws ts) ≤ n
    → list_all (is_kept (is_call_of Windowed) (reach_is (is_over_unknown ws))) ts ≡ true
    → list_all (is_kept (is_call_of Windowed) is_zeroth) ts ≡ true
    → list_all (is_sound_call n) (calls_made l ws next ts) ≡ true
calls_sound l ws n [] next few room named counting = refl
calls_sound l ws n (t ∷ ts) next few room named counting =
    ap₂ (λ a b. a && b)
    (ap₂ (λ a b. a && b) (lt-ltb (place_over ws next t) n
    (over_one ws next n t is few (head_room _ _ _ _ n next total (own_length l ws t) room))) (call_sound l t is.2))
    (calls_sound l ws n ts (if has_own_window t then suc next else next) few
    (tail_room _ _ _ _ n next _ total (own_length l ws t) (next_place next (has_own_window t)) room)
    (kept_tail (is_call_of Windowed) (reach_is (is_over_unknown ws)) t ts named)
    (kept_tail (is_call_of Windowed) is_zeroth t ts counting))
  where
    is : IsCall ws t
    is = (
      (kept_head (is_call_of Windowed) is_zeroth t ts counting).0,
      (kept_head (is_call_of Windowed) (reach_is (is_over_unknown ws)) t ts named).1,
      (kept_head (is_call_of Windowed) is_zeroth t ts counting).1,
    )

    total : length (own_windows l ws (t ∷ ts)) ≡ length (own_window l ws t) + length (own_windows l ws ts)
    total = length-append (own_window l ws t) (own_windows l ws ts)
