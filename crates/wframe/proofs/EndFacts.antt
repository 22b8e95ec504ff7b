-- What the ends that are kept say of a row.
use Rattle.std.proofs.Common.{◌≡◌, ℕ, suc, ◌+◌, ◌-◌, ◌<◌, ◌≤◌, max, Bool, true, false, cond, not}
use Rattle.std.proofs.Common.{List, [], ◌∷◌, length, get_or, sym, ap, ◌∙◌, subst, refl, arith}
use Rattle.std.specs.Prelude.{filter}
use Rattle.std.specs.Ordering.{is_lt}
use Rattle.std.specs.declared.cmp.Ordering.{Ordering}
use Rattle.wvalues.specs.Meaning.{Meaning}
use Rattle.wvalues.specs.Order.{keys_cmp}
use Rattle.wframe.specs.declared.ends.FrameEnds.{FrameEnds}
use Rattle.wframe.specs.declared.frame.Span.{Span}
use Rattle.wframe.specs.Places.{places_from, AreApart}
use Rattle.wframe.specs.Peers.{key_at, is_before, is_upto, smaller_keys}
use Rattle.wframe.specs.Cuts.{CutsAt, HasNumberedCuts}
use Rattle.wframe.specs.PeerGroups.{begins_of}
use Rattle.wframe.specs.Partition.{Partition}
use Rattle.wframe.specs.Frame.{is_before_start, is_after_end, frame_start, frame_end, frame_extent}
use Rattle.wframe.specs.FrameEnds.{HasFrames, Extends, IsFrameOf}
use Rattle.wframe.specs.Offsets.{moves_groups}
use Rattle.wframe.specs.Partitions.{IsGroup}
use Rattle.wframe.specs.Moves.{move_of, moved_number}
use Rattle.wframe.specs.Bounds.{starts_after, ends_before}
use Rattle.wframe.specs.declared.frame.FrameMode.TheVariants.{Rows}
use Rattle.wframe.proofs.MoveFacts.{starts_at, ends_at}
use Rattle.wframe.proofs.NumberedFacts.{numbered_stay, begins_stay}
use Rattle.wframe.proofs.FrameFacts.{cut_count}

pub frames_stay : (p : Partition) (first : ℕ) (old new : FrameEnds) → HasFrames p first old → Extends old new → HasFrames p first new
frames_stay p first old new has more = record {
  ordered = has.ordered;
  starts = λ g. numbered_stay first (length p.keys) (is_before_start p.order p.keys p.frame.mode p.frame.start)
      old.numbers.items new.numbers.items old.starts.items new.starts.items (has.starts g) more.numbers more.starts;
  ends = λ g. numbered_stay first (length p.keys) (λ i j. not (is_after_end p.order p.keys p.frame.mode p.frame.end i j))
      old.numbers.items new.numbers.items old.ends.items new.ends.items (has.ends g) more.numbers more.ends;
  peer_starts = numbered_stay first (length p.keys) (is_before (keys_cmp p.order) p.keys) old.numbers.items
      new.numbers.items (begins_of old.peer_ends.items) (begins_of new.peer_ends.items) has.peer_starts more.numbers
      (begins_stay old.peer_ends.items new.peer_ends.items more.peer_ends);
  peer_ends = numbered_stay first (length p.keys) (is_upto (keys_cmp p.order) p.keys) old.numbers.items new.numbers.items
      old.peer_ends.items new.peer_ends.items has.peer_ends more.numbers more.peer_ends;
}

-- what is read for a row, counted from the first
pub cut_read : (first n row x r : ℕ) (passes : ℕ → ℕ → Bool) (ns cuts : List ℕ) → HasNumberedCuts first n passes ns cuts
    → row < n → x ≡ get_or cuts (get_or ns (first + row) 0) 0 → r ≡ x - first → CutsAt n (passes row) r
cut_read first n row x r passes ns cuts has h e d = subst (CutsAt n (passes row)) (sym (d ∙ ap (λ y. y - first) e)) (has.each row h).at

pub cut_above : (first n row x : ℕ) (passes : ℕ → ℕ → Bool) (ns cuts : List ℕ) → HasNumberedCuts first n passes ns cuts
    → row < n → x ≡ get_or cuts (get_or ns (first + row) 0) 0 → first ≤ x
cut_above first n row x passes ns cuts has h e = let f = (has.each row h).from in omega (arith, e, f)

cond_long : {X Y : Type 0} (b c : Bool) (x : X) (y : Y) (xs : List X) (ys : List Y) → b ≡ c → length xs ≡ length ys
    → length (cond b (x ∷ xs) xs) ≡ length (cond c (y ∷ ys) ys)
cond_long true true x y xs ys e h = ap (λ n. suc n) h
cond_long true false x y xs ys e h = cc
cond_long false true x y xs ys e h = cc
cond_long false false x y xs ys e h = h

-- a filter of places by what stands there keeps as many as the filter of that
filtered_at : (test : List Meaning → Bool) (passes : ℕ → Bool) (xs : List (List Meaning)) (a : ℕ)
    → ((i : ℕ) → i < length xs → passes (a + i) ≡ test (get_or xs i []))
    → length (filter passes (places_from a (length xs))) ≡ length (filter test xs)
filtered_at test passes [] a h = refl
filtered_at test passes (x ∷ xs) a h =
    let z : a ≡ a + 0 = omega arith in
    cond_long (passes a) (test x) a x (filter passes (places_from (a + 1) (length xs))) (filter test xs) (ap passes z ∙ h 0 (omega arith))
    (filtered_at test passes xs (a + 1) (λ i l. let e : a + 1 + i ≡ a + suc i = omega arith in ap passes e ∙ h (suc i) (omega arith)))

-- a row's peers begin after all rows with smaller keys
pub smaller_count : (cmp : List Meaning → List Meaning → Ordering) (keys : List (List Meaning)) (row c : ℕ)
    → CutsAt (length keys) (is_before cmp keys row) c → c ≡ length (smaller_keys cmp keys row)
smaller_count cmp keys row c at =
    cut_count (length keys) (is_before cmp keys row) c at
    ∙ filtered_at (λ key. is_lt (cmp key (key_at keys row))) (is_before cmp keys row) keys 0 (λ i h. let e : 0 + i ≡ i =
    omega arith in ap (is_before cmp keys row) e)

max_from : (first s e : ℕ) → first ≤ s → first ≤ e → max s e - first ≡ max (s - first) (e - first)
max_from first s e h k = omega arith

-- a row's frame, by the places where it starts and ends
pub frame_cut : (p : Partition) (row s e : ℕ) (r : Span)
    → CutsAt (length p.keys) (is_before_start p.order p.keys p.frame.mode p.frame.start row) s
    → CutsAt (length p.keys) (λ j. not (is_after_end p.order p.keys p.frame.mode p.frame.end row j)) e → r.from ≡ s
    → r.to ≡ max s e → IsFrameOf p row r
frame_cut p row s e r at to from upto =
    let n = length p.keys in
    let before = is_before_start p.order p.keys p.frame.mode p.frame.start row in
    let within = λ (j : ℕ). not (is_after_end p.order p.keys p.frame.mode p.frame.end row j) in
    let start_is : s ≡ frame_start p row = cut_count n before s at in
    let end_is : e ≡ frame_end p row = cut_count n within e to in
    record {
      from = from ∙ start_is;
      to = upto ∙ ap (λ y. max y e) start_is ∙ ap (max (frame_start p row)) end_is;
      start = subst (CutsAt n before) start_is at;
      end = subst (CutsAt n within) end_is to;
    }

-- what is read of a row's frame
pub frame_read : (p : Partition) (first row : ℕ) (stored : FrameEnds) (x r : Span) → HasFrames p first stored
    → moves_groups p.frame ≡ true → row < length p.keys →
    x.from ≡ get_or stored.starts.items (get_or stored.numbers.items (first + row) 0) 0 →
    x.to ≡ max (get_or stored.starts.items (get_or stored.numbers.items (first + row) 0) 0)
    (get_or stored.ends.items (get_or stored.numbers.items (first + row) 0) 0) →
    r.from ≡ x.from - first → r.to ≡ x.to - first → IsFrameOf p row r
frame_read p first row stored x r has g h xf xt rf rt =
    let n = length p.keys in
    let ns = stored.numbers.items in
    let before = is_before_start p.order p.keys p.frame.mode p.frame.start in
    let upto = λ (i j : ℕ). not (is_after_end p.order p.keys p.frame.mode p.frame.end i j) in
    let s = get_or stored.starts.items (get_or ns (first + row) 0) 0 in
    let e = get_or stored.ends.items (get_or ns (first + row) 0) 0 in
    let at = cut_read first n row s (s - first) before ns stored.starts.items (has.starts g) h refl refl in
    let to = cut_read first n row e (e - first) upto ns stored.ends.items (has.ends g) h refl refl in
    let sf = cut_above first n row s before ns stored.starts.items (has.starts g) h refl in
    let ef = cut_above first n row e upto ns stored.ends.items (has.ends g) h refl in
    frame_cut p row (s - first) (e - first) r at to (rf ∙ ap (λ y. y - first) xf) (rt ∙ ap (λ y. y - first) xt ∙ max_from first s e sf ef)

-- in ROWS the place of a row and the one behind it, moved
pub frame_moved : (p : Partition) (row s e : ℕ) (r : Span) → p.frame.mode ≡ Rows → row < length p.keys
    → s ≡ moved_number (move_of p.frame.start (length p.keys)) (length p.keys) row
    → e ≡ moved_number (move_of p.frame.end (length p.keys)) (length p.keys) (row + 1) → r.from ≡ s → r.to ≡ max s e → IsFrameOf p row r
frame_moved p row s e r mode h is upto from to =
    let n = length p.keys in
    let at = subst (λ m. CutsAt n (is_before_start p.order p.keys m p.frame.start row) s) (sym mode)
    (subst (CutsAt n (starts_after p.frame.start row)) (sym is) (starts_at p.frame.start n row h)) in
    let end = subst (λ m. CutsAt n (λ j. not (is_after_end p.order p.keys m p.frame.end row j)) e) (sym mode)
    (subst (CutsAt n (λ j. not (ends_before p.frame.end row j))) (sym upto) (ends_at p.frame.end n row h)) in
    frame_cut p row s e r at end from to

pub span_is : (s : Span) (a b : ℕ) → s.from ≡ a → s.to ≡ b → s ≡ record { from = a; to = b }
span_is s a b e f = ap (λ x. record { from = x; to = s.to }) e ∙ ap (λ y. record { from = a; to = y }) f

pub apart_wider : (low high low' high' : ℕ) (ss : List Span) → low' ≤ low → high ≤ high' → AreApart low ss high → AreApart low' ss high'
apart_wider low high low' high' [] l h a = omega (arith, a)
apart_wider low high low' high' (s ∷ ss) l h a = (omega (arith, a.0), a.1, apart_wider s.to high s.to high' ss (omega arith) h a.2)

-- what is read of a row's peers
pub peers_read : (p : Partition) (first row : ℕ) (stored : FrameEnds) (x r : Span) → HasFrames p first stored → row < length p.keys →
    x.from ≡ get_or (begins_of stored.peer_ends.items) (get_or stored.numbers.items (first + row) 0) 0
    → x.to ≡ get_or stored.peer_ends.items (get_or stored.numbers.items (first + row) 0) 0 →
    r.from ≡ x.from - first → r.to ≡ x.to - first → IsGroup (keys_cmp p.order) p.keys row r
peers_read p first row stored x r has h xf xt rf rt =
    record {
      start = cut_read first (length p.keys) row x.from r.from (is_before (keys_cmp p.order) p.keys) stored.numbers.items
          (begins_of stored.peer_ends.items) has.peer_starts h xf rf;
      end = cut_read first (length p.keys) row x.to r.to (is_upto (keys_cmp p.order) p.keys) stored.numbers.items
          stored.peer_ends.items has.peer_ends h xt rt;
    }

pub frame_is : (p : Partition) (row : ℕ) (r : Span) → IsFrameOf p row r → r ≡ frame_extent p row
frame_is p row r found = span_is r (frame_start p row) (max (frame_start p row) (frame_end p row)) found.from found.to
