-- The window that a plan says, and rows in its order, of what its partition values and keys come to.
use Rattle.std.proofs.Common.{◌≡◌, ℕ, Bool, true, false, List, [], length, map, Result, Ok, Err, refl, sym, ap, ◌∙◌}
use Rattle.std.proofs.lemmas.List.{length-map}
use Rattle.wvalues.specs.declared.key.SortKey.{SortKey}
use Rattle.wvalues.specs.Meaning.{Meaning}
use Rattle.wframe.specs.declared.frame.Frame.{Frame}
use Rattle.wplan.specs.Formula.{Formula}
use Rattle.wplan.specs.Plans.{KeyPlan, WindowPlan}
use Rattle.wrows.specs.declared.fault.AnswerFault.{AnswerFault}
use Rattle.wrows.specs.declared.fault.AnswerFault.TheVariants.{OutOfRange}
use Rattle.wrows.specs.Outcomes.{unless, ◌>>=◌}
use Rattle.wrows.specs.Columns.{Row, lists_of, value_on}
use Rattle.wrows.specs.Sorting.{ascending}
use Rattle.wrows.proofs.RowFacts.{length-places, then_ok}
use Rattle.wframe.proofs.SortFacts.{length_sorted}
use Rattle.wcalls.specs.Frames as frames
use Rattle.wcalls.specs.Windows.{Windowed, windowed}
use Rattle.wframe.specs.Places.{places}
use Rattle.wcalls.specs.Ordered.{Ordered, in_order, ordered_by, ordered_rows, window_numbers}
use Rattle.wcalls.proofs.WindowFacts.{whole_cmp, whole_total}

abbrev pub made : List (List Meaning) → List SortKey → List (List Meaning) → List SortKey → Frame → Windowed
made values value_order keys order frame = record { values = values; value_order = value_order; keys = keys; order = order; frame = frame }

same_order : (v a : List (List Meaning)) (vo ao : List SortKey) (k b : List (List Meaning)) (ko bo : List SortKey) → v ≡ a
    → vo ≡ ao → k ≡ b → ko ≡ bo → ordered_by v vo k ko ≡ ordered_by a ao b bo
same_order v a vo ao k b ko bo p q r s =
    ap (λ x. ordered_by x vo k ko) p ∙ ap (λ x. ordered_by a x k ko) q ∙ ap (λ x. ordered_by a ao x ko) r ∙ ap (ordered_by a ao b) s

lists_long : (ts : List Formula) (rows : List Row) (lists : List (List Meaning)) → lists_of ts rows ≡ Ok lists → length lists ≡ length rows
lists_long ts rows lists e = go _ e
  where
    answer : List (List Meaning)
    answer = map (λ row. map (λ t. value_on t row) ts) rows

    go : (b : Bool) → unless b OutOfRange answer ≡ Ok lists → length lists ≡ length rows
    go true h = absurd (cc)
    go false h = let same : answer ≡ lists = cc in sym (ap length same) ∙ length-map rows (λ row. map (λ t. value_on t row) ts)

-- the frame plays no part in the order
pub shared_order : (rows : List Row) (a b : WindowPlan) → a.partition ≡ b.partition → a.keys ≡ b.keys
    → ordered_rows rows a ≡ ordered_rows rows b
shared_order rows a b p k =
    apart a
    ∙ ap (λ (ts : List Formula). answer ts (ascending ts) a.keys) p
    ∙ ap (answer b.partition (ascending b.partition)) k
    ∙ sym (apart b)
  where
    answer : List Formula → List SortKey → List KeyPlan → Result Ordered AnswerFault
    answer ts by keys = lists_of ts rows >>= λ V. lists_of (map (λ k. k.value) keys) rows >>= λ K.
        Ok (ordered_by V by K (map (λ k. k.order) keys))

    apart : (w : WindowPlan) → ordered_rows rows w ≡ answer w.partition (ascending w.partition) w.keys
    apart w = go (lists_of w.partition rows) (lists_of (map (λ k. k.value) w.keys) rows)
      where
        go : (values keys : Result (List (List Meaning)) AnswerFault)
            → ((values >>= λ V. keys >>= λ K. Ok (made V (ascending w.partition) K (map (λ k. k.order) w.keys)
            (frames.frame_of w.frame))) >>= λ x. Ok (in_order x))
            ≡ (values >>= λ V. keys >>= λ K. Ok (ordered_by V (ascending w.partition) K (map (λ k. k.order) w.keys)))
        go (Ok V) (Ok K) = refl
        go (Ok V) (Err x) = refl
        go (Err x) keys = refl

-- the window that an order is of
pub record Opened (rows : List Row) (plan : WindowPlan) (order : Ordered) : Type 0 where
  pub window : Windowed
  pub is : windowed rows plan ≡ Ok window
  pub order_is : order ≡ in_order window
  pub frame : window.frame ≡ frames.frame_of plan.frame
  pub keys : length window.order ≡ length plan.keys
  pub long : length window.values ≡ length rows

module _ (rows : List Row) (plan : WindowPlan) where
  abbrev of_keys : List (List Meaning) → List (List Meaning) → Windowed
  of_keys V K = made V (ascending plan.partition) K (map (λ k. k.order) plan.keys) (frames.frame_of plan.frame)

  abbrev rest : List (List Meaning) → Result Windowed AnswerFault
  rest V = lists_of (map (λ k. k.value) plan.keys) rows >>= λ K. Ok (of_keys V K)

  windowed_is : (V K : List (List Meaning)) → lists_of plan.partition rows ≡ Ok V
      → lists_of (map (λ k. k.value) plan.keys) rows ≡ Ok K → windowed rows plan ≡ Ok (of_keys V K)
  windowed_is V K e f = then_ok V (lists_of plan.partition rows) rest e
      ∙ then_ok K (lists_of (map (λ k. k.value) plan.keys) rows) (λ K. Ok (of_keys V K)) f

  pub opened : (order : Ordered) → ordered_rows rows plan ≡ Ok order → Opened rows plan order
  opened order h = go (lists_of plan.partition rows) (lists_of (map (λ k. k.value) plan.keys) rows) refl refl
    where
      go : (values keys : Result (List (List Meaning)) AnswerFault) → lists_of plan.partition rows ≡ values
          → lists_of (map (λ k. k.value) plan.keys) rows ≡ keys → Opened rows plan order
      go (Ok V) (Ok K) e f =
          let is : windowed rows plan ≡ Ok (of_keys V K) = windowed_is V K e f in
          let answer : ordered_rows rows plan ≡ Ok (in_order (of_keys V K)) =
          then_ok (of_keys V K) (windowed rows plan) (λ w. Ok (in_order w)) is in
          record {
            window = of_keys V K;
            is = is;
            order_is = cc;
            frame = refl;
            keys = length-map plan.keys (λ k. k.order);
            long = lists_long plan.partition rows V e;
          }
      go (Ok V) (Err x) e f =
          let none : ordered_rows rows plan ≡ Err x =
          ap (λ r. r >>= λ w. Ok (in_order w)) (then_ok V (lists_of plan.partition rows) rest e
          ∙ ap (λ r. r >>= λ K. Ok (of_keys V K)) f) in
          absurd (cc)
      go (Err x) keys e f =
          let none : ordered_rows rows plan ≡ Err x = ap (λ r. (r >>= rest) >>= λ w. Ok (in_order w)) e in
          absurd (cc)

  -- as many rows as were ordered
  pub rows_long : (order : Ordered) → Opened rows plan order → length order.rows ≡ length rows
  rows_long order p =
      let w : Windowed = p.window in
      ap (λ (o : Ordered). length o.rows) p.order_is
      ∙ length_sorted (whole_cmp w) (whole_total w) (places (length w.values)) ∙ length-places 0 (length w.values) ∙ p.long

  pub order_made : (V K : List (List Meaning)) (vo ko : List SortKey) → lists_of plan.partition rows ≡ Ok V
      → lists_of (map (λ k. k.value) plan.keys) rows ≡ Ok K → vo ≡ ascending plan.partition
      → ko ≡ map (λ k. k.order) plan.keys → ordered_rows rows plan ≡ Ok (ordered_by V vo K ko)
  order_made V K vo ko ev ek ev_order ek_order =
      then_ok (of_keys V K) (windowed rows plan) (λ w. Ok (in_order w)) (windowed_is V K ev ek)
      ∙ ap Ok (same_order V V (ascending plan.partition) vo K K (map (λ k. k.order) plan.keys) ko refl (sym ev_order) refl (sym ek_order))

  -- as many lists of keys as of partition values
  pub both_long : (V K : List (List Meaning)) → lists_of plan.partition rows ≡ Ok V
      → lists_of (map (λ k. k.value) plan.keys) rows ≡ Ok K → length V ≡ length K
  both_long V K ev ek = lists_long plan.partition rows V ev ∙ sym (lists_long (map (λ k. k.value) plan.keys) rows K ek)

abbrev numbers_in : Result (List ℕ) AnswerFault → List ℕ
numbers_in (Ok numbers) = numbers
numbers_in (Err fault) = []

-- the numbers of a window's rows are those of its order
pub presorted_numbers : (rows : List Row) (plan : WindowPlan) (numbers : List ℕ) (order : Ordered)
    → window_numbers rows plan ≡ Ok numbers → ordered_rows rows plan ≡ Ok order → numbers ≡ order.rows
presorted_numbers rows plan numbers order e f = ap numbers_in (sym e ∙ ap (λ r. r >>= λ (o : Ordered). Ok o.rows) f)
