-- Rows of which no two share their columns are told apart by their numbers, in the order of a window over these.
use Rattle.std.proofs.Common.{◌≡◌, ℕ, ◌<◌, ◌==◌, Bool, true, false, List, [], ◌∷◌, ◌++◌, length, map, get_or, Result, Ok}
use Rattle.std.proofs.Common.{is_eq, true≢false, refl, sym, ap, ◌∙◌, subst, arith}
use Rattle.std.specs.List.{AllByRecursion}
use Rattle.std.proofs.lemmas.Bool.Decides.{nat_tests}
use Rattle.std.proofs.lemmas.Cmp.{on_total, then_total, tied_itself}
use Rattle.std.proofs.lemmas.List.{get_or-map, length-map}
use Rattle.std.proofs.lemmas.List.Elements.{All-from_recursion}
use Rattle.wvalues.specs.declared.key.SortKey.{SortKey}
use Rattle.wvalues.specs.Meaning.{Meaning}
use Rattle.wvalues.specs.Order.{keys_cmp}
use Rattle.wvalues.specs.OrderLaws.{keys_total}
use Rattle.wframe.proofs.SortFacts.{all_sorted}
use Rattle.wframe.specs.Codes.{TellApart}
use Rattle.wframe.specs.Peers.{key_at}
use Rattle.wframe.specs.Places.{places}
use Rattle.wplan.specs.Formula.{At}
use Rattle.wplan.specs.Plans.{KeyPlan, WindowPlan}
use Rattle.wrows.specs.declared.fault.AnswerFault.{AnswerFault}
use Rattle.wrows.specs.Outcomes.{◌>>=◌}
use Rattle.wrows.specs.Columns.{Row}
use Rattle.wrows.specs.Sorting.{ascending}
use Rattle.wrows.proofs.RowFacts.{places_below}
use Rattle.wruns.specs.Differing.{AllDiffer}
use Rattle.wruns.specs.Runs.{keys_at, row_keys}
use Rattle.wcalls.specs.declared.window_order.Presorted.{Presorted}
use Rattle.wcalls.specs.Ordered.{Ordered, both_cmp, in_order, numbers_in_order, ordered_rows}
use Rattle.wcalls.specs.PresortedRows.{IsPresorted, KeysDiffer}
use Rattle.wcalls.specs.Windows.{Windowed}
use Rattle.wtable.specs.TableOrders.{AreColumns, direction}
use Rattle.wtable.proofs.ColumnFacts.{same_cmp, window_made, window_ordered}

module _ (order keys : List SortKey) (rows : List Row) (alike : map direction order ≡ map direction keys)
    (differ : AllDiffer keys rows) where
  abbrev lists : List (List Meaning)
  lists = map (row_keys keys) rows

  abbrev share : ℕ → ℕ → Bool
  share a b = is_eq (keys_cmp order (key_at lists a) (key_at lists b))

  -- two rows share their keys just where they are one
  one_row : (a b : ℕ) → a < length rows → b < length rows → (a == b) ≡ share a b
  one_row a b h k = go (a == b) (share a b) refl refl
    where
      columns : share a b ≡ is_eq (keys_cmp keys (keys_at keys rows a) (keys_at keys rows b))
      columns =
          ap is_eq (same_cmp order keys alike (key_at lists a) (key_at lists b))
          ∙ ap (λ x. is_eq (keys_cmp keys x (key_at lists b))) (get_or-map (row_keys keys) rows a [] [] h)
          ∙ ap (λ y. is_eq (keys_cmp keys (keys_at keys rows a) y)) (get_or-map (row_keys keys) rows b [] [] k)

      go : (x y : Bool) → (a == b) ≡ x → share a b ≡ y → x ≡ y
      go true true p q = refl
      go false false p q = refl
      go true false p q =
          let same : a ≡ b = grind (arith, nat_tests) in
          let itself : share a a ≡ true = ap is_eq (tied_itself (keys_total order) (key_at lists a)) in
          absurd (true≢false (sym itself ∙ ap (share a) same ∙ q))
      go false true p q =
          let same : a ≡ b = differ a b h k (sym columns ∙ q) in
          let itself : (a == a) ≡ true = grind (arith, nat_tests) in
          absurd (true≢false (sym itself ∙ ap (λ i. a == i) same ∙ p))

  -- their numbers tell apart rows in any order
  apart_by_numbers : (numbers : List ℕ) → AllByRecursion (λ i. i < length rows) numbers
      → TellApart (keys_cmp order) (map (key_at lists) numbers) numbers
  apart_by_numbers numbers below = record {
    len = sym (length-map numbers (key_at lists));
    alike = λ i j hi hj.
        let li : i < length numbers = omega (arith, hi, length-map numbers (key_at lists)) in
        let lj : j < length numbers = omega (arith, hj, length-map numbers (key_at lists)) in
        let within = All-from_recursion (λ i. i < length rows) numbers below in
        one_row (get_or numbers i 0) (get_or numbers j 0) (within i 0 li) (within j 0 lj)
        ∙ ap (λ x. is_eq (keys_cmp order x (key_at lists (get_or numbers j 0)))) (sym (get_or-map (key_at lists) numbers i 0 [] li))
        ∙ ap (λ y. is_eq (keys_cmp order (key_at (map (key_at lists) numbers) i) y)) (sym (get_or-map (key_at lists) numbers j 0 [] lj));
  }

none_named : (keys : List SortKey) → [] ≡ map (λ k. At k.col) keys → keys ≡ []
none_named [] e = refl
none_named (k ∷ keys) e = absurd (cc)

-- rows in the order of a window without partition values, whose keys are columns
pub window_differs : (width : ℕ) (plan : WindowPlan) (pk kk found : List SortKey)
    → AreColumns width plan.partition (ascending plan.partition) pk
    → AreColumns width (map (λ k. k.value) plan.keys) (map (λ k. k.order) plan.keys) kk → found ≡ pk ++ kk
    → plan.partition ≡ [] → (rows : List Row) → AllDiffer found rows → KeysDiffer rows plan
window_differs width plan pk kk found p k is none rows differ = λ o e.
    let w : Windowed = window_made plan pk kk rows in
    let ko = map (λ (k : KeyPlan). k.order) plan.keys in
    let alone : found ≡ kk = is ∙ ap (λ l. l ++ kk) (none_named pk (sym none ∙ p.named)) in
    let these : AllDiffer kk rows = subst (λ l. AllDiffer l rows) alone differ in
    let made : in_order w ≡ o = one_order (in_order w) o (ordered_rows rows plan) (window_ordered width plan pk kk p k rows) e in
    let cmp = both_cmp w.values w.value_order w.keys w.order in
    let total = then_total (on_total (key_at w.values) (keys_total w.value_order)) (on_total (key_at w.keys) (keys_total w.order)) in
    let long : length w.values ≡ length rows = length-map rows (row_keys pk) in
    let below : AllByRecursion (λ i. i < length rows) (numbers_in_order w.values w.value_order w.keys w.order) =
    all_sorted cmp total (λ i. i < length rows) (places (length w.values))
    (places_below 0 (length w.values) (length rows) (omega (arith, long))) in
    subst (λ (o : Ordered). TellApart (keys_cmp o.order) o.keys o.rows) made
    (apart_by_numbers ko kk rows k.directed these (numbers_in_order w.values w.value_order w.keys w.order) below)
  where
    one_order : (x y : Ordered) (r : Result Ordered AnswerFault) → r ≡ Ok x → r ≡ Ok y → x ≡ y
    one_order x y r h k = cc

-- what is presorted in the order of a window is so in that of another one that orders rows alike
pub presorted_for : (rows : List Row) (a b : WindowPlan) (p : Presorted) → ordered_rows rows a ≡ ordered_rows rows b
    → IsPresorted rows a p → IsPresorted rows b p
presorted_for rows a b p same is = record {
  numbers = sym (ap (λ r. r >>= λ (o : Ordered). Ok o.rows) same) ∙ is.numbers;
  differ = λ known o e. is.differ known o (same ∙ e);
}
