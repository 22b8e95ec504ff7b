-- Rows in the order of a window: what is sorted so, what stands in order, and what is arranged.
use Rattle.std.proofs.Common.{◌≡◌, ◌<◌, ℕ, List, length, map, refl, sym, ap, ◌∙◌, arith}
use Rattle.std.specs.List.{All}
use Rattle.std.specs.Ordering.{on}
use Rattle.std.proofs.lemmas.Cmp.{on_total}
use Rattle.std.proofs.lemmas.List.Elements.{All-from_recursion, All-same}
use Rattle.wvalues.specs.declared.key.SortKey.{SortKey}
use Rattle.wvalues.specs.Meaning.{Meaning}
use Rattle.wvalues.specs.Order.{keys_cmp}
use Rattle.wvalues.specs.OrderLaws.{keys_total}
use Rattle.wframe.specs.declared.frame.Frame.{Frame}
use Rattle.wframe.specs.declared.frame.FrameMode.TheVariants.{Rows}
use Rattle.wframe.specs.declared.frame.FrameBound.TheVariants.{CurrentRow}
use Rattle.wframe.specs.declared.frame.FrameExclusion.TheVariants.{NoOthers}
use Rattle.wframe.specs.declared.key_rows.KeyRows.{KeyRows}
use Rattle.wframe.specs.KeyRows.{key_lists, sort_keys}
use Rattle.wframe.specs.Partition.{Partitioned}
use Rattle.wframe.specs.Partitions.{IsPartition}
use Rattle.wframe.specs.Peers.{key_at, AreOrdered, AreOrderedWithin}
use Rattle.wframe.specs.Places.{places, Tiles}
use Rattle.wframe.specs.Sorting.{sorted}
use Rattle.wrows.specs.Plain.{numbers_by}
use Rattle.wrows.proofs.ChainFacts.{sorted_chain}
use Rattle.wcalls.specs.Windows.{Windowed}
use Rattle.wcalls.specs.Arranged.{IsArranged}
use Rattle.wcalls.specs.Ordered.{Ordered, both_cmp, in_order, numbers_in_order, ordered_by}
use Rattle.wframe.proofs.SortFacts.{all_sorted, length_sorted}
use Rattle.wrows.proofs.RowFacts.{places_below, length-places}
use Rattle.wcalls.proofs.ArrangedFacts.{arranged_as}
use Rattle.wcalls.proofs.WindowFacts.{whole_total}
use Rattle.wcalls.proofs.PlaceFacts.{keys_ordered, same_ordered, same_within, values_ordered}

-- what the frame is does not matter to the order
some_frame : Frame
some_frame = record { mode = Rows; start = CurrentRow; end = CurrentRow; exclusion = NoOthers }

abbrev window_of : List (List Meaning) → List SortKey → List (List Meaning) → List SortKey → Windowed
window_of V vo K ko = record { values = V; value_order = vo; keys = K; order = ko; frame = some_frame }

module _ (V : List (List Meaning)) (vo : List SortKey) (K : List (List Meaning)) (ko : List SortKey) (rows : List ℕ) where
  -- rows that are sorted by keys, and then by partition values
  pub by_both : (n : ℕ) (by_key : List ℕ) → n ≡ length V → by_key ≡ numbers_by ko K n
      → rows ≡ sorted (on (key_at V) (keys_cmp vo)) by_key → rows ≡ numbers_in_order V vo K ko
  by_both n by_key count first second =
      second ∙ ap (sorted (on (key_at V) (keys_cmp vo))) first
      ∙ sorted_chain (on (key_at V) (keys_cmp vo)) (on (key_at K) (keys_cmp ko)) (on_total (key_at V) (keys_total vo))
      (on_total (key_at K) (keys_total ko)) (places n)
      ∙ ap (λ m. sorted (both_cmp V vo K ko) (places m)) count

  module _ (is_sorted : rows ≡ numbers_in_order V vo K ko) (SV SK : List (List Meaning)) (values_are : SV
      ≡ map (key_at V) rows) (keys_are : SK ≡ map (key_at K) rows) where
    pub ordered_as : (o : Ordered) → o ≡ record { rows = rows; values = SV; value_order = vo; keys = SK; order = ko }
        → o ≡ ordered_by V vo K ko
    ordered_as o e =
        e ∙ ap (λ x. record { rows = rows; values = x; value_order = vo; keys = SK; order = ko }) values_are
        ∙ ap (λ x. record { rows = rows; values = map (key_at V) rows; value_order = vo; keys = x; order = ko }) keys_are
        ∙ ap (λ r. record { rows = r; values = map (key_at V) r; value_order = vo; keys = map (key_at K) r; order = ko }) is_sorted

    pub values_stand : AreOrdered (keys_cmp vo) SV
    values_stand = same_ordered vo vo (map (key_at V) rows) SV refl values_are (values_ordered (window_of V vo K ko) rows is_sorted)

    pub keys_stand : AreOrderedWithin (keys_cmp vo) SV (keys_cmp ko) SK
    keys_stand = same_within vo vo (map (key_at V) rows) SV ko ko (map (key_at K) rows) SK refl values_are refl keys_are
        (keys_ordered (window_of V vo K ko) rows is_sorted)

-- rows in the order of a window, with partitions that were built of them
pub arranged_in : (w : Windowed) (o : Ordered) (all : Partitioned) (values keys : KeyRows) (frame : Frame) → o ≡ in_order w
    → frame ≡ w.frame
    → key_lists values ≡ o.values → sort_keys values ≡ o.value_order → key_lists keys ≡ o.keys → sort_keys keys ≡ o.order
    → all.order ≡ sort_keys keys → all.keys ≡ key_lists keys → all.frame ≡ frame → Tiles 0 all.spans (length all.keys)
    → All (IsPartition (keys_cmp (sort_keys values)) (key_lists values)) all.spans → IsArranged w o.rows all
arranged_in w o all values keys frame e same values_listed values_by keys_listed keys_by order listed framed tiles each =
    let rows_are : o.rows ≡ numbers_in_order w.values w.value_order w.keys w.order = ap (λ (x : Ordered). x.rows) e in
    arranged_as w o.rows o.rows all values keys refl rows_are
    (values_listed ∙ ap (λ (x : Ordered). x.values) e ∙ ap (map (key_at w.values)) (sym rows_are)) (values_by
    ∙ ap (λ (x : Ordered). x.value_order) e)
    (keys_listed ∙ ap (λ (x : Ordered). x.keys) e ∙ ap (map (key_at w.keys)) (sym rows_are)) (keys_by ∙ ap (λ (x : Ordered). x.order) e)
    order listed (framed ∙ same) tiles each

-- each number in the order is that of a row, and there are as many
pub numbers_below : (V : List (List Meaning)) (vo : List SortKey) (K : List (List Meaning)) (ko : List SortKey) (n : ℕ)
    (rows : List ℕ) → length V ≡ n → rows ≡ numbers_in_order V vo K ko → All (λ i. i < n) rows
numbers_below V vo K ko n rows long is =
    let cmp = both_cmp V vo K ko in
    All-same (λ i. i < n) rows (sorted cmp (places (length V))) is
    (All-from_recursion (λ i. i < n) (sorted cmp (places (length V))) (all_sorted cmp (whole_total (window_of V vo K ko))
    (λ i. i < n) (places (length V)) (places_below 0 (length V) n (omega (arith, long)))))

pub numbers_long : (V : List (List Meaning)) (vo : List SortKey) (K : List (List Meaning)) (ko : List SortKey) (n : ℕ)
    (rows : List ℕ) → length V ≡ n → rows ≡ numbers_in_order V vo K ko → length rows ≡ n
numbers_long V vo K ko n rows long is = ap length is ∙ length_sorted (both_cmp V vo K ko)
    (whole_total (window_of V vo K ko)) (places (length V)) ∙ length-places 0 (length V) ∙ long
