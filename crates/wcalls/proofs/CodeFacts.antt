-- Codes of rows tell them apart, in whatever order the rows stand.
use Rattle.std.proofs.Common.{◌≡◌, ℕ, ◌<◌, ◌==◌, List, [], length, map, get_or, None, Some, Option, Vec, Global, subst, sym, ap, ◌∙◌, arith}
use Rattle.std.specs.Prelude.{All, IfSome}
use Rattle.std.specs.Cmp.{unsigned_tied}
use Rattle.std.specs.List.{AllByRecursion}
use Rattle.std.specs.Ordering.{on, is_eq, nat_cmp}
use Rattle.std.proofs.lemmas.Cmp.{on_total}
use Rattle.std.proofs.lemmas.List.{get_or-map, length-map}
use Rattle.std.proofs.lemmas.List.Elements.{All-from_recursion, All-same}
use Rattle.wvalues.specs.declared.key.SortKey.{SortKey}
use Rattle.wvalues.specs.Meaning.{Meaning}
use Rattle.wvalues.specs.Order.{keys_cmp}
use Rattle.wvalues.specs.OrderLaws.{keys_total}
use Rattle.wframe.specs.Codes.{TellApart}
use Rattle.wframe.specs.Peers.{key_at}
use Rattle.wframe.specs.Places.{places}
use Rattle.wframe.specs.Sorting.{sorted}
use Rattle.wframe.proofs.SortFacts.{all_sorted, length_sorted}
use Rattle.wrows.specs.CodedRows.{AreRowCodes, code_at}
use Rattle.wrows.specs.Plain.{numbers_by}
use Rattle.wrows.proofs.KeyFacts.{sorted_by_row_codes}
use Rattle.wrows.proofs.RowFacts.{places_below, length-places}
use Rattle.wcalls.specs.RowOrders.{IsRowOrder}

module _ (keys : List SortKey) (lists : List (List Meaning)) (rows : List ℕ) where
  pub apart_by_codes : (codes : List ℕ) → AreRowCodes keys lists codes → All (λ i. i < length codes) rows
      → TellApart (keys_cmp keys) (map (key_at lists) rows) (map (code_at codes) rows)
  apart_by_codes codes answer below = record {
    len = length-map rows (code_at codes) ∙ sym (length-map rows (key_at lists));
    alike = λ i j hi hj.
        let li : i < length rows = omega (arith, hi, length-map rows (key_at lists)) in
        let lj : j < length rows = omega (arith, hj, length-map rows (key_at lists)) in
        let a = get_or rows i 0 in
        let b = get_or rows j 0 in
        ap (λ x. x == get_or (map (code_at codes) rows) j 0) (get_or-map (code_at codes) rows i 0 0 li)
        ∙ ap (λ y. code_at codes a == y) (get_or-map (code_at codes) rows j 0 0 lj)
        ∙ sym (unsigned_tied (code_at codes a) (code_at codes b))
        ∙ ap is_eq (answer.alike a b (omega (arith, below i 0 li, answer.len)) (omega (arith, below j 0 lj, answer.len)))
        ∙ ap (λ x. is_eq (keys_cmp keys x (key_at lists b))) (sym (get_or-map (key_at lists) rows i 0 [] li))
        ∙ ap (λ y. is_eq (keys_cmp keys (key_at (map (key_at lists) rows) i) y)) (sym (get_or-map (key_at lists) rows j 0 [] lj));
  }

  -- codes that may be lacking reach each row
  pub codes_reach : (n : ℕ) (codes : Option (Vec ℕ Global)) → length lists ≡ n
      → IfSome codes (λ c. AreRowCodes keys lists c.items) → All (λ i. i < n) rows → IfSome codes (λ c. All (λ i. i < length c.items) rows)
  codes_reach n None long answer below = tt
  codes_reach n (Some c) long answer below = λ k d h. omega (arith, below k d h, answer.len, long)

-- rows by two codes of each are rows by their partition values and then by their keys
module _ (vo ko : List SortKey) (V K : List (List Meaning)) (firsts seconds : List ℕ) (tv : AreRowCodes vo V firsts)
    (tk : AreRowCodes ko K seconds) (same : length firsts ≡ length seconds) where
  abbrev n : ℕ
  n = length seconds

  all_places : AllByRecursion (λ i. i < n) (places n)
  all_places = places_below 0 n n (omega arith)

  by_key : sorted (on (code_at seconds) nat_cmp) (places n) ≡ numbers_by ko K n
  by_key = sorted_by_row_codes ko K seconds (places n) tk
      (λ i d h. omega (arith, All-from_recursion (λ j. j < n) (places n) all_places i d h, tk.len))

  all_by_key : AllByRecursion (λ i. i < n) (numbers_by ko K n)
  all_by_key = all_sorted (on (key_at K) (keys_cmp ko)) (on_total (key_at K) (keys_total ko)) (λ i. i < n) (places n) all_places

  module _ (rows : List ℕ) (is : rows ≡ sorted (on (code_at firsts) nat_cmp) (sorted (on (code_at seconds) nat_cmp) (places n))) where
    stand : rows ≡ sorted (on (key_at V) (keys_cmp vo)) (numbers_by ko K n)
    stand =
        is
        ∙ ap (sorted (on (code_at firsts) nat_cmp)) by_key
        ∙ sorted_by_row_codes vo V firsts (numbers_by ko K n) tv
        (λ i d h. omega (arith, All-from_recursion (λ j. j < n) (numbers_by ko K n) all_by_key i d h, tv.len, same))

    below : All (λ i. i < n) rows
    below =
        All-same (λ i. i < n) rows (sorted (on (key_at V) (keys_cmp vo)) (numbers_by ko K n)) stand
        (All-from_recursion (λ i. i < n) (sorted (on (key_at V) (keys_cmp vo)) (numbers_by ko K n))
        (all_sorted (on (key_at V) (keys_cmp vo)) (on_total (key_at V) (keys_total vo)) (λ i. i < n) (numbers_by ko K n) all_by_key))

    long : length rows ≡ n
    long =
        ap length stand
        ∙ length_sorted (on (key_at V) (keys_cmp vo)) (on_total (key_at V) (keys_total vo)) (numbers_by ko K n)
        ∙ length_sorted (on (key_at K) (keys_cmp ko)) (on_total (key_at K) (keys_total ko)) (places n)
        ∙ length-places 0 n

  pub rows_by_codes : (rows fs ss : Vec ℕ Global)
      → rows.items ≡ sorted (on (code_at firsts) nat_cmp) (sorted (on (code_at seconds) nat_cmp) (places n))
      → fs.items ≡ map (code_at firsts) rows.items → ss.items ≡ map (code_at seconds) rows.items
      → IsRowOrder vo V ko K n (record { rows = rows; value_codes = Some fs; key_codes = Some ss })
  rows_by_codes rows fs ss is firsts_are seconds_are = record {
    order = stand rows.items is;
    below = below rows.items is;
    len = long rows.items is;
    value_codes = subst (TellApart (keys_cmp vo) (map (key_at V) rows.items)) (sym firsts_are)
        (apart_by_codes vo V rows.items firsts tv (λ i d h. omega (arith, below rows.items is i d h, same)));
    key_codes = subst (TellApart (keys_cmp ko) (map (key_at K) rows.items)) (sym seconds_are)
        (apart_by_codes ko K rows.items seconds tk (below rows.items is));
  }
