-- Rows that agree on the columns of a set.
use Rattle.std.proofs.Common.{◌≡◌, ℕ, List, length, refl, sym, ap, ◌∙◌}
use Rattle.std.specs.Bool.{Decides, one_answer}
use Rattle.std.specs.Cmp.{IsEquivalence}
use Rattle.std.specs.Ordering.{is_eq}
use Rattle.std.proofs.lemmas.List.{length-map}
use Rattle.wframe.specs.Peers.{key_at}
use Rattle.wrows.specs.Columns.{Row}
use Rattle.wrows.specs.Sorting.{ascending}
use Rattle.wgroup.specs.Grouping.{SetColumns, agree, group_cmp, group_key, set_value}
use Rattle.wgroup.proofs.KeyFacts.{keys_decide, length_ascending}

module _ (columns : SetColumns) (rows : List Row) where
  key_wide : (i : ℕ) → length (group_key columns rows i) ≡ length (ascending columns)
  key_wide i = length-map columns (set_value (key_at rows i)) ∙ sym (length_ascending columns)

  pub agree_decides : (i j : ℕ) → Decides (agree columns rows i j) (group_key columns rows i ≡ group_key columns rows j)
  agree_decides i j = keys_decide (ascending columns) (group_key columns rows i) (group_key columns rows j) (key_wide i) (key_wide j)

  pub agree_equiv : IsEquivalence (agree columns rows)
  agree_equiv = record {
    refl = λ i. (agree_decides i i).1 refl;
    symm = λ i j. one_answer (agree columns rows i j) (agree columns rows j i) (agree_decides i j)
        (λ e. sym ((agree_decides j i).0 e), λ e. (agree_decides j i).1 (sym e));
    congr = λ i j k e. ap (λ key. is_eq (group_cmp columns key (group_key columns rows k))) ((agree_decides i j).0 e);
  }
