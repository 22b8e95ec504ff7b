use Rattle.std.proofs.Common.{◌≡◌, ℕ, Bool, true, not, length, subst, sym, ap, refl}
use Rattle.std.specs.Ordering.{is_eq, is_lt}
use Rattle.std.specs.declared.cmp.Ordering.{Ordering}
use Rattle.std.specs.declared.cmp.Ordering.TheVariants.{Less, Equal, Greater}
use Rattle.wvalues.specs.Order.{keys_cmp}
use Rattle.wvalues.specs.OrderLaws.{keys_total}
use Rattle.wframe.specs.Cuts.{IsCut}
use Rattle.wframe.specs.KeyRows.{key_lists, sort_keys, AreInOrder}
use Rattle.wframe.specs.Peers.{are_peers, is_upto, key_at}
use Rattle.wframe.specs.declared.key_rows.KeyRows.{KeyRows}
use Rattle.wframe.proofs.CutFacts.{end_cut}
use Rattle.wtests_windows.proofs.frames.the_end_of_a_frame_moves_along.Goals as goal

abbrev upto : KeyRows → ℕ → ℕ → Bool
upto rows = is_upto (keys_cmp (sort_keys rows)) (key_lists rows)

ordered_cut : (rows : KeyRows) → AreInOrder rows → IsCut (length (key_lists rows)) (upto rows)
ordered_cut rows ordered = end_cut (keys_total (sort_keys rows)) (length (key_lists rows)) (key_at (key_lists rows))
    (key_at (key_lists rows)) ordered ordered

equal : (o : Ordering) → is_eq o ≡ true → o ≡ Equal
equal Less h = cc
equal Equal h = refl
equal Greater h = cc

peers_alike : (rows : KeyRows) (i k j : ℕ) → are_peers (keys_cmp (sort_keys rows)) (key_lists rows) i k ≡ true
    → upto rows i j ≡ upto rows k j
peers_alike rows i k j h =
    let key = key_at (key_lists rows) in
    ap (λ o. not (is_lt o)) ((keys_total (sort_keys rows)).congr (key i) (key k) (key j)
    (equal (keys_cmp (sort_keys rows) (key i) (key k)) h))

pub push_group_cuts-requires-clause-cut : goal.push_group_cuts-requires-clause-cut
push_group_cuts-requires-clause-cut g c =
    subst (λ rows. IsCut (length (key_lists rows)) (upto c.new-keys.result)) (sym c.new-peers.ensures.rows)
    (ordered_cut c.new-keys.result (subst AreInOrder c.new-peers.ensures.rows c.new-peers.result.ordered))

pub push_group_cuts-requires-clause-alike : goal.push_group_cuts-requires-clause-alike
push_group_cuts-requires-clause-alike g c i k j h =
    peers_alike c.new-keys.result i k j (subst (λ rows. are_peers (keys_cmp (sort_keys rows)) (key_lists rows) i k ≡ true)
    c.new-peers.ensures.rows h)
