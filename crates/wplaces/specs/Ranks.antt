-- Numbers of rows, as counts over their partition: <row number function> and <rank function type>.
use Rattle.std.specs.Prelude.{◌≡◌, ℕ, ◌+◌, ◌<◌, ◌≤◌, true, false, nat_lt, length, filter}
use Rattle.wvalues.specs.Order.{keys_cmp}
use Rattle.wframe.specs.Places.{places}
use Rattle.wframe.specs.Partition.{Partition}
use Rattle.wframe.specs.Peers.{are_peers, smaller_keys, distinct}

-- one more than the number of rows before it
abbrev pub row_number_of : Partition → ℕ → ℕ
row_number_of p i = 1 + length (filter (λ j. nat_lt j i) (places (length p.keys)))

-- one more than the number of rows with smaller keys: peers have one rank, and leave a gap behind them
abbrev pub rank_of : Partition → ℕ → ℕ
rank_of p i = 1 + length (smaller_keys (keys_cmp p.order) p.keys i)

-- one more than the number of distinct smaller key lists: a rank without gaps
abbrev pub dense_rank_of : Partition → ℕ → ℕ
dense_rank_of p i = 1 + length (distinct (keys_cmp p.order) (smaller_keys (keys_cmp p.order) p.keys i))

-- the first of a row's peers
pub record IsFirstPeer (p : Partition) (i first : ℕ) : Type 0 where
  pub upto : first ≤ i
  pub peer : are_peers (keys_cmp p.order) p.keys first i ≡ true
  pub none_before : (j : ℕ) → j < first → are_peers (keys_cmp p.order) p.keys j i ≡ false
