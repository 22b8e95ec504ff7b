-- What a fold is: a set of parts, and a join on it.
use Rattle.std.specs.Prelude.{◌≡◌, ℕ, List, map, fold}

-- On the set, join is associative and the neutral part is neutral on both sides. The set is closed.
pub record FoldLaws {P : Type 0} (is_part : P → Type 0) (neutral : P) (joined : P → P → P) : Type 0 where
  pub neutral_is : is_part neutral
  pub closed : (x y : P) → is_part x → is_part y → is_part (joined x y)
  pub left_neutral : (x : P) → is_part x → joined neutral x ≡ x
  pub right_neutral : (x : P) → is_part x → joined x neutral ≡ x
  pub assoc : (x y z : P) → is_part x → is_part y → is_part z → joined (joined x y) z ≡ joined x (joined y z)

-- a part joined with each of some others, from left to right
abbrev pub total : {P : Type 0} → P → (P → P → P) → List P → P
total start joined xs = fold joined start xs

-- the fold of some rows: the neutral part joined with the part of each, from left to right
abbrev pub rows_fold : {P : Type 0} → P → (P → P → P) → (ℕ → P) → List ℕ → P
rows_fold neutral joined part_at rows = total neutral joined (map part_at rows)
