-- What a counted reader or writer is: the device inside it, and its two counts.
use Rattle.std.specs.Prelude.{ℕ}

pub record Counts (T : Type 0) : Type 0 where
  pub inner : T
  pub reads : ℕ
  pub failures : ℕ
