-- Words of a header line.
use Rattle.std.specs.Prelude.{◌≢◌, ℕ, ◌<◌, List, length}
use Rattle.std.specs.List.{AllByRecursion}

-- no byte is this one
abbrev pub Lacks : ℕ → List ℕ → Type 0
Lacks c bytes = AllByRecursion (λ x. x ≢ c) bytes

-- one byte or more, none of them a space, CR or LF
pub record IsWord (word : List ℕ) : Type 0 where
  pub filled : 0 < length word
  pub no_space : Lacks 32 word
  pub no_cr : Lacks 13 word
  pub no_lf : Lacks 10 word
