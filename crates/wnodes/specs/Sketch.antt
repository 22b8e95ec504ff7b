-- A number that equal expressions share, and that others hardly ever do: the hash of what the nodes of an expression say
-- beside the nodes below them, one node after another.
use Rattle.std.specs.Prelude.{ℕ}
use Rattle.std.specs.List.{fold}
use Rattle.std.specs.Hash.{HashWrites}
use Rattle.std.specs.Hash.DefaultHasher as hasher
use Rattle.std.specs.declared.hash.DefaultHasher.{DefaultHasher}
use Rattle.wquery.specs.Tree.{Tree}
use Rattle.wnodes.specs.Nodes.{Findings, found}
use Rattle.wnodes.specs.Heads.{bare}
use Rattle.wnodes.specs.Hashed.{written}

-- a hasher that this is written to
abbrev pub behind : HashWrites → DefaultHasher → DefaultHasher
behind writes s = fold hasher.write s writes

-- a node before those below it
abbrev pub sketching : Findings (DefaultHasher → DefaultHasher)
sketching = record { none = λ s. s; both = λ f g s. g (f s); at = λ t below s. below (behind (written (bare t)) s) }

abbrev pub sketch_of : Tree → ℕ
sketch_of t = hasher.finish (found sketching t hasher.initial)
