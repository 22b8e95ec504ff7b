-- What a set stands for.
use Rattle.std.specs.Prelude.{◌≡◌, IsOk, List}
use Rattle.wvalues.specs.declared.key.SortKey.{SortKey}
use Rattle.std.specs.List.{All}
use Rattle.wsegment.specs.Declaration.{Declaration}
use Rattle.wsegment.specs.Rows.{rows_of}
use Rattle.wset.specs.Views.{View, lives}

-- the declaration by which segments are read, what is known of each name, and the keys of the runs of each live segment
pub record DeclaredView : Type 0 where
  pub schema : Declaration
  pub view : View
  pub orders : List (List (List SortKey))

-- each live content is a segment by the declaration
abbrev pub LivesAreRead : DeclaredView → Type 0
LivesAreRead s = All (λ e. IsOk (rows_of s.schema e.1)) (lives s.view)

-- this view under the same declaration, whatever runs are kept
pub record Becomes (old : DeclaredView) (v : View) (new : DeclaredView) : Type 0 where
  pub schema : new.schema ≡ old.schema
  pub view : new.view ≡ v
