-- What a text spells has the shapes that the laws on types ask for.
use Rattle.std.specs.Prelude.{◌≡◌, ℕ, true, List, map}
use Rattle.wlexer.specs.Lexing.{Lexes}
use Rattle.wlexer.specs.Token.{PlacedToken}
use Rattle.wquery.specs.QueryTree.{QueryTree}
use Rattle.wparser.specs.Queries.{Spells}
use Rattle.wtyped.specs.Shapes.{is_shaped}

abbrev pub SpelledIsShaped : Type 0
SpelledIsShaped =
    (text : List ℕ) (tokens : List PlacedToken) (q : QueryTree)
    → Lexes text tokens → Spells q (map (λ (t : PlacedToken). t.meaning) tokens) → is_shaped q ≡ true
