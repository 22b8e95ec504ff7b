-- The operators of a chain in memory, from the first on.
use Rattle.std.proofs.Common.{◌≡◌, List, [], ◌∷◌, ◌++◌, flat_map, sym, ◌∙◌, append_assoc}
use Rattle.std.proofs.lemmas.List.{append-nil}
use Rattle.std.specs.Hash as fed
use Rattle.std.specs.Hash.{HashWrites}
use Rattle.wquery.specs.Tree.{Links, Further, Branch, linked}
use Rattle.wnodes.specs.Sameness.{operator_number}
use Rattle.wnodes.specs.Heads.{bare_links}
use Rattle.wnodes.specs.Hashed.{written_operators}

abbrev pub operator_of : Branch → HashWrites
operator_of b = fed.u8 (operator_number b.operator)

pub operators : (front : Links) (bs : List Branch)
    → written_operators (bare_links (linked front bs)) ≡ written_operators (bare_links front) ++ flat_map operator_of bs
operators front [] = sym (append-nil (written_operators (bare_links front)))
operators front (b ∷ bs) = operators (Further front b.operator b.operand) bs
    ∙ append_assoc (written_operators (bare_links front)) (operator_of b) (flat_map operator_of bs)
