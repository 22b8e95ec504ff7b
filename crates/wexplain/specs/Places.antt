-- How names and places in files are told.
use Rattle.std.specs.Prelude.{◌==◌, ◌++◌, ℕ, List, ◌∷◌, codes}
use Rattle.std.specs.Fmt.{decimal}
use Rattle.std.specs.List.{before_first}
use Rattle.wvalues.specs.Names.{NameParts}
use Rattle.wshown.specs.Shown.{shown_bytes, shown_value}

-- the words of a name
abbrev pub name_text : NameParts → List ℕ
name_text name = shown_bytes name.origin ++ (32 ∷ decimal name.number)

-- the offset of the rest of some bytes, and the first line of it, which stands there
abbrev pub offset_text : ℕ → List ℕ → List ℕ
offset_text before rest = codes "at byte " ++ (decimal before ++ (codes " stands " ++ shown_value (before_first (λ b. b == 10) rest)))
