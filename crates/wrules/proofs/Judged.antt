-- The least rule of a SELECT, of the rules on names and those on windows.
use Rattle.std.proofs.Common.{◌≡◌, ℕ, List, Option, Some, None, ap, sym, ◌∙◌}
use Rattle.wquery.specs.QueryTree.{Clauses, SourceTree}
use Rattle.wscope.specs.Types.{Titled}
use Rattle.wscope.specs.Windows.{NamedWindow}
use Rattle.wwindows.specs.Windows.{windows_of}
use Rattle.wrules.specs.declared.rule.Rule.{Rule}
use Rattle.wrules.specs.Rules.{or_else, first_of_names, first_of_windows, least_broken}

-- no rule on names is broken
pub none_first : (table alias : List ℕ) (cs : List Titled) (c : Clauses) (s : SourceTree) (ws : List NamedWindow)
    → None ≡ first_of_names table alias cs c s → ws ≡ windows_of c → first_of_windows ws cs c ≡ least_broken table alias cs c s
none_first table alias cs c s ws e w =
    ap (λ (x : List NamedWindow). first_of_windows x cs c) w ∙ ap (λ (o : Option Rule). or_else o (first_of_windows (windows_of c) cs c)) e

-- a rule on names is broken
pub some_first : (table alias : List ℕ) (cs : List Titled) (c : Clauses) (s : SourceTree) (r : Rule)
    → Some r ≡ first_of_names table alias cs c s → Some r ≡ least_broken table alias cs c s
some_first table alias cs c s r e = ap (λ (o : Option Rule). or_else o (first_of_windows (windows_of c) cs c)) e
