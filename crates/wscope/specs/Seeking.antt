-- Looking for some of the nodes of an expression: a test says of each node whether it is found, whether to look below it, or
-- whether it is closed to the look.
use Rattle.std.specs.Prelude.{Bool, true, false, ◌||◌}
use Rattle.wquery.specs.Tree.{Tree, Trees, Links, Given, Filter, Reach, Keys}
use Rattle.wnodes.specs.Nodes.{Findings, found, found_below, found_trees, found_links, found_given, found_filter, found_reach, found_keys}
use Rattle.wscope.specs.declared.look.Look.{Look}
use Rattle.wscope.specs.declared.look.Look.TheVariants.{Found, Closed, Below}

-- found here, or else below
abbrev pub found_or : Look → Bool → Bool
found_or Found below = true
found_or Closed below = false
found_or Below below = below

-- whether a node is found
abbrev pub seeking : (Tree → Look) → Findings Bool
seeking sees = record { none = false; both = λ a b. a || b; at = λ t below. found_or (sees t) below }

-- some node of the expression is found
abbrev pub some_node : (Tree → Look) → Tree → Bool
some_node sees t = found (seeking sees) t

-- some node below this one
abbrev pub some_below : (Tree → Look) → Tree → Bool
some_below sees t = found_below (seeking sees) t

abbrev pub some_tree : (Tree → Look) → Trees → Bool
some_tree sees ts = found_trees (seeking sees) ts

abbrev pub some_link : (Tree → Look) → Links → Bool
some_link sees links = found_links (seeking sees) links

abbrev pub some_given : (Tree → Look) → Given → Bool
some_given sees given = found_given (seeking sees) given

abbrev pub some_filter : (Tree → Look) → Filter → Bool
some_filter sees filter = found_filter (seeking sees) filter

abbrev pub some_reach : (Tree → Look) → Reach → Bool
some_reach sees reach = found_reach (seeking sees) reach

abbrev pub some_key : (Tree → Look) → Keys → Bool
some_key sees keys = found_keys (seeking sees) keys
