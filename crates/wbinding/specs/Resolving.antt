-- An expression over the columns of a source, as one over a row. (SQL, `<value expression>` and `<column reference>`.)
use Rattle.std.specs.Prelude.{ℕ, pos, zero, suc, List, ◌+◌, ◌==◌, Option, Some, None, length, if◌then◌else◌, nat_lt, ◌^◌, [], ◌∷◌, ◌++◌}
use Rattle.std.specs.Borrow.{Bor}
use Rattle.wquery.specs.Tree.{Tree, NullWord, Numeral, Quoted, Field, Invoked, Negated, Signed, Joined, Compared, NullTest}
use Rattle.wquery.specs.Tree.{Within, Among, Branch, Links, NoLinks, Further, Trees, NoTrees, MoreTrees}
use Rattle.wvalues.specs.Meaning.{Meaning, Null, Int, Text}
use Rattle.wscope.specs.Types.{Titled, place_named}
use Rattle.wscope.specs.Sources.{all_titled}
use Rattle.wplan.specs.Formula as row
use Rattle.wbinding.specs.declared.layout.RowCalls.{RowCalls}
use Rattle.wbinding.specs.declared.layout.RowLayout.{RowLayout}
use Rattle.wdistinct.specs.Places.{calls_in, place_of_same}

-- How a row is laid out: the source's columns; the places of those that the row has, where it is a group's row; and the
-- calls whose answers stand behind these cells
pub record Layout : Type 0 where
  pub columns : List Titled
  pub grouping : Option (List ℕ)
  pub calls : List Tree

-- a row of the source
abbrev pub source_row : List Titled → Layout
source_row columns = record { columns = columns; grouping = None; calls = [] }

-- the place of the first equal number, or the length
abbrev pub place_among : ℕ → List ℕ → ℕ
place_among p [] = zero
place_among p (q ∷ qs) = if q == p then zero else suc (place_among p qs)

-- the cell of a column of the source
abbrev pub cell_in : Option (List ℕ) → ℕ → ℕ
cell_in None place = place
cell_in (Some places) place = place_among place places

abbrev pub cell_of : Layout → ℕ → ℕ
cell_of l place = cell_in l.grouping place

abbrev pub width_in : List Titled → Option (List ℕ) → ℕ
width_in columns None = length columns
width_in columns (Some places) = length places

-- how many cells stand before the answers of calls
abbrev pub width : Layout → ℕ
width l = width_in l.columns l.grouping

-- numbers of queries are below 2^95
abbrev pub literal : ℕ → Meaning
literal n = if nat_lt n (2 ^ 95) then Int (pos n) else Null

abbrev mutual
  -- a name that no column has, and a call that is not among those of the row, are places behind the row
  pub resolved : Layout → Tree → row.Formula
  resolved l NullWord = row.Constant Null
  resolved l (Numeral n) = row.Constant (literal n)
  resolved l (Quoted text) = row.Constant (Text text)
  resolved l (Field qualifier name) = row.At (cell_of l (place_named l.columns name))
  resolved l (Invoked name given filter reach) = row.At (width l + place_of_same l.calls (Invoked name given filter reach))
  resolved l (Negated t) = row.Negation (resolved l t)
  resolved l (Signed minus t) = row.Signed minus (resolved l t)
  resolved l (Joined kind first links) = resolved_links l (resolved l first) links
  resolved l (Compared comparison t u) = row.Compared comparison (resolved l t) (resolved l u)
  resolved l (NullTest negated t) = row.NullTest negated (resolved l t)
  resolved l (Within negated t low high) = row.Within negated (resolved l t) (resolved l low) (resolved l high)
  resolved l (Among negated t list) = row.Among negated (resolved l t) (resolved_trees l list)

  -- a chain behind its first operand
  pub resolved_links : Layout → row.Formula → Links → row.Formula
  resolved_links l first NoLinks = first
  resolved_links l first (Further front operator t) = row.Applied operator (resolved_links l first front) (resolved l t)

  pub resolved_trees : Layout → Trees → row.Formulas
  resolved_trees l NoTrees = row.NoFormulas
  resolved_trees l (MoreTrees t ts) = row.MoreFormulas (resolved l t) (resolved_trees l ts)

-- an operand of a chain
abbrev pub branch_made : Layout → Branch → row.Operand
branch_made l b = record { operator = b.operator; operand = resolved l b.operand }

abbrev pub resolved_option : Layout → Option Tree → Option row.Formula
resolved_option l None = None
resolved_option l (Some t) = Some (resolved l t)

-- a layout in memory
abbrev pub places_of : Option (Bor (List ℕ)) → Option (List ℕ)
places_of None = None
places_of (Some places) = Some places.now

abbrev pub row_calls : RowCalls → List Tree
row_calls c = calls_in c.grouped ++ calls_in c.windowed

abbrev pub layout_of : RowLayout → Layout
layout_of l = record { columns = all_titled l.columns.now; grouping = places_of l.grouping; calls = row_calls l.calls.now }
