-- The SELECTs of a query, and what is told first of them.
use Rattle.std.specs.Prelude.{◌≡◌, ◌<◌, ◌≤◌, ℕ, List, [], ◌∷◌, ◌++◌, length, map, Option, Some, None}
use Rattle.std.specs.Prelude.{slice_get, string_bytes}
use Rattle.std.specs.Borrow.{Bor}
use Rattle.std.specs.declared.alloc.Global.{Global}
use Rattle.std.specs.declared.vec.Vec.{Vec}
use Rattle.wquery.specs.declared.query.Query.{Query}
use Rattle.wquery.specs.declared.query.Source.{Source, Table, Derived'}
use Rattle.wquery.specs.QueryTree.{QueryTree, view_item, view_query}
use Rattle.wlexer.specs.declared.token.Token.{Token}
use Rattle.wlexer.specs.Token.{meaning_of}
use Rattle.wparser.specs.Queries.{Spells}
use Rattle.wsegment.specs.Declaration.{Declaration}
use Rattle.wclauses.specs.Clauses.{standings_of}
use Rattle.wclauses.specs.Pairs.{pairs_of}
use Rattle.wshown.specs.Shown.{PointsAt}
use Rattle.wrules.specs.declared.rule.Rule.{Rule}
use Rattle.wscope.specs.Sources.{all_titled, answered, declared_columns}
use Rattle.wscope.specs.Types.{Titled}
use Rattle.wscope.specs.declared.source.SourceColumn.{SourceColumn}
use Rattle.wspots.specs.declared.names.Spot.{Spot}
use Rattle.wspots.specs.declared.scene.Written.{Written}
use Rattle.wspots.specs.Breaches.{IsSpot}
use Rattle.wspots.specs.Items.{count_behind}
use Rattle.wspots.specs.Made.{IsTold}

-- the SELECTs of a source, the innermost first: those of a derived table, and none of the declared table
abbrev pub selects_in : Source → List Query
selects_in (Table name alias) = []
selects_in (Derived' place items source condition grouping having windows order limit offset alias) = selects_in source ++ record {
  items = items;
  source = source;
  condition = condition;
  grouping = grouping;
  having = having;
  windows = windows;
  order = order;
  limit = limit;
  offset = offset;
} ∷ []

-- the SELECTs of a query, the innermost first
abbrev pub selects_of : Query → List Query
selects_of query = selects_in query.source ++ query ∷ []

abbrev pub queries_in : Vec (Bor Query) Global → List Query
queries_in selects = map (λ select. select.now) selects.items

-- what is told of a SELECT of a level over these columns, wherever they lie in memory
abbrev pub IsToldOver : Written → Rule → List Titled → Query → ℕ → Option Spot → Type 0
IsToldOver written rule titled select level told = (columns : List SourceColumn) × (all_titled columns ≡ titled)
    × IsTold written columns select level rule told

-- how many items a SELECT has over these columns, `*` written out
abbrev pub item_number : List Titled → Query → ℕ
item_number titled select = count_behind (length titled) 0 select.items.items

-- what is told first of some SELECTs, each of which stands in the next one, the first over these columns and each other over the
-- columns of the answer of the one before
pub data IsToldFrom (written : Written) (rule : Rule) : List Titled → List Query → Option Spot → Type 0 where
  -- nothing is told of none
  nothing : (titled : List Titled) → IsToldFrom written rule titled [] None
  -- what is told of the first, if anything is
  first : (titled : List Titled) (select : Query) (around : List Query) (spot : Spot)
      → IsToldOver written rule titled select (length around) (Some spot) → IsToldFrom written rule titled (select ∷ around) (Some spot)
  -- nothing, where nothing is told of the first and it has too many items
  too_many : (titled : List Titled) (select : Query) (around : List Query)
      → IsToldOver written rule titled select (length around) None → 64 < item_number titled select
      → IsToldFrom written rule titled (select ∷ around) None
  -- what is told of the others, where nothing is told of the first
  behind : (titled : List Titled) (select : Query) (around : List Query) (found : Option Spot)
      → IsToldOver written rule titled select (length around) None → item_number titled select ≤ 64
      → IsToldFrom written rule (answered titled (map view_item select.items.items)) around found
      → IsToldFrom written rule titled (select ∷ around) found

-- a query in its text: where its tokens stand, and its parentheses, are those of the tokens. Which marks it has is tested
pub record IsWrittenOf (declared : Declaration) (text : List Token) (written : Written) : Type 0 where
  pub of_schema : written.schema.now ≡ declared
  pub of_tokens : written.tokens.now ≡ text
  pub pairs : written.clauses.now.pairs.pairs.items ≡ pairs_of text
  pub standings : written.clauses.now.standings.items ≡ standings_of text

-- what is told first of the SELECTs of a query, the innermost over the columns of the declared table
abbrev pub IsToldIn : Declaration → List Token → Query → Rule → Option Spot → Type 0
IsToldIn declared tokens query rule found = (written : Written) × IsWrittenOf declared tokens written
    × IsToldFrom written rule (declared_columns declared.columns) (selects_of query) found

-- the line of a token is added, with what is told of it
abbrev pub PointsAtToken : List ℕ → Option Token → List ℕ → List ℕ → List ℕ → Type 0
PointsAtToken query None note old new = new ≡ old
PointsAtToken query (Some token) note old new = PointsAt query token.from note old new

-- so is that of what was found, or nothing
abbrev pub PointsAtSpot : List ℕ → List Token → Option Spot → List ℕ → List ℕ → Type 0
PointsAtSpot query tokens None old new = new ≡ old
PointsAtSpot query tokens (Some spot) old new = PointsAtToken query (slice_get tokens spot.token) (string_bytes spot.note) old new

-- so is what is told first of the query that some tokens spell, and nothing where they spell none
pub data TellsBreach (declared : Declaration) (query : List ℕ) (tokens : List Token) (rule : Rule) (old new : List ℕ) : Type 0 where
  unread : ((tree : QueryTree) → Spells tree (map meaning_of tokens) → ⊥) → new ≡ old → TellsBreach declared query tokens rule old new
  told : (parsed : Query) (found : Option Spot) → Spells (view_query parsed) (map meaning_of tokens)
      → IsToldIn declared tokens parsed rule found → IsSpot tokens found → PointsAtSpot query tokens found old new
      → TellsBreach declared query tokens rule old new
