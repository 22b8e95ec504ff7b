-- The columns of a source: those of the declared table, or those of a derived table's answer. (SQL, `<table reference>`
-- and `<query specification>`, the column names and types of its result.)
use Rattle.std.specs.Prelude.{ℕ, suc, List, [], ◌∷◌, ◌++◌, map, unwrap_or}
use Rattle.std.specs.Rc.{rc_str_bytes}
use Rattle.wsegment.specs.Declaration.{Declaration, Described}
use Rattle.wsegment.specs.declared.kind.Kind.{Kind}
use Rattle.wsegment.specs.declared.kind.Kind.TheVariants as kinds
use Rattle.wquery.specs.Tree.{Tree}
use Rattle.wquery.specs.QueryTree.{ItemTree, AllColumns, Computed, QueryTree, Selected, SourceTree, FromTable, FromQuery}
use Rattle.wscope.specs.declared.data_type.DataType.{DataType}
use Rattle.wscope.specs.declared.data_type.DataType.TheVariants.{Integer, Text, Truth, Null}
use Rattle.wscope.specs.declared.source.SourceColumn.{SourceColumn}
use Rattle.wscope.specs.Scope.{output_name}
use Rattle.wscope.specs.Types.{Titled, Origin, type_of}

-- a column in memory
abbrev pub titled : SourceColumn → Titled
titled c = record { name = rc_str_bytes c.name; type = c.data_type }

abbrev pub all_titled : List SourceColumn → List Titled
all_titled cs = map titled cs

-- what a declared column holds
abbrev pub kind_type : Kind → DataType
kind_type kinds.Integer = Integer
kind_type kinds.Text = Text

abbrev pub declared_column : Described → Titled
declared_column d = record { name = d.name; type = kind_type d.kind }

-- the columns of the declared table
abbrev pub declared_columns : List Described → List Titled
declared_columns ds = map declared_column ds

-- an item: a column that `*` brings in, by its place among the source's columns, or an expression
pub data Shown : Type 0 where
  Placed : ℕ → Shown
  Spelled : Tree → Shown

-- an item of the SELECT list with `*` written out
pub record ShownItem : Type 0 where
  pub name : List ℕ
  pub type : DataType
  pub shown : Shown

-- columns from a place on
abbrev pub columns_from : ℕ → List Titled → List ShownItem
columns_from place [] = []
columns_from place (c ∷ cs) = record { name = c.name; type = c.type; shown = Placed place } ∷ columns_from (suc place) cs

-- the SELECT list over some columns, `*` written out
abbrev pub written_out : List Titled → List ItemTree → List ShownItem
written_out cs [] = []
written_out cs (AllColumns ∷ items) = columns_from 0 cs ++ written_out cs items
written_out cs (Computed t alias ∷ items) = record {
  name = output_name t alias;
  type = type_of cs t;
  shown =
      Spelled t;
} ∷ written_out cs items

-- a derived column of type null is a text
abbrev pub known : DataType → DataType
known Null = Text
known Integer = Integer
known Text = Text
known Truth = Truth

-- a column that `*` brings into a derived table
abbrev pub derived_column : Titled → Titled
derived_column c = record { name = c.name; type = known c.type }

-- the column that an item gives
abbrev pub answered_column : ShownItem → Titled
answered_column i = record { name = i.name; type = known i.type }

-- the columns of a query's answer
abbrev pub answered : List Titled → List ItemTree → List Titled
answered cs items = map answered_column (written_out cs items)

abbrev mutual
  -- the columns of a source, and its alias, which is the table's own name where none is given
  pub origin_of : Declaration → SourceTree → Origin
  origin_of d (FromTable name alias) = record { alias = unwrap_or alias name; columns = declared_columns d.columns }
  origin_of d (FromQuery q alias) = record { alias = alias; columns = answer_columns d q }

  -- the columns of a whole query's answer
  pub answer_columns : Declaration → QueryTree → List Titled
  answer_columns d (Selected c s) = answered (origin_of d s).columns c.items
