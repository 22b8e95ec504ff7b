-- A SELECT, as it is made of the text.
use Rattle.std.specs.Prelude.{◌≡◌, ℕ, suc, Bool, false, ◌&&◌, ◌==◌, List, [], ◌∷◌, Option, Some, None}
use Rattle.std.specs.Prelude.{option_map, slice_get, unwrap_or, if◌then◌else◌}
use denote.Enum.Bare.{sameb}
use Rattle.std.specs.Borrow.{Bor}
use Rattle.std.specs.BTreeMap.{BTreeMap}
use Rattle.std.specs.BTreeSet.{BTreeSet}
use Rattle.std.specs.List.{list_any}
use Rattle.std.specs.Str.{bytes_eq}
use Rattle.wquery.specs.declared.query.Query.{Query}
use Rattle.wrules.specs.declared.rule.Rule.{Rule}
use Rattle.wscope.specs.declared.source.SourceColumn.{SourceColumn}
use Rattle.wgrammar.specs.contracts.grammar.Role.{the_type as roles}
use Rattle.wgrammar.specs.declared.following.Mark.{Mark}
use Rattle.wgrammar.specs.declared.grammar.Role.TheVariants.{Entry, Identifier}
use Rattle.wclauses.specs.declared.clauses.Clause.TheVariants.{Grouping}
use Rattle.wclauses.specs.contracts.clauses.Clause.{the_type as clauses}
use Rattle.wclauses.specs.Clauses.{stands_in}
use Rattle.wclauses.specs.Tokens.{name_at}
use Rattle.wlexer.specs.declared.token.Token.{Token}
use Rattle.wspots.specs.declared.names.Spot.{Spot}
use Rattle.wspots.specs.declared.scene.Scene.{Scene}
use Rattle.wspots.specs.declared.scene.Written.{Written}
use Rattle.wspots.specs.Items.{HasItems, of_name}
use Rattle.wspots.specs.Names.{first_told, groups_by, holds, told_at}
use Rattle.wspots.specs.Scene.{ColumnName, column_at, first_ungrouped, is_grouped}

-- a text is this one, if there is one
abbrev pub is_text : List ℕ → Option (List ℕ) → Bool
is_text text None = false
is_text text (Some name) = bytes_eq name text

-- the name of the WINDOW entry of a level at a mark, without bytes where none is told
abbrev pub entry_name : List Token → ℕ → Mark → Option (List ℕ)
entry_name tokens level mark =
    if mark.level == level && sameb roles mark.role Entry then Some (unwrap_or (name_at tokens mark.token) []) else None

-- the number of the first WINDOW entry of a name, where these marks stand from a number on
abbrev pub entry_from : List Token → ℕ → List ℕ → ℕ → List Mark → Option ℕ
entry_from tokens level name number [] = None
entry_from tokens level name number (mark ∷ marks) =
    if is_text name (entry_name tokens level mark) then Some number else entry_from tokens level name (suc number) marks

-- a map has the first entry of each name
abbrev pub HasEntries : List Token → ℕ → List Mark → BTreeMap (Bor (List ℕ)) ℕ → Type 0
HasEntries tokens level marks entries = (name : Bor (List ℕ)) → of_name entries name.now ≡ entry_from tokens level name.now 0 marks

-- a column of a level, or a function, stands at a mark in GROUP BY
abbrev pub stands_grouped : Written → ℕ → Mark → Bool
stands_grouped written level mark = mark.level == level && (sameb roles mark.role Identifier
    && stands_in (λ other. sameb clauses other Grouping) (slice_get written.clauses.now.standings.items mark.token))

-- the name of the column that stands so, if it is one
abbrev pub grouped_name : Written → ℕ → Mark → Option (List ℕ)
grouped_name written level mark =
    if stands_grouped written level mark
    then option_map (λ (named : ColumnName). named.name) (column_at written.tokens.now mark.token) else None

-- a set has the names of these columns, and no others
abbrev pub HasNames : Written → ℕ → BTreeSet (Bor (List ℕ)) → Type 0
HasNames written level names = (name : Bor (List ℕ))
    → holds names name.now ≡ list_any (λ mark. is_text name.now (grouped_name written level mark)) written.marks.now

-- the SELECT of a level of a text, over these columns
pub record IsSceneOf (written : Written) (columns : List SourceColumn) (query : Query) (level : ℕ) (scene : Scene) : Type 0 where
  pub of_text : scene.written ≡ written
  pub over : scene.columns.now ≡ columns
  pub of_query : scene.query.now ≡ query
  pub at_level : scene.level ≡ level
  pub grouping : scene.is_grouped ≡ is_grouped written query level
  pub ungrouped : scene.ungrouped ≡ (if scene.is_grouped then first_ungrouped (groups_by scene) 0 columns else None)
  pub entries : HasEntries written.tokens.now level written.marks.now scene.entries
  pub names : HasNames written level scene.grouped
  pub items : HasItems columns query.items.items scene.outputs

-- what is told first of such a SELECT that breaks a rule
abbrev pub IsTold : Written → List SourceColumn → Query → ℕ → Rule → Option Spot → Type 0
IsTold written columns query level rule found = (scene : Scene) × IsSceneOf written columns query level scene
    × (option_map told_at found ≡ first_told scene rule)
