-- The items of a SELECT by their names.
use Rattle.std.specs.Prelude.{◌≡◌, ℕ, suc, ◌+◌, ◌-◌, ◌^◌, min, Bool, true, false, not, ◌==◌, ◌||◌, List, [], ◌∷◌, ◌++◌, length}
use Rattle.std.specs.Prelude.{Option, Some, None, is_some, map, option_map, if◌then◌else◌}
use Rattle.std.specs.List.{filter, find}
use Rattle.std.specs.Borrow.{Bor}
use Rattle.std.specs.BTreeMap.{BTreeMap, get_by}
use Rattle.std.specs.Cmp.Lexicographic.{slice_cmp}
use Rattle.std.specs.Ordering.{nat_cmp}
use Rattle.std.specs.Rc.{rc_str_bytes}
use Rattle.std.specs.Str.{bytes_eq}
use Rattle.wquery.specs.Tree.{Tree, Field, name_bytes, view}
use Rattle.wquery.specs.declared.query.Item.{Item}
use Rattle.wquery.specs.declared.query.Item.TheVariants as items
use Rattle.wnodes.specs.Sameness.{is_same}
use Rattle.wscope.specs.Scope.{output_name}
use Rattle.wscope.specs.Sources.{all_titled}
use Rattle.wscope.specs.Types.{place_named}
use Rattle.wscope.specs.declared.source.SourceColumn.{SourceColumn}
use Rattle.wspots.specs.declared.outputs.Output.{Output}
use Rattle.wspots.specs.declared.outputs.Outputs.{Outputs}

-- what a map has for a name
abbrev pub of_name : {X : Type 0} → BTreeMap (Bor (List ℕ)) X → List ℕ → Option X
of_name map name = get_by (λ key. slice_cmp nat_cmp name key.now) map

abbrev pub has_item : Outputs → List ℕ → Bool
has_item outputs name = is_some (of_name outputs.first name)

-- the place of the first item of a name, and that of the first one behind it which is another expression
abbrev pub both : Option Output → Option ℕ → Option (ℕ × ℕ)
both None other = None
both (Some first) None = None
both (Some first) (Some other) = Some (first.place, other)

abbrev pub two_called : Outputs → List ℕ → Option (ℕ × ℕ)
two_called outputs name = both (of_name outputs.first name) (of_name outputs.other name)

-- how many items stand in so many columns, `*` written out
abbrev pub item_count : ℕ → Item → ℕ
item_count columns items.All = columns
item_count columns (items.Value e alias) = 1

-- a count with so many more
abbrev pub counted : ℕ → ℕ → ℕ
counted count more = min (count + more) (2 ^ 64 - 1)

abbrev pub count_behind : ℕ → ℕ → List Item → ℕ
count_behind columns count [] = count
count_behind columns count (item ∷ rest) = count_behind columns (counted count (item_count columns item)) rest

-- ---- what is known of a name

-- an item: its place, the column of the source that it is, and what was written, but for a column of `*`
pub record ItemTree : Type 0 where
  pub place : ℕ
  pub column : Option ℕ
  pub tree : Option Tree

abbrev pub item_of : Output → ItemTree
item_of output = record {
  place = output.place;
  column = output.column;
  tree = option_map (λ e. view e.now) output.expression;
}

-- two items are different expressions
abbrev pub differ_written : Option Tree → Option Tree → Bool
differ_written None other = true
differ_written (Some one) None = true
differ_written (Some one) (Some other) = not (is_same one other)

abbrev pub differ_at : Option ℕ → Option ℕ → Option Tree → Option Tree → Bool
differ_at (Some one) (Some other) a b = not (one == other)
differ_at (Some one) None a b = true
differ_at None (Some other) a b = true
differ_at None None a b = differ_written a b

abbrev pub differ : ItemTree → ItemTree → Bool
differ a b = differ_at a.column b.column a.tree b.tree

-- the first item of a name, and the place of the first one that is another expression
abbrev pub Known : Type 0
Known = Option ItemTree × Option ℕ

abbrev pub known_in : Outputs → List ℕ → Known
known_in outputs name = (option_map item_of (of_name outputs.first name), of_name outputs.other name)

-- the items of a name among some with their names
abbrev pub named : List ℕ → List (List ℕ × ItemTree) → List ItemTree
named name items = map (λ item. item.1) (filter (λ item. bytes_eq item.0 name) items)

-- the first of some items, and the place of the first behind it that is another expression
abbrev pub first_two : List ItemTree → Known
first_two [] = (None, None)
first_two (first ∷ rest) = (Some first, option_map (λ item. item.place) (find (differ first) rest))

-- what is known with one more item of some name
abbrev pub with_other : Option ItemTree → Option ℕ → ItemTree → Known
with_other None other item = (Some item, other)
with_other (Some first) (Some other) item = (Some first, Some other)
with_other (Some first) None item = (Some first, if differ first item then Some item.place else None)

abbrev pub with_item : List ℕ → Known → List ℕ → ItemTree → Known
with_item name known own item = if bytes_eq own name then with_other known.0 known.1 item else known

-- the same, with more of them, one after another
abbrev pub with_items : List ℕ → Known → List (List ℕ × ItemTree) → Known
with_items name known [] = known
with_items name known (item ∷ rest) = with_items name (with_item name known item.0 item.1) rest

-- ---- the items with their names

-- the columns of a source from a place on, where so many items stand before them
abbrev pub columns_from : ℕ → ℕ → List SourceColumn → List (List ℕ × ItemTree)
columns_from count place [] = []
columns_from count place (column ∷ rest) = (
  rc_str_bytes column.name,
  record {
    place = count;
    column = Some place;
    tree = None;
  },
) ∷ columns_from (counted count 1) (suc place) rest

-- the column that an expression is, by its place in the source
abbrev pub column_of : List SourceColumn → Tree → Option ℕ
column_of columns (Field qualifier name) = Some (place_named (all_titled columns) name)
column_of columns _ = None

-- what an item stands for; a second `*` names nothing more
abbrev pub written_out : List SourceColumn → Bool → ℕ → Item → List (List ℕ × ItemTree)
written_out columns true count items.All = []
written_out columns false count items.All = columns_from count 0 columns
written_out columns has_all count (items.Value e alias) = (
  output_name (view e) (name_bytes alias),
  record {
    place = count;
    column = column_of columns (view e);
    tree = Some (view e);
  },
) ∷ []

abbrev pub is_all : Item → Bool
is_all items.All = true
is_all (items.Value e alias) = false

-- all of them, behind so many items, of which one was `*` or none
abbrev pub all_written_out : List SourceColumn → Bool → ℕ → List Item → List (List ℕ × ItemTree)
all_written_out columns has_all count [] = []
all_written_out columns has_all count (item ∷ rest) = written_out columns has_all count item
    ++ all_written_out columns (has_all || is_all item) (counted count (item_count (length columns) item)) rest

-- so many items stand over some columns, and of each name the first of them is known, and the first behind it that is another expression
pub record HasItems (columns : List SourceColumn) (items : List Item) (outputs : Outputs) : Type 0 where
  pub count : outputs.count ≡ count_behind (length columns) 0 items
  pub known : (name : Bor (List ℕ)) → known_in outputs name.now
      ≡ first_two (named name.now (all_written_out columns false 0 items))
