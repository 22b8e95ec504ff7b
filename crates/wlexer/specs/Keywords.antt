-- The words that the language keeps for itself (ISO/IEC 9075-2, <key word>; the list is our own).
use Rattle.std.specs.Prelude.{ℕ, List, [], ◌∷◌, Option, Some, None, if◌then◌else◌, codes}
use Rattle.std.specs.Str.{str_eq_ignore_ascii_case}
use Rattle.wlexer.specs.declared.keyword.Entry.{Entry}
use Rattle.wlexer.specs.declared.keyword.Keyword.{Keyword}
use Rattle.wlexer.specs.declared.keyword.Keyword.TheVariants as keywords

-- a keyword and its spelling
pub record Spelling : Type 0 where
  pub spelling : List ℕ
  pub keyword : Keyword

-- each keyword with its spelling
unfoldable pub keyword_table : List Spelling
keyword_table =
    record { spelling = codes "all"; keyword = keywords.All }
    ∷ record { spelling = codes "and"; keyword = keywords.And }
    ∷ record { spelling = codes "as"; keyword = keywords.As }
    ∷ record { spelling = codes "asc"; keyword = keywords.Asc }
    ∷ record { spelling = codes "between"; keyword = keywords.Between }
    ∷ record { spelling = codes "by"; keyword = keywords.By }
    ∷ record { spelling = codes "case"; keyword = keywords.Case }
    ∷ record { spelling = codes "cast"; keyword = keywords.Cast }
    ∷ record { spelling = codes "cross"; keyword = keywords.Cross }
    ∷ record { spelling = codes "cube"; keyword = keywords.Cube }
    ∷ record { spelling = codes "current"; keyword = keywords.Current }
    ∷ record { spelling = codes "desc"; keyword = keywords.Desc }
    ∷ record { spelling = codes "distinct"; keyword = keywords.Distinct }
    ∷ record { spelling = codes "except"; keyword = keywords.Except }
    ∷ record { spelling = codes "exclude"; keyword = keywords.Exclude }
    ∷ record { spelling = codes "exists"; keyword = keywords.Exists }
    ∷ record { spelling = codes "false"; keyword = keywords.False }
    ∷ record { spelling = codes "fetch"; keyword = keywords.Fetch }
    ∷ record { spelling = codes "filter"; keyword = keywords.Filter }
    ∷ record { spelling = codes "first"; keyword = keywords.First }
    ∷ record { spelling = codes "following"; keyword = keywords.Following }
    ∷ record { spelling = codes "for"; keyword = keywords.For }
    ∷ record { spelling = codes "from"; keyword = keywords.From }
    ∷ record { spelling = codes "full"; keyword = keywords.Full }
    ∷ record { spelling = codes "group"; keyword = keywords.Group }
    ∷ record { spelling = codes "grouping"; keyword = keywords.Grouping }
    ∷ record { spelling = codes "groups"; keyword = keywords.Groups }
    ∷ record { spelling = codes "having"; keyword = keywords.Having }
    ∷ record { spelling = codes "in"; keyword = keywords.In }
    ∷ record { spelling = codes "inner"; keyword = keywords.Inner }
    ∷ record { spelling = codes "intersect"; keyword = keywords.Intersect }
    ∷ record { spelling = codes "is"; keyword = keywords.Is }
    ∷ record { spelling = codes "join"; keyword = keywords.Join }
    ∷ record { spelling = codes "last"; keyword = keywords.Last }
    ∷ record { spelling = codes "left"; keyword = keywords.Left }
    ∷ record { spelling = codes "like"; keyword = keywords.Like }
    ∷ record { spelling = codes "limit"; keyword = keywords.Limit }
    ∷ record { spelling = codes "natural"; keyword = keywords.Natural }
    ∷ record { spelling = codes "no"; keyword = keywords.No }
    ∷ record { spelling = codes "not"; keyword = keywords.Not }
    ∷ record { spelling = codes "null"; keyword = keywords.Null }
    ∷ record { spelling = codes "nulls"; keyword = keywords.Nulls }
    ∷ record { spelling = codes "offset"; keyword = keywords.Offset }
    ∷ record { spelling = codes "on"; keyword = keywords.On }
    ∷ record { spelling = codes "or"; keyword = keywords.Or }
    ∷ record { spelling = codes "order"; keyword = keywords.Order }
    ∷ record { spelling = codes "others"; keyword = keywords.Others }
    ∷ record { spelling = codes "outer"; keyword = keywords.Outer }
    ∷ record { spelling = codes "over"; keyword = keywords.Over }
    ∷ record { spelling = codes "partition"; keyword = keywords.Partition }
    ∷ record { spelling = codes "preceding"; keyword = keywords.Preceding }
    ∷ record { spelling = codes "range"; keyword = keywords.Range }
    ∷ record { spelling = codes "right"; keyword = keywords.Right }
    ∷ record { spelling = codes "rollup"; keyword = keywords.Rollup }
    ∷ record { spelling = codes "row"; keyword = keywords.Row }
    ∷ record { spelling = codes "rows"; keyword = keywords.Rows }
    ∷ record { spelling = codes "select"; keyword = keywords.Select }
    ∷ record { spelling = codes "sets"; keyword = keywords.Sets }
    ∷ record { spelling = codes "ties"; keyword = keywords.Ties }
    ∷ record { spelling = codes "true"; keyword = keywords.True }
    ∷ record { spelling = codes "unbounded"; keyword = keywords.Unbounded }
    ∷ record { spelling = codes "union"; keyword = keywords.Union }
    ∷ record { spelling = codes "using"; keyword = keywords.Using }
    ∷ record { spelling = codes "where"; keyword = keywords.Where }
    ∷ record { spelling = codes "window"; keyword = keywords.Window }
    ∷ record { spelling = codes "with"; keyword = keywords.With }
    ∷ []

-- the keyword that a word spells by the table, in letters of either case
abbrev pub keyword_in : List Spelling → List ℕ → Option Keyword
keyword_in [] word = None
keyword_in (entry ∷ table) word = if str_eq_ignore_ascii_case entry.spelling word then Some entry.keyword else keyword_in table word

-- the keyword that a word spells
abbrev pub keyword_of : List ℕ → Option Keyword
keyword_of word = keyword_in keyword_table word

-- what an entry of the code's table says
abbrev pub spelling_of : Entry → Spelling
spelling_of entry = record { spelling = entry.spelling.now; keyword = entry.keyword }
