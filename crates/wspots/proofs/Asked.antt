-- The SELECTs of a query, asked one after another.
use Rattle.std.proofs.Common.{◌≡◌, ℕ, suc, ◌+◌, ◌-◌, ◌<◌, ◌≤◌, true, false, List, [], ◌∷◌, length, map, drop, get_or}
use Rattle.std.proofs.Common.{Option, Some, None, add-one, ap, arith, is_some, refl, subst, sym, ◌∙◌, true≢false}
use Rattle.std.proofs.Math.Seq.{drop-cons}
use Rattle.std.proofs.lemmas.List.{length-drop, length-map}
use Rattle.std.specs.Borrow.{Bor}
use Rattle.wquery.specs.declared.query.Item.{Item}
use Rattle.wquery.specs.declared.query.Query.{Query}
use Rattle.wquery.specs.QueryTree.{view_item}
use Rattle.wrules.specs.declared.rule.Rule.{Rule}
use Rattle.wscope.specs.Sources.{all_titled, answered, declared_columns, titled}
use Rattle.wscope.specs.declared.source.SourceColumn.{SourceColumn}
use Rattle.wspots.specs.declared.names.Spot.{Spot}
use Rattle.wspots.specs.declared.scene.Written.{Written}
use Rattle.wspots.specs.Items.{count_behind}
use Rattle.wspots.specs.Made.{IsTold}
use Rattle.wspots.specs.Selects.{IsToldFrom, IsToldOver, behind, first, item_number, nothing, selects_of, too_many}

abbrev pub queries : List (Bor Query) → List Query
queries selects = map (λ select. select.now) selects

-- what is told of the SELECTs from one on is told of all
abbrev pub TellsAll : Written → Rule → Query → ℕ → List (Bor Query) → List SourceColumn → Type 0
TellsAll written rule query i selects columns = (found : Option Spot)
    → IsToldFrom written rule (all_titled columns) (queries (drop i selects)) found
    → IsToldFrom written rule (declared_columns written.schema.now.columns) (selects_of query) found

-- at the first one
pub tells_all : (written : Written) (rule : Rule) (query : Query) (selects : List (Bor Query)) (columns : List SourceColumn)
    → queries selects ≡ selects_of query → all_titled columns ≡ declared_columns written.schema.now.columns
    → TellsAll written rule query 0 selects columns
tells_all written rule query selects columns es ec = λ found h.
    subst (λ cs. IsToldFrom written rule cs (selects_of query) found) ec
    (subst (λ qs. IsToldFrom written rule (all_titled columns) qs found) es h)

-- behind the last one
pub none_told : (written : Written) (rule : Rule) (query : Query) (i : ℕ) (selects : List (Bor Query)) (columns : List SourceColumn)
    → drop i selects ≡ [] → TellsAll written rule query i selects columns
    → IsToldFrom written rule (declared_columns written.schema.now.columns) (selects_of query) None
none_told written rule query i selects columns e all = all None
    (subst (λ (ss : List (Bor Query)). IsToldFrom written rule (all_titled columns) (queries ss) None) (sym e)
    (nothing (all_titled columns)))

module _ (written : Written) (rule : Rule) (query : Query) (i : ℕ) (selects : List (Bor Query)) (s : Bor Query)
    (columns : List SourceColumn) (h : i < length selects) (is : s ≡ get_or selects i s)
    (all : TellsAll written rule query i selects columns) where
  abbrev around : List Query
  around = queries (drop (suc i) selects)

  step : queries (drop i selects) ≡ s.now ∷ around
  step = ap queries (drop-cons selects i s h) ∙ ap (λ (x : Bor Query). x.now ∷ around) (sym is)

  level_is : length around ≡ (length selects - 1) - i
  level_is =
      let mapped : length around ≡ length (drop (suc i) selects) = length-map (drop (suc i) selects) (λ x. x.now) in
      let dropped : length (drop (suc i) selects) ≡ length selects - suc i = length-drop (suc i) selects in
      omega (arith, mapped, dropped, h)

  from_here : (found : Option Spot) → IsToldFrom written rule (all_titled columns) (s.now ∷ around) found
      → IsToldFrom written rule (declared_columns written.schema.now.columns) (selects_of query) found
  from_here found told = all found (subst (λ qs. IsToldFrom written rule (all_titled columns) qs found) (sym step) told)

  over : (found : Option Spot) (level : ℕ) → level ≡ (length selects - 1) - i → IsTold written columns s.now level rule found
      → IsToldOver written rule (all_titled columns) s.now (length around) found
  over found level e told = (columns, refl, subst (λ n. IsTold written columns s.now n rule found) (e ∙ sym level_is) told)

  none_is : (found : Option Spot) → is_some found ≡ false → found ≡ None
  none_is None e = refl
  none_is (Some spot) e = absurd (true≢false e)

  -- what is told of this SELECT is told first
  pub told_here : (found : Option Spot) (level : ℕ) → level ≡ (length selects - 1) - i → is_some found ≡ true
      → IsTold written columns s.now level rule found
      → IsToldFrom written rule (declared_columns written.schema.now.columns) (selects_of query) found
  told_here (Some spot) level el e told =
      from_here (Some spot) (first (all_titled columns) s.now around spot (over (Some spot) level el told))
  told_here None level el e told = absurd (true≢false (sym e))

  over_none : (found : Option Spot) (level : ℕ) → level ≡ (length selects - 1) - i → is_some found ≡ false
      → IsTold written columns s.now level rule found → IsToldOver written rule (all_titled columns) s.now (length around) None
  over_none found level el e told = over None level el (subst (λ f. IsTold written columns s.now level rule f) (none_is found e) told)

  count_is : (count len : ℕ) (items : List Item) → count ≡ count_behind len 0 items → len ≡ length columns → items ≡ s.now.items.items
      → count ≡ item_number (all_titled columns) s.now
  count_is count len items ec el ei = ec ∙ ap (λ n. count_behind n 0 items) (el ∙ sym (length-map columns titled))
      ∙ ap (count_behind (length (all_titled columns)) 0) ei

  -- nothing is told around a SELECT of too many items
  pub told_nowhere : (found : Option Spot) (level count len : ℕ) (items : List Item) → level ≡ (length selects - 1) - i
      → is_some found ≡ false → IsTold written columns s.now level rule found
      → count ≡ count_behind len 0 items → len ≡ length columns → items ≡ s.now.items.items → 64 < count
      → IsToldFrom written rule (declared_columns written.schema.now.columns) (selects_of query) None
  told_nowhere found level count len items en e told ec el ei more = from_here None (too_many (all_titled columns) s.now around
      (over_none found level en e told) (subst (λ n. 64 < n) (count_is count len items ec el ei) more))

  -- and else the SELECTs around it are asked
  pub told_behind : (found : Option Spot) (level count len : ℕ) (items : List Item) (new : List SourceColumn)
      → level ≡ (length selects - 1) - i → is_some found ≡ false → IsTold written columns s.now level rule found
      → count ≡ count_behind len 0 items → len ≡ length columns → items ≡ s.now.items.items → count ≤ 64
      → all_titled new ≡ answered (all_titled columns) (map view_item s.now.items.items)
      → TellsAll written rule query (i + 1) selects new
  told_behind found level count len items new en e told ec el ei few es = rw add-one (λ f rest. from_here f
      (behind (all_titled columns) s.now around f (over_none found level en e told)
      (subst (λ n. n ≤ 64) (count_is count len items ec el ei) few)
      (subst (λ cs. IsToldFrom written rule cs around f) es rest)))
