-- A query that no rule refuses is well typed.
use Rattle.std.proofs.Common.{◌≡◌, Bool, true, false, not, ◌&&◌, List, [], ◌∷◌, ◌++◌, Option, Some, None, refl, ap, ap₂, ◌∙◌}
use Rattle.std.specs.List.{list_all}
use Rattle.std.proofs.lemmas.Bool.{and_parts, and_from}
use Rattle.wsegment.specs.Declaration.{Declaration, Described}
use Rattle.wsegment.specs.declared.kind.Kind.{Kind}
use Rattle.wsegment.specs.declared.kind.Kind.TheVariants as kinds
use Rattle.wquery.specs.GroupElements.{all_columns}
use Rattle.wquery.specs.QueryTree.{Clauses, QueryTree, Selected, SourceTree, FromTable, FromQuery}
use Rattle.wscope.specs.declared.data_type.DataType.{DataType}
use Rattle.wscope.specs.Sources.{answer_columns, answered, declared_columns, kind_type, origin_of, written_out}
use Rattle.wscope.specs.Types as scope
use Rattle.wscope.specs.Types.{Titled}
use Rattle.wdistinct.specs.Calls.{group_calls, window_calls}
use Rattle.wrules.specs.Rules.{depth_rule, judged, least, least_source, or_else, sets_rule}
use Rattle.wplan.specs.Plans.{SelectPlan}
use Rattle.wbinding.specs.Groups.{elements_made}
use Rattle.wbinding.specs.Resolving.{source_row}
use Rattle.wresolve.specs.Selecting as made
use Rattle.wresolve.specs.Selecting.{resolved_query, resolved_source, select_made, select_over}
use Rattle.wtyped.specs.Laws.{AcceptedIsTyped, types_of}
use Rattle.wtyped.specs.Plans.{answer_types, next_types, query_types, select_types, shown_types, unless_ill, with_types}
use Rattle.wtyped.specs.Shapes.{has_misshapen, is_field, is_shaped, is_shaped_source}
use Rattle.wtyped.proofs.Items.{AreValues, answer_typed, answer_values, keys_typed, shown_items}
use Rattle.wtyped.proofs.Rows as rows
use Rattle.wtyped.proofs.Rows.{all_cells, group_cells, row_of}
use Rattle.wtyped.proofs.Rules as rules
use Rattle.wtyped.proofs.Selects as selects

-- one SELECT, grouped or not

abbrev plan_of : List Titled → Clauses → Bool → SelectPlan
plan_of cs c b = select_over cs (elements_made cs c.grouping) (group_calls c) (window_calls c) (row_of cs c b) c

plan_typed : (cs : List Titled) (c : Clauses) (b : Bool) → rules.Kept cs c → made.is_grouped c (group_calls c) ≡ b → AreValues cs
    → select_types (types_of cs) (plan_of cs c b) ≡ Some (types_of (answered cs c.items))
plan_typed cs c b k e v =
    let p = plan_of cs c b in let gs = group_cells cs c b in let ts = all_cells cs c b in let l = row_of cs c b in
    let s = rows.shown cs c b k e in
    let shown = shown_items cs c b k e v s in
    ap₂ (λ (x : Bool) (y : Option (List DataType)). unless_ill x (shown_types p y)) (selects.condition_typed (source_row cs)
    (types_of cs) c.condition (rows.fit_condition cs c k) k.condition) (selects.row_typed cs c b k e)
    ∙ ap₂ (λ (x : Bool) (y : Option (List DataType)). unless_ill x (answer_types p (with_types (Some gs) y)))
    (and_from _ _ (selects.having_typed cs c b k s) (selects.windows_typed cs c b k s)) (selects.over_typed cs c b s)
    ∙ ap₂ (λ (x : Bool) (y : Option (List DataType)). unless_ill x y) (keys_typed l ts c.items c.order shown
    (rows.fit_order cs c b s) k.order) (answer_typed l ts (written_out cs c.items) shown)

select_values : (cs : List Titled) (c : Clauses) (b : Bool) → rules.Kept cs c → made.is_grouped c (group_calls c) ≡ b → AreValues cs
    → AreValues (answered cs c.items)
select_values cs c b k e v =
    answer_values (row_of cs c b) (all_cells cs c b) (written_out cs c.items) (shown_items cs c b k e v (rows.shown cs c b k e))

-- queries

behind : (o : Option (List DataType)) (ps : List SelectPlan) (p : SelectPlan)
    → query_types o (ps ++ p ∷ []) ≡ next_types (query_types o ps) p
behind o [] p = refl
behind o (q ∷ ps) p = behind (next_types o q) ps p

kind_value : (k : Kind) → scope.is_truth (kind_type k) ≡ false
kind_value kinds.Integer = refl
kind_value kinds.Text = refl

declared_values : (ds : List Described) → AreValues (declared_columns ds)
declared_values [] = tt
declared_values (d ∷ ds) = (kind_value d.kind, declared_values ds)

abbrev table_types : Declaration → Option (List DataType)
table_types d = Some (types_of (declared_columns d.columns))

kept_select : (d : Declaration) (c : Clauses) (s : SourceTree)
    → (list_all is_field (all_columns c.grouping) && not (has_misshapen c)) ≡ true → judged d.table (origin_of d s) c s ≡ None
    → rules.Kept (origin_of d s).columns c
kept_select d c s shaped e = let o = origin_of d s in rules.kept d.table o.alias o.columns c s e shaped

abbrev IsTyped : Declaration → QueryTree → Type 0
IsTyped d q = (query_types (table_types d) (resolved_query d q) ≡ Some (types_of (answer_columns d q))) × AreValues (answer_columns d q)

abbrev IsSourceTyped : Declaration → SourceTree → Type 0
IsSourceTyped d s =
    (query_types (table_types d) (resolved_source d s) ≡ Some (types_of (origin_of d s).columns)) × AreValues (origin_of d s).columns

with_select : (d : Declaration) (c : Clauses) (s : SourceTree)
    → (list_all is_field (all_columns c.grouping) && not (has_misshapen c)) ≡ true → judged d.table (origin_of d s) c s ≡ None
    → IsSourceTyped d s → IsTyped d (Selected c s)
with_select d c s shaped e a =
    let cs = (origin_of d s).columns in let k = kept_select d c s shaped e in (
      behind (table_types d) (resolved_source d s) (select_made cs c)
          ∙ ap (λ (x : Option (List DataType)). next_types x (select_made cs c)) a.0
          ∙ plan_typed cs c (made.is_grouped c (group_calls c)) k refl a.1,
      select_values cs c (made.is_grouped c (group_calls c)) k refl a.1,
    )

mutual
  query_typed : (d : Declaration) (q : QueryTree) → is_shaped q ≡ true → least d q ≡ None → IsTyped d q
  query_typed d (Selected c s) shaped e =
      let p = and_parts _ _ shaped in
      let n = rules.neither (least_source d s) (judged d.table (origin_of d s) c s) e in
      with_select d c s p.0 n.1 (source_typed d s p.1 n.0)

  source_typed : (d : Declaration) (s : SourceTree) → is_shaped_source s ≡ true → least_source d s ≡ None → IsSourceTyped d s
  source_typed d (FromTable name alias) shaped e = (refl, declared_values d.columns)
  source_typed d (FromQuery q alias) shaped e = query_typed d q shaped (rules.neither (least d q) (sets_rule q) e).0

pub accepted_is_typed : AcceptedIsTyped
accepted_is_typed d q shaped e = (query_typed d q shaped (rules.neither (least d q) (or_else (depth_rule q) (sets_rule q)) e).0).0
