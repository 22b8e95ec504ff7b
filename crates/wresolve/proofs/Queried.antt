-- SELECTs and queries, judged and put together.
use Rattle.std.proofs.Common.{◌≡◌, ℕ, List, [], ◌∷◌, ◌++◌, Option, Some, None, Result, Ok, Err, ap, sym, ◌∙◌, subst, append_assoc, map}
use Rattle.std.specs.Rc.{rc_str_bytes}
use Rattle.std.specs.declared.alloc.Global.{Global}
use Rattle.std.specs.declared.boxed.Box.{Box}
use Rattle.std.specs.declared.rc.RcStr.{RcStr}
use Rattle.std.specs.declared.vec.Vec.{Vec}
use Rattle.wsegment.specs.Declaration.{Declaration}
use Rattle.wquery.specs.declared.query.Query.{Query}
use Rattle.wquery.specs.declared.query.Source.{Source}
use Rattle.wquery.specs.declared.query.Source.TheVariants as sources
use Rattle.wquery.specs.declared.query.Source.TheOpen as layer
use Rattle.wquery.specs.declared.query.Source.TheFolds.{fold-Source, fold-roll-Source}
use Rattle.wquery.specs.QueryTree.{QueryTree, SourceTree, FromQuery, query_step, source_step, view_query, view_source, view_item}
use Rattle.wscope.specs.Clauses.{clauses_in}
use Rattle.wscope.specs.Scoped.{scope_clauses, scope_columns, scope_source}
use Rattle.wscope.specs.Sources.{all_titled, origin_of, answer_columns, answered}
use Rattle.wscope.specs.Types.{Titled}
use Rattle.wscope.specs.declared.scope.Scope.{Scope}
use Rattle.wscope.specs.declared.source.SourceColumn.{SourceColumn}
use Rattle.wrules.specs.declared.rule.Rule.{Rule}
use Rattle.wrules.specs.Rules.{depth_rule, judged, least, least_broken, least_source, or_else, sets_rule}
use Rattle.wplan.specs.Plans.{SelectPlan, select_plan}
use Rattle.wplan.specs.declared.resolved.Selection.{Selection}
use Rattle.wresolve.specs.declared.resolve_fault.ResolveFault.{ResolveFault}
use Rattle.wresolve.specs.declared.resolve_fault.ResolveFault.TheVariants.{Broken, NoMemory}
use Rattle.wresolve.specs.Judging.{ResolvesOver, ResolvesQuery, ResolvesSource, rule_over}
use Rattle.wresolve.specs.Outcomes.{Resolves}
use Rattle.wresolve.specs.Selecting.{select_made, resolved_query, resolved_source}
use Rattle.wresolve.proofs.Views.{query_is}

abbrev alias_in : Declaration → Query → List ℕ
alias_in d q = (origin_of d (view_source q.source)).alias

-- the rule of a scope is that of what it was made of
pub rule_is : (d : Declaration) (last : Option Rule) (s : Scope) (cs : List SourceColumn) (q : Query) (r : Option Rule)
    → s.table.now ≡ d.table → s.alias.now ≡ (origin_of d (view_source q.source)).alias → s.columns.now ≡ cs → s.query.now ≡ q
    → r ≡ or_else (least_broken s.table.now s.alias.now (scope_columns s) (scope_clauses s) (scope_source s))
    (or_else last (sets_rule (view_query s.query.now))) → rule_over d last (all_titled cs) q ≡ r
rule_is d last s cs q r et ea ec eq er =
    sym (er
    ∙ ap (λ (t : List ℕ). or_else (least_broken t s.alias.now (scope_columns s) (scope_clauses s) (scope_source s))
    (or_else last (sets_rule (view_query s.query.now)))) et
    ∙ ap (λ (a : List ℕ). or_else (least_broken d.table a (scope_columns s) (scope_clauses s) (scope_source s))
    (or_else last (sets_rule (view_query s.query.now)))) ea
    ∙ ap (λ (xs : List SourceColumn). or_else (least_broken d.table (alias_in d q) (all_titled xs) (scope_clauses s)
    (scope_source s)) (or_else last (sets_rule (view_query s.query.now)))) ec
    ∙ ap (λ (x : Query). or_else (least_broken d.table (alias_in d q) (all_titled cs) (clauses_in x) (view_source x.source))
    (or_else last (sets_rule (view_query x)))) eq)

-- and so is its SELECT
pub plan_is : (s : Scope) (cs : List SourceColumn) (q : Query) (p : SelectPlan) → s.columns.now ≡ cs → s.query.now ≡ q
    → p ≡ select_made (scope_columns s) (scope_clauses s) → p ≡ select_made (all_titled cs) (clauses_in q)
plan_is s cs q p ec eq ep = ep ∙ ap (λ (xs : List SourceColumn). select_made (all_titled xs) (scope_clauses s)) ec
    ∙ ap (λ (x : Query). select_made (all_titled cs) (clauses_in x)) eq

-- the rule of a query whose derived table breaks none
judged_is : (d : Declaration) (last : Option Rule) (cs : List Titled) (q : Query) → least_source d (view_source q.source)
    ≡ None → cs ≡ (origin_of d (view_source q.source)).columns
    → or_else (least d (view_query q)) (or_else last (sets_rule (view_query q))) ≡ rule_over d last cs q
judged_is d last cs q h ec =
    ap (λ (x : Option Rule). or_else x (or_else last (sets_rule (view_query q))))
    (ap (least d) (query_is q) ∙ ap (λ (x : Option Rule). or_else x (judged d.table (origin_of d (view_source q.source))
    (clauses_in q) (view_source q.source))) h
    ∙ ap (λ (xs : List Titled). least_broken d.table (alias_in d q) xs (clauses_in q) (view_source q.source)) (sym ec))

pub fault_over : (d : Declaration) (last : Option Rule) (cs : List Titled) (q : Query) (before after : List SelectPlan)
    (r : Result Selection ResolveFault) (f : ResolveFault) → r ≡ Err f → ResolvesOver d last cs q r
    → least_source d (view_source q.source) ≡ None → cs ≡ (origin_of d (view_source q.source)).columns
    → ResolvesQuery d last (view_query q) before after (Err f)
fault_over d last cs q before after r f e h hs ec = by f (subst (ResolvesOver d last cs q) e h)
  where
    by : (g : ResolveFault) → ResolvesOver d last cs q (Err g) → ResolvesQuery d last (view_query q) before after (Err g)
    by (Broken rule) k = judged_is d last cs q hs ec ∙ k
    by NoMemory k = tt

query_answers : (d : Declaration) (q : Query) (cs out : List Titled) → cs ≡ (origin_of d (view_source q.source)).columns
    → out ≡ answered cs (map view_item q.items.items) → out ≡ answer_columns d (view_query q)
query_answers d q cs out ec h =
    h ∙ ap (λ (x : List Titled). answered x (map view_item q.items.items)) ec ∙ ap (answer_columns d) (sym (query_is q))

query_pushed : (d : Declaration) (q : Query) (cs : List Titled) (old mid new : List SelectPlan)
    → cs ≡ (origin_of d (view_source q.source)).columns → mid ≡ old ++ resolved_source d (view_source q.source)
    → new ≡ mid ++ (select_made cs (clauses_in q) ∷ []) → new ≡ old ++ resolved_query d (view_query q)
query_pushed d q cs old mid new ec em h =
    h
    ∙ ap (λ (x : List SelectPlan). x ++ (select_made cs (clauses_in q) ∷ [])) em
    ∙ ap (λ (x : List Titled). (old ++ resolved_source d (view_source q.source)) ++ (select_made x (clauses_in q) ∷ [])) ec
    ∙ append_assoc old (resolved_source d (view_source q.source)) (select_made (origin_of d (view_source q.source)).columns
    (clauses_in q) ∷ [])
    ∙ ap (λ (x : QueryTree). old ++ resolved_query d x) (sym (query_is q))

pub ok_over : (d : Declaration) (last : Option Rule) (cs : List Titled) (q : Query) (before mid new : List SelectPlan)
    (r : Result Selection ResolveFault) (s : Selection) (answer : Vec SourceColumn Global) → r ≡ Ok s → ResolvesOver d last cs q r
    → least_source d (view_source q.source) ≡ None → cs ≡ (origin_of d (view_source q.source)).columns
    → mid ≡ before ++ resolved_source d (view_source q.source) → new ≡ mid ++ select_plan s ∷ []
    → all_titled answer.items ≡ answered cs (clauses_in q).items
    → ResolvesQuery d last (view_query q) before new (Ok answer)
ok_over d last cs q before mid new r s answer e h hs ec em en ea = by (subst (ResolvesOver d last cs q) e h)
  where
    by : ResolvesOver d last cs q (Ok s) → ResolvesQuery d last (view_query q) before new (Ok answer)
    by k = (
      judged_is d last cs q hs ec ∙ k.0,
      query_answers d q cs (all_titled answer.items) ec ea,
      query_pushed d q cs before mid new ec em (en ∙ ap (λ (p : SelectPlan). mid ++ p ∷ []) k.1),
    )

pub fault_source : (d : Declaration) (last : Option Rule) (q : Query) (old new : List SelectPlan)
    (r : Result (Vec SourceColumn Global) ResolveFault) (f : ResolveFault) → r ≡ Err f
    → ResolvesSource d (view_source q.source) old new r → ResolvesQuery d last (view_query q) old new (Err f)
fault_source d last q old new r f e h = by f (subst (ResolvesSource d (view_source q.source) old new) e h)
  where
    by : (g : ResolveFault) → ResolvesSource d (view_source q.source) old new (Err g) → ResolvesQuery d last (view_query q) old new (Err g)
    by (Broken rule) k =
        ap (λ (t : QueryTree). or_else (least d t) (or_else last (sets_rule (view_query q)))) (query_is q)
        ∙ ap (λ (x : Option Rule). or_else (or_else x (judged d.table (origin_of d (view_source q.source)) (clauses_in q)
        (view_source q.source))) (or_else last (sets_rule (view_query q)))) k
    by NoMemory k = tt

-- what a derived table's query comes to is what the source comes to
view_of_derived : (x : Box Query Global) (alias : RcStr Global) → view_source (sources.Derived x alias)
    ≡ FromQuery (view_query x.value) (rc_str_bytes alias)
unfolding view_source view_query
view_of_derived x alias = ap (fold-Source SourceTree QueryTree source_step query_step) (sym (sources.rolls-Derived x alias))
    ∙ fold-roll-Source SourceTree QueryTree source_step query_step (layer.Derived x alias)

inner_is : (d : Declaration) (q : QueryTree) (alias : List ℕ) (old new : List SelectPlan)
    (r : Result (Vec SourceColumn Global) ResolveFault) → ResolvesQuery d None q old new r → ResolvesSource d (FromQuery q alias) old new r
inner_is d q alias old new (Ok cs) h = h
inner_is d q alias old new (Err (Broken rule)) h = h
inner_is d q alias old new (Err NoMemory) h = tt

pub derived_is : (d : Declaration) (s : Source) (x : Box Query Global) (alias : RcStr Global) (old new : List SelectPlan)
    (r : Result (Vec SourceColumn Global) ResolveFault) → s ≡ sources.Derived x alias
    → ResolvesQuery d None (view_query x.value) old new r → ResolvesSource d (view_source s) old new r
derived_is d s x alias old new r is h =
    subst (λ (t : SourceTree). ResolvesSource d t old new r) (sym (ap view_source is ∙ view_of_derived x alias))
    (inner_is d (view_query x.value) (rc_str_bytes alias) old new r h)

pub fault_is : (d : Declaration) (q : QueryTree) (last : Option Rule) (old new : List SelectPlan)
    (r : Result (Vec SourceColumn Global) ResolveFault) (f : ResolveFault) → last ≡ depth_rule q → r ≡ Err f
    → ResolvesQuery d last q old new r → Resolves d q (Err f)
fault_is d q last old new r f el e h = by f (subst (ResolvesQuery d last q old new) e h)
  where
    by : (g : ResolveFault) → ResolvesQuery d last q old new (Err g) → Resolves d q (Err g)
    by (Broken rule) k = ap (λ (x : Option Rule). or_else (least d q) (or_else x (sets_rule q))) (sym el) ∙ k
    by NoMemory k = tt
