use Rattle.std.proofs.Common.{ap, subst, sym, ◌∙◌, None}
use Rattle.wquery.specs.declared.query.Query.{Query}
use Rattle.wquery.specs.QueryTree.{view_query, view_source}
use Rattle.wscope.specs.Sources.{all_titled}
use Rattle.wresolve.specs.Judging.{ResolvesQuery, ResolvesSource, plans_made}
use Rattle.wresolve.proofs.Queried.{derived_is, fault_source}
use Rattle.wresolve.proofs.query.+querying.Goals as goal

pub push_query-returns-in-Err-clause-answer : goal.push_query-returns-in-Err-clause-answer
push_query-returns-in-Err-clause-answer t c =
    fault_source c.args.schema.now c.args.last c.args.query.now (plans_made c.args.made.now)
    (plans_made c.push_source.new.made) c.push_source.result c.in-Err.fault c.in-Err.is c.push_source.ensures.answer

pub push_query-returns-in-Ok-clause-answer : goal.push_query-returns-in-Ok-clause-answer
push_query-returns-in-Ok-clause-answer t c =
    let h = subst (ResolvesSource c.args.schema.now (view_source c.args.query.now.source) (plans_made c.args.made.now)
    (plans_made c.push_source.new.made)) c.in-Ok.is c.push_source.ensures.answer in
    c.push_over.ensures.answer (plans_made c.args.made.now) h.0 (ap all_titled c.as_slice.ensures.value ∙ h.1) h.2

pub push_source-returns-in-Derived-clause-answer : goal.push_source-returns-in-Derived-clause-answer
push_source-returns-in-Derived-clause-answer t c =
    derived_is c.args.schema.now c.args.source.now c.in-Derived.query c.in-Derived.alias (plans_made c.args.made.now)
    (plans_made c.push_query.new.made) c.push_query.result c.in-Derived.is
    (subst (λ (q : Query). ResolvesQuery c.args.schema.now None (view_query q) (plans_made c.args.made.now)
    (plans_made c.push_query.new.made) c.push_query.result) c.deref.ensures c.push_query.ensures.answer)
