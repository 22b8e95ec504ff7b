-- What a query in memory says, part by part.
use Rattle.std.proofs.Common.{◌≡◌}
use Rattle.wquery.specs.declared.query.Query.{Query}
use Rattle.wquery.specs.declared.query.Source.TheFolds.{fold_out-Query}
use Rattle.wquery.specs.QueryTree.{QueryTree, Selected, SourceTree, view_query, view_source, source_step, query_step}
use Rattle.wscope.specs.Clauses.{clauses_in}

pub query_is : (q : Query) → view_query q ≡ Selected (clauses_in q) (view_source q.source)
unfolding view_query view_source
query_is q = fold_out-Query SourceTree QueryTree source_step query_step q
