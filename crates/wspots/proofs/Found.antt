-- What is found in a query, and added to a text.
use Rattle.std.proofs.Common.{◌≡◌, ℕ, IfOk, List, OnOk, Option, Some, None, Result, Ok, Err, inl, inr, slice_get, string_bytes, subst}
use Rattle.wclauses.specs.Clauses.{standings_of}
use Rattle.wclauses.specs.Pairs.{pairs_of}
use Rattle.wlexer.specs.declared.token.Token.{Token}
use Rattle.wquery.specs.declared.query.Query.{Query}
use Rattle.wrules.specs.declared.rule.Rule.{Rule}
use Rattle.wscope.specs.Sources.{declared_columns}
use Rattle.wsegment.specs.Declaration.{Declaration}
use Rattle.wshown.specs.Shown.{MayPoint}
use Rattle.wspots.specs.declared.names.Spot.{Spot}
use Rattle.wspots.specs.declared.scene.Written.{Written}
use Rattle.wspots.specs.Selects.{IsToldFrom, IsToldIn, PointsAtSpot, PointsAtToken, selects_of}

-- what is told in a text of a query is told in the query
pub told_in : {E : Type 0} (declared : Declaration) (tokens : List Token) (query : Query) (rule : Rule) (written : Written)
    (result : Result (Option Spot) E)
    → IfOk result (λ found. IsToldFrom written rule (declared_columns written.schema.now.columns) (selects_of query) found)
    → written.schema.now ≡ declared → written.tokens.now ≡ tokens → written.clauses.now.pairs.pairs.items ≡ pairs_of tokens
    → written.clauses.now.standings.items ≡ standings_of tokens → IfOk result (λ found. IsToldIn declared tokens query rule found)
told_in declared tokens query rule written (Ok found) h es et ep en = (
  written,
  record { of_schema = es; of_tokens = et; pairs = ep; standings = en },
  subst (λ (d : Declaration). IsToldFrom written rule (declared_columns d.columns) (selects_of query) found) es h,
)
told_in declared tokens query rule written (Err e) h es et ep en = h

pub on_ok : {X E P Q : Type 0} (result : Result X E) → (P → Q) → OnOk result P → OnOk result Q
on_ok (Ok x) f h = f h
on_ok (Err e) f h = h

at_token : (query : List ℕ) (token : Option Token) (note old new : List ℕ) → PointsAtToken query token note old new → MayPoint query old new
at_token query None note old new h = inl h
at_token query (Some token) note old new h = inr (token.from, note, h)

-- the place of what is found is one of the query
pub may_point : (query : List ℕ) (tokens : List Token) (found : Option Spot) (old new : List ℕ)
    → PointsAtSpot query tokens found old new → MayPoint query old new
may_point query tokens None old new h = inl h
may_point query tokens (Some spot) old new h = at_token query (slice_get tokens spot.token) (string_bytes spot.note) old new h
