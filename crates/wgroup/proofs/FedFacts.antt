-- What an aggregate comes to by the values that feed it.
use Rattle.std.proofs.Common.{◌≡◌, inl, inr, Bool, List, Option, Result, Ok, Err, map, refl, sym, ap, ◌∙◌}
use Rattle.std.specs.List.{flat_map}
use Rattle.wvalues.specs.Meaning.{Meaning, Null}
use Rattle.wplan.specs.Formula.{Constant}
use Rattle.wplan.specs.declared.resolved.AggregateFunction.{AggregateFunction}
use Rattle.wplan.specs.declared.resolved.AggregateFunction.TheVariants.{CountRows}
use Rattle.wplan.specs.Plans.{AggregatePlan, GroupAggregate}
use Rattle.waggregate.specs.Aggregating.{Feed}
use Rattle.wrows.specs.declared.fault.AnswerFault.{AnswerFault}
use Rattle.wrows.specs.Columns.{Row, column_of, filter_of, in_range, value_on}
use Rattle.wrows.specs.Outcomes.{◌>>=◌}
use Rattle.wgroup.specs.declared.found.Groups as memory
use Rattle.wgroup.specs.Held.{column_over, set_answers}
use Rattle.wgroup.specs.Shared.{Feeds}
use Rattle.wgroup.proofs.ColumnFacts.{null_column}

-- what it comes to with a filter, if there is one
abbrev pub answers_fed : AggregatePlan → List memory.Groups → List Meaning → Option (List Bool) → Result (List Meaning) AnswerFault
answers_fed a sets values filter = in_range (flat_map (set_answers a.function (record { values = values; filter = filter })) sets)

module _ (a : AggregatePlan) (rows : List Row) (sets : List memory.Groups) (values : List Meaning) where
  abbrev answers_by : Feed → Result (List Meaning) AnswerFault
  answers_by feed = in_range (flat_map (set_answers a.function feed) sets)

  abbrev by_filter : List Meaning → Result (Option (List Bool)) AnswerFault → Result (List Meaning) AnswerFault
  by_filter fed filters = (filters >>= λ filter. Ok (record { values = fed; filter = filter })) >>= answers_by

  by_values : (r : Result (List Meaning) AnswerFault) (fed : List Meaning) → r ≡ Ok fed
      → (r >>= λ values. filter_of a.filter rows >>= λ filter. Ok (record { values = values; filter = filter })) >>= answers_by
      ≡ by_filter fed (filter_of a.filter rows)
  by_values r fed e = ap (λ r. (r >>= λ values. filter_of a.filter rows >>= λ filter. Ok (record { values = values; filter = filter }))
      >>= answers_by) e

  same : (filters : Result (Option (List Bool)) AnswerFault) → by_filter values filters ≡ filters >>= answers_fed a sets values
  same (Ok filter) = refl
  same (Err fault) = refl

  counted : (nulls : List Meaning) → a.function ≡ CountRows → (filters : Result (Option (List Bool)) AnswerFault)
      → by_filter nulls filters ≡ filters >>= answers_fed a sets values
  counted nulls e (Ok filter) =
      let by : AggregateFunction → List Meaning → Result (List Meaning) AnswerFault =
      λ function values. in_range (flat_map (set_answers function (record { values = values; filter = filter })) sets) in
      ap (λ function. by function nulls) e ∙ sym (ap (λ function. by function values) e)
  counted nulls e (Err fault) = refl

  pub column_fed : Feeds a rows values
      → column_over rows sets (GroupAggregate a) ≡ filter_of a.filter rows >>= answers_fed a sets values
  column_fed (inl e) = by_values (column_of a.argument rows) values e ∙ same (filter_of a.filter rows)
  column_fed (inr (f, n)) = by_values (column_of a.argument rows) (map (value_on (Constant Null)) rows)
      (ap (λ t. column_of t rows) n ∙ null_column rows) ∙ counted (map (value_on (Constant Null)) rows) f (filter_of a.filter rows)
