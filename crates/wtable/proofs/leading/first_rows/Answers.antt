use Rattle.std.proofs.Common.{◌++◌, List, [], append-nil, length, length-append, take, sym, ap, ◌∙◌, arith}
use Rattle.std.specs.List.{flat_map}
use Rattle.wrows.specs.Columns.{Row}
use Rattle.wtable.specs.Leading.{rows_by}
use Rattle.wtable.specs.Tables.{rows_of_set}
use Rattle.wtable.proofs.SourceFacts.{gone_within, more_rows, set_rows}
use Rattle.wtable.proofs.leading.first_rows.Goals as goal

pub segments-init : goal.segments-init
segments-init c =
    record {
      leads = (
        [],
        c.new-leading.ensures.leads c.args.keys.now c.args.most,
        omega (arith, c.new-leading.ensures.few, c.new-leading.ensures.cuts),
        ap (flat_map (λ e. e.1.rows)) c.into_iter-kept-iterator.ensures.into_iter_gives
            ∙ set_rows c.args.set.now c.lives-kept-items.result c.lives-kept-items.ensures,
      );
      few = omega (arith, c.new-leading.ensures.few);
    }

pub segments-preserved : goal.segments-preserved
segments-preserved c =
    let all = c.segments.invariant.leads.0 in
    let next : List Row = c.in_ok-segment.segment.now.rows in
    record {
      leads = (
        all ++ next,
        c.in_ok-whole.ensures.leads all c.segments.invariant.leads.1 c.if-not-whole.false,
        omega (arith, c.in_ok-whole.ensures.gone (length all) c.segments.invariant.leads.2, length-append all next),
        more_rows all (all ++ next) (rows_of_set c.args.set.now) _ _ _ c.in-Some.ensures.steps
            c.segments.invariant.leads.3 (ap (λ content. all ++ content.rows) c.in_ok-segment.ensures),
      );
      few = c.in_ok-whole.ensures.few c.segments.invariant.few;
    }

pub returns-then-not-whole-clause-given : goal.returns-then-not-whole-clause-given
returns-then-not-whole-clause-given c =
    let all = c.segments.invariant.leads.0 in
    let next : List Row = c.in_ok-segment.segment.now.rows in
    let within = gone_within all (all ++ next) (rows_of_set c.args.set.now) _ _ _ c.in-Some.ensures.steps c.segments.invariant.leads.3
    (ap (λ content. all ++ content.rows) c.in_ok-segment.ensures) in
    omega (
      arith,
      c.in_ok-whole.ensures.gone (length all) c.segments.invariant.leads.2,
      c.in_ok-whole.ensures.cuts c.if-not-whole.true,
      length-append all next,
      within,
    )

pub returns-clause-leads : goal.returns-clause-leads
returns-clause-leads c =
    let all = c.segments.invariant.leads.0 in
    λ more. c.segments.invariant.leads.1.first more ∙ ap (λ rows. take c.args.most (rows_by c.args.keys.now (rows ++ more)))
    (sym (append-nil all) ∙ ap (λ l. all ++ flat_map (λ e. e.1.rows) l) (sym c.in-None.ensures.steps.0) ∙ c.segments.invariant.leads.3)

pub returns-clause-few : goal.returns-clause-few
returns-clause-few c = c.segments.invariant.few
