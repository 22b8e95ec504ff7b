use Rattle.std.proofs.Common.{Bool, true, false, ℕ, ◌+◌, ◌≤◌, cond, [], ◌∷◌, length, map, ap, ◌∙◌, arith}
use Rattle.std.proofs.lemmas.List.{map-append}
use Rattle.wcolumns.specs.Columns.{columns_in}
use Rattle.wplan.specs.Plans.{call_plan}
use Rattle.wplanner.proofs.CallFacts.{sound_functions}
use Rattle.wrows.specs.Laid.{rows_seen}
use Rattle.wplanner.proofs.SelectFacts.{joins_refused, joins_answered, sound_window_at, window_answered}
use Rattle.wplanner.proofs.windows.window_answers.Goals as goal

-- at most one order more
made_more : (shared : Bool) (first old new i : ℕ) → old ≤ first + i → new ≤ old + cond shared 0 1 → new ≤ first + (i + 1)
made_more true first old new i so_far here =
    let bound : new ≤ old + 0 = here in
    omega arith
made_more false first old new i so_far here =
    let bound : new ≤ old + 1 = here in
    omega arith

pub answers_over-requires-clause-window : goal.answers_over-requires-clause-window
answers_over-requires-clause-window c = sound_window_at c.args.windows.now c.loop-number.number
    c.index-windows-number.result c.loop-number-test.true c.index-windows-number.is c.requires.windows

pub answers_over-requires-clause-functions : goal.answers_over-requires-clause-functions
answers_over-requires-clause-functions c = sound_functions (length c.args.windows.now) c.loop-number.number
    (map call_plan c.args.calls.now) c.requires.calls

pub returns-in-Err-clause-joins : goal.returns-in-Err-clause-joins
returns-in-Err-clause-joins c =
    joins_refused (length c.args.rows.now) (map call_plan c.args.calls.now) c.args.windows.now c.loop-number.number
    c.index-windows-number.result c.loop-number.work.joins c.answers_over.new.work.joins _ c.loop-number-test.true
    c.index-windows-number.is c.loop-number.invariant.joins c.in-Err.ensures.joins

pub returns-in_err-push-in-Ok-clause-joins : goal.returns-in_err-push-in-Ok-clause-joins
returns-in_err-push-in-Ok-clause-joins c =
    joins_refused (length c.args.rows.now) (map call_plan c.args.calls.now) c.args.windows.now c.loop-number.number
    c.index-windows-number.result c.loop-number.work.joins c.answers_over.new.work.joins _ c.loop-number-test.true
    c.index-windows-number.is c.loop-number.invariant.joins c.in-Ok.ensures.joins

pub loop-number-preserved : goal.loop-number-preserved
loop-number-preserved c =
    let ws = c.args.windows.now in
    let w = c.index-windows-number.result in
    let calls = map call_plan c.args.calls.now in
    record {
      so_far = window_answered (rows_seen c.args.rows.now) calls ws (map columns_in c.loop-number.answers.items)
          (map columns_in c.push.new.self.items) c.loop-number.number w (columns_in c.in-Ok.columns) _ c.loop-number-test.true
          c.index-windows-number.is c.loop-number.invariant.so_far c.in-Ok.ensures.columns
          (ap (map columns_in) c.in_ok-push-in-Ok.ensures.items ∙ map-append columns_in c.loop-number.answers.items (_ ∷ []));
      kept = c.in-Ok.ensures.kept;
      presorted = c.in-Ok.ensures.presorted;
      made = made_more _ c.args.work.now.orders c.loop-number.work.orders c.answers_over.new.work.orders
          c.loop-number.number c.loop-number.invariant.made c.in-Ok.ensures.made;
      joins = joins_answered (length c.args.rows.now) calls ws c.loop-number.number w c.loop-number.work.joins
          c.answers_over.new.work.joins _ c.loop-number-test.true c.index-windows-number.is c.loop-number.invariant.joins
          c.in-Ok.ensures.joins;
    }
