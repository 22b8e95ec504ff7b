use Rattle.std.proofs.Common.{Ok, sym, subst, ap, ◌∙◌}
use Rattle.wplan.specs.Plans.{window_plan}
use Rattle.wcalls.specs.PresortedRows.{KeysDiffer}
use Rattle.wtable.specs.TableOrders.{by_window, holds_by, presorted_numbers}
use Rattle.wtable.proofs.NumberFacts.{numbers_are}
use Rattle.wtable.proofs.presorted.presorted_window.Goals as goal

pub returns-clause-order : goal.returns-clause-order
returns-clause-order c = λ condition segments is of.
    let plan = window_plan c.args.order.window.now in
    record {
      numbers = ap (by_window plan) is.rows ∙ of.order.orders (holds_by condition)
          ∙ ap Ok (sym (c.in_ok-numbers.ensures ∙ ap (presorted_numbers c.args.kept.now) c.deref.ensures.value
          ∙ numbers_are condition segments c.args.kept.now is c.args.order.rows.items of.order.within));
      differ = λ known. subst (λ rows. KeysDiffer rows plan) (sym is.rows) (of.differ known (holds_by condition));
    }

pub returns-clause-told : goal.returns-clause-told
returns-clause-told c = ap (λ numbers. (c.args.order.window.now, (numbers, c.args.order.unique_keys)))
    (c.in_ok-numbers.ensures ∙ ap (presorted_numbers c.args.kept.now) c.deref.ensures.value)
