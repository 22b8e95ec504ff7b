use Rattle.std.proofs.Common.{◌≡◌, List, length, subst, sym, ap, ◌∙◌, arith}
use Rattle.std.specs.Prelude.{IfOk}
use Rattle.std.specs.Ordering.{on}
use Rattle.wvalues.specs.declared.key.SortKey.{SortKey}
use Rattle.wvalues.specs.Meaning.{Meaning}
use Rattle.wvalues.specs.Order.{keys_cmp}
use Rattle.wframe.specs.Peers.{key_at}
use Rattle.wframe.specs.Sorting.{sorted}
use Rattle.wcalls.specs.Listed.{lists_in, width_of}
use Rattle.wcalls.proofs.ListFacts.{laid_count, plain_count}
use Rattle.wcalls.proofs.row_keys.RowKeys.by_values.Goals as goal

pub laid_order-requires-clause-wide : goal.laid_order-requires-clause-wide
laid_order-requires-clause-wide c = ap width_of (sym c.in-Evaluated.is) ∙ c.args.self.now.wide ∙ ap length (sym c.deref.ensures.value)

pub laid_order-requires-clause-below : goal.laid_order-requires-clause-below
laid_order-requires-clause-below c = λ k d h. omega (
  arith,
  c.requires k d h,
  laid_count c.args.self.now.lists
      c.in-Evaluated.cells c.in-Evaluated.is,
)

pub copied_order-requires-clause-wide : goal.copied_order-requires-clause-wide
copied_order-requires-clause-wide c = ap width_of (sym c.in-Plain.is) ∙ c.args.self.now.wide
    ∙ ap length (sym c.deref-in-Plain.ensures.value)

pub copied_order-requires-clause-below : goal.copied_order-requires-clause-below
copied_order-requires-clause-below c = λ k d h. omega (
  arith,
  c.requires k d h,
  plain_count c.args.self.now.lists
      c.in-Plain.columns c.in-Plain.is,
)

pub returns-in-Evaluated : goal.returns-in-Evaluated
returns-in-Evaluated c =
    let P : List (List Meaning) → List SortKey → Type 0 =
    λ lists orders. IfOk c.laid_order.result (λ order. order.items ≡ sorted (on (key_at lists) (keys_cmp orders)) c.args.rows.items) in
    subst (λ orders. P (lists_in c.args.self.now.lists) orders) c.deref.ensures.value
    (subst (λ lists. P lists c.deref.result.now) (ap lists_in (sym c.in-Evaluated.is)) c.laid_order.ensures)

pub returns-in-Plain : goal.returns-in-Plain
returns-in-Plain c =
    let P : List (List Meaning) → List SortKey → Type 0 = λ lists orders. IfOk c.copied_order.result (λ order. order.items
    ≡ sorted (on (key_at lists) (keys_cmp orders)) c.args.rows.items) in
    subst (λ orders. P (lists_in c.args.self.now.lists) orders) c.deref-in-Plain.ensures.value
    (subst (λ lists. P lists c.deref-in-Plain.result.now) (ap lists_in (sym c.in-Plain.is)) c.copied_order.ensures)
