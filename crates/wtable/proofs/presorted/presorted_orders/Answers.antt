use Rattle.std.proofs.Common.{◌≡◌, List, length, map, Option, Some, None, Vec, ℕ, Global, Ok, sym, ap, ◌∙◌}
use Rattle.std.specs.Prelude.{IfSome, option_map}
use Rattle.std.proofs.lemmas.List.{length-map, length-reverse}
use Rattle.wvalues.specs.Meaning.{Meaning}
use Rattle.wplan.specs.Plans.{KeyPlan}
use Rattle.wrows.specs.Columns.{Row}
use Rattle.wrows.specs.Laid.{rows_seen}
use Rattle.wruns.specs.declared.refs.RowRef.{RowRef}
use Rattle.wtable.specs.TableOrders.{IsOrderFor, RowOrder, by_keys, presorted_numbers, told_of, told_presorted}
use Rattle.wtable.proofs.NumberFacts.{order_presorted}
use Rattle.wtable.proofs.presorted.presorted_orders.Goals as goal

-- the order of ORDER BY, if there is one
keys_of : (segments : List (List Row)) (plans : List KeyPlan) (rows : List Row) (f : List RowRef
    → List ℕ) (found : Option (Vec ℕ Global)) (order : Option (Vec RowRef Global)) → ((o : RowOrder) (refs : List RowRef)
    → IsOrderFor segments o refs → o rows ≡ Ok (f refs))
    → option_map (λ (n : Vec ℕ Global). n.items) found ≡ option_map (λ (r : Vec RowRef Global). f r.items) order
    → IfSome order (λ refs. (columns : List (List Meaning)) → IsOrderFor segments (by_keys plans columns) refs.items)
    → IfSome found (λ numbers. (columns : List (List Meaning)) → by_keys plans columns rows ≡ Ok numbers.items)
keys_of segments plans rows f None order presorted e h = tt
keys_of segments plans rows f (Some n) None presorted e h = absurd (cc)
keys_of segments plans rows f (Some n) (Some r) presorted e h = λ columns. let same : n.items ≡ f r.items = cc in
    presorted (by_keys plans columns) r.items (h columns) ∙ ap Ok (sym same)

pub returns-clause-orders : goal.returns-clause-orders
returns-clause-orders c = λ condition segments plans is are.
    let kept = c.args.kept.now in
    record {
      windows = c.in_ok-windows.ensures.orders condition segments is are.windows;
      keys = keys_of segments plans (rows_seen kept.rows.items) (presorted_numbers kept) c.in_ok-keys.keys
          c.args.orders.keys (order_presorted condition segments kept is) c.in_ok-keys.ensures are.keys;
    }

pub returns-clause-windows : goal.returns-clause-windows
returns-clause-windows c =
    let told = told_of c.args.kept.now in
    let made = c.in_ok-windows.windows.items in
    let orders = c.args.orders.windows.items in
    sym (length-map made told_presorted) ∙ ap length c.in_ok-windows.ensures.told ∙ length-reverse (map told orders)
    ∙ length-map orders told
