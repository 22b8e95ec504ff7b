use Rattle.std.proofs.Common.{Ok, length, map, take, sym, ap, ◌∙◌}
use Rattle.std.specs.Ordering.{on}
use Rattle.wvalues.specs.Order.{keys_cmp}
use Rattle.wframe.specs.Places.{places}
use Rattle.wframe.specs.Sorting.{sorted}
use Rattle.wrows.specs.Extended.{extended_rows, picked_of}
use Rattle.wrows.specs.Plain.{numbers_by}
use Rattle.wrows.proofs.FirstFacts.{found_is, sorted_listed}
use Rattle.wrows.proofs.PickFacts.{beside_long, picked_lists}
use Rattle.wrows.proofs.RowFacts.{then_ok}
use Rattle.wrows.proofs.first_rows.selected_plain.Goals as goal

pub returns : goal.returns
returns c =
    let n = length c.args.extended.now.rows.now in
    let keys = c.args.keys.now in
    let most = c.args.most in
    let all = extended_rows c.args.extended.now in
    let key = picked_of c.args.places.now c.args.extended.now in
    found_is (λ numbers. numbers.items) c.in_ok-found.found (take most (sorted (on key (keys_cmp keys)) (places n))) _ c.in_ok-found.ensures
    (then_ok (map key (places n)) _ (λ by. Ok (take most (numbers_by keys by (length all))))
    (picked_lists c.args.places.now c.args.extended.now.rows.now c.args.extended.now.columns.now)
    ∙ ap (λ k. Ok (take most (numbers_by keys (map key (places n)) k)))
    (beside_long c.args.extended.now.rows.now c.args.extended.now.columns.now)
    ∙ ap (λ l. Ok (take most l)) (sym (sorted_listed keys key n)))
