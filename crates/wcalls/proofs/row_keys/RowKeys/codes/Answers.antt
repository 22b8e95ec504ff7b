use Rattle.std.proofs.Common.{◌≡◌, false, length, subst, ap, ◌∙◌, arith, rules}
use Rattle.std.specs.Prelude.{◌≤◌, ◌^◌}
use Rattle.wrows.specs.CodedRows.{key_column, key_of, values_seen, AreCodes}
use Rattle.wrows.proofs.RowFacts.{same_at}
use Rattle.wcalls.specs.Listed.{lists_in}
use Rattle.wcalls.proofs.ListFacts.{one_key_codes}
use Rattle.wcalls.proofs.row_keys.RowKeys.codes.Goals as goal

pub returns-clause-codes : goal.returns-clause-codes
returns-clause-codes c =
    let keys = c.args.self.now in
    let orders = keys.orders.items in
    let codes = c.in_ok-codes.codes.items in
    let column = key_column 0 (lists_in keys.lists) in
    let one : length orders ≡ 1 = search rules in
    let few : length (lists_in keys.lists) ≤ 2 ^ 32 = search rules in
    let key : c.index.result.now ≡ key_of orders 0 = c.index.ensures ∙ same_at orders 0 c.index.result.now
    (record { col = 0; desc = false; nulls_first = false }) (omega (arith, one)) in
    let seen : values_seen c.deref.result.now ≡ column = ap values_seen c.deref.ensures.value ∙ c.in_ok-column.ensures in
    let answer : AreCodes (key_of orders 0) column codes =
    subst (λ k. AreCodes k column codes) key (subst (λ l. AreCodes c.index.result.now l codes) seen c.in_ok-codes.ensures) in
    one_key_codes keys.lists orders codes keys.wide one few answer
