use Rattle.std.proofs.Common.{◌≡◌, false, not, length, subst, ap, ◌∙◌, List, arith, rules}
use Rattle.std.specs.Prelude.{◌≤◌, ◌^◌, IfSome}
use Rattle.wvalues.specs.declared.key.SortKey.{SortKey}
use Rattle.wvalues.specs.Meaning.{Meaning}
use Rattle.wrows.specs.CodedRows.{key_column, key_of, leads_with_text, values_seen, AreCodes}
use Rattle.wrows.proofs.RowFacts.{same_at}
use Rattle.wcalls.specs.Listed.{lists_in}
use Rattle.wcalls.proofs.ListFacts.{found_just, one_key_found}
use Rattle.wcalls.proofs.row_keys.RowKeys.number_codes.Goals as goal

pub returns-clause-codes : goal.returns-clause-codes
returns-clause-codes c =
    let keys = c.args.self.now in
    let orders = keys.orders.items in
    let found = c.in_ok-found.found in
    let column = key_column 0 (lists_in keys.lists) in
    let one : length orders ≡ 1 = search rules in
    let few : length (lists_in keys.lists) ≤ 2 ^ 32 = search rules in
    let key : c.index.result.now ≡ key_of orders 0 = c.index.ensures ∙ same_at orders 0 c.index.result.now
    (record { col = 0; desc = false; nulls_first = false }) (omega (arith, one)) in
    let seen : values_seen c.deref.result.now ≡ column = ap values_seen c.deref.ensures.value ∙ c.in_ok-column.ensures in
    let P : SortKey → List Meaning → Type 0 = λ k values. IfSome found (λ codes. AreCodes k values codes.items) in
    one_key_found keys.lists orders found keys.wide one few
    (subst (λ k. P k column) key (subst (λ values. P c.index.result.now values) seen c.in_ok-found.ensures.codes))

pub returns-clause-found : goal.returns-clause-found
returns-clause-found c = λ one few.
    let seen : values_seen c.deref.result.now ≡ key_column 0 (lists_in c.args.self.now.lists)
    = ap values_seen c.deref.ensures.value ∙ c.in_ok-column.ensures in
    found_just c.in_ok-found.found (leads_with_text (values_seen c.deref.result.now)) c.in_ok-found.ensures.numbers
    ∙ ap (λ values. not (leads_with_text values)) seen
