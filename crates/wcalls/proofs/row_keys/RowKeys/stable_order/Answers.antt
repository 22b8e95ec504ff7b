use Rattle.std.proofs.Common.{◌≡◌, ℕ, List, length, subst, sym, ap, arith}
use Rattle.std.specs.Prelude.{IfOk}
use Rattle.wrows.specs.CodedRows.{AreRowCodes}
use Rattle.wrows.proofs.KeyFacts.{sorted_by_row_codes}
use Rattle.wcalls.specs.Listed.{lists_in}
use Rattle.wcalls.proofs.row_keys.RowKeys.stable_order.Goals as goal

pub by_codes-requires : goal.by_codes-requires
by_codes-requires c = λ k d h.
    let answer : AreRowCodes c.args.self.now.orders.items (lists_in c.args.self.now.lists) c.in-Some.codes.items =
    rw c.in-Some.is at c.requires.codes in
    omega (arith, c.requires.below k d h, answer.len, ap length c.deref.ensures.value)

pub returns-in-Some : goal.returns-in-Some
returns-in-Some c =
    let keys = c.args.self.now.orders.items in
    let lists = lists_in c.args.self.now.lists in
    let answer : AreRowCodes keys lists c.in-Some.codes.items = rw c.in-Some.is at c.requires.codes in
    let here : AreRowCodes keys lists c.deref.result.now = subst (AreRowCodes keys lists) (sym c.deref.ensures.value) answer in
    let P : List ℕ → Type 0 = λ rows. IfOk c.by_codes.result (λ order. order.items ≡ rows) in
    subst P (sorted_by_row_codes keys lists c.deref.result.now c.args.rows.items here c.requires.below) c.by_codes.ensures
