use Rattle.std.proofs.Common.{◌≡◌, ◌≤◌, ◌-◌, Bool, List, length, take, get_or, subst, sym, ap, ◌∙◌, rules}
use Rattle.std.specs.Prelude.{IfSome}
use Rattle.std.specs.Borrow.{Bor}
use Rattle.std.specs.Cmp.{IsStrictWeakOrder}
use Rattle.std.specs.Ordering.{on, is_lt}
use Rattle.std.proofs.lemmas.Cmp.{on_total}
use Rattle.std.proofs.lemmas.List.Sorted.{ranks_by}
use Rattle.std.proofs.lemmas.Fn.{always_returns_same}
use Rattle.wvalues.specs.Order.{keys_cmp}
use Rattle.wvalues.specs.OrderLaws.{keys_total}
use Rattle.wvalues.specs.Meaning.{Meaning}
use Rattle.wvalues.specs.declared.value.Value.{Value}
use Rattle.wframe.specs.Sorting.{sorted}
use Rattle.wframe.proofs.SortFacts.{stable_is_sorted}
use Rattle.wrows.proofs.MoreSorting.{sorted_map}
use Rattle.wrows.specs.Laid.{row_seen, rows_seen}
use Rattle.wrows.proofs.RowFacts.{map-taken}
use Rattle.wruns.specs.Runs.{row_keys}
use Rattle.wtable.specs.Leading.{row_cmp}
use Rattle.wtable.proofs.LeadingFacts.{last_left, pruned}
use Rattle.wtable.proofs.leading.LeadingRows.prune.Goals as goal

pub returns-clause-leads : goal.returns-clause-leads
returns-clause-leads c = λ all lead.
    let keys = c.args.keys.now in
    let held : List (Bor (List Value)) = c.args.self.now.rows.items in
    let key : Bor (List Value) → List Meaning = λ row. row_keys keys (row_seen row) in
    let lt : Bor (List Value) → Bor (List Value) → Bool = λ a b. is_lt (on key (keys_cmp keys) a b) in
    let ranks : IsStrictWeakOrder lt = ranks_by (keys_total keys) key in
    let in_order : c.sort_by.new.self.items ≡ sorted (on key (keys_cmp keys)) held =
    stable_is_sorted (on key (keys_cmp keys)) (on_total key (keys_total keys)) held c.sort_by.new.self.items
    (c.in_ok-sort_by.ensures.sorted lt ranks (always_returns_same _ _ _ (λ a r g called. (ap is_lt (search rules), search rules))))
    (c.sort_by.ensures.stable lt ranks (always_returns_same _ _ _ (λ a r g called. (ap is_lt (search rules), search rules)))) in
    pruned keys c.args.most all c.args.self.now _ c.requires lead
    (ap rows_seen (c.truncate.ensures.items ∙ ap (take c.args.most) in_order)
    ∙ map-taken row_seen c.args.most (sorted (on key (keys_cmp keys)) held)
    ∙ ap (take c.args.most) (sym (sorted_map (row_cmp keys) row_seen held)))
    (subst (λ rows. IfSome c.last_of-self.result (λ last. c.args.most ≤ length rows)) c.deref.ensures.value c.last_of-self.ensures.within)
    (subst (λ rows. IfSome c.last_of-self.result (λ last. last ≡ get_or rows (c.args.most - 1) last)) c.deref.ensures.value
    c.last_of-self.ensures.last)

pub returns-clause-last : goal.returns-clause-last
returns-clause-last c =
    let keys = c.args.keys.now in
    let held : List (Bor (List Value)) = c.args.self.now.rows.items in
    let key : Bor (List Value) → List Meaning = λ row. row_keys keys (row_seen row) in
    let lt : Bor (List Value) → Bor (List Value) → Bool = λ a b. is_lt (on key (keys_cmp keys) a b) in
    let ranks : IsStrictWeakOrder lt = ranks_by (keys_total keys) key in
    let in_order : c.sort_by.new.self.items ≡ sorted (on key (keys_cmp keys)) held =
    stable_is_sorted (on key (keys_cmp keys)) (on_total key (keys_total keys)) held c.sort_by.new.self.items
    (c.in_ok-sort_by.ensures.sorted lt ranks (always_returns_same _ _ _ (λ a r g called. (ap is_lt (search rules), search rules))))
    (c.sort_by.ensures.stable lt ranks (always_returns_same _ _ _ (λ a r g called. (ap is_lt (search rules), search rules)))) in
    last_left keys c.args.most held c.truncate.new.self.items c.last_of-self.result c.requires
    (ap rows_seen (c.truncate.ensures.items ∙ ap (take c.args.most) in_order)
    ∙ map-taken row_seen c.args.most (sorted (on key (keys_cmp keys)) held)
    ∙ ap (take c.args.most) (sym (sorted_map (row_cmp keys) row_seen held)))
    (subst (λ rows. IfSome c.last_of-self.result (λ last. c.args.most ≤ length rows)) c.deref.ensures.value c.last_of-self.ensures.within)
    (subst (λ rows. IfSome c.last_of-self.result (λ last. last ≡ get_or rows (c.args.most - 1) last)) c.deref.ensures.value
    c.last_of-self.ensures.last)
