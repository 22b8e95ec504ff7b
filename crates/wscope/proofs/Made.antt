-- The names of a query in memory, as a scope finds them.
use Rattle.std.proofs.Common.{◌≡◌, ℕ, List, ap, sym, ◌∙◌, map, is_some}
use Rattle.std.specs.BTreeMap.{BTreeMap, get}
use Rattle.std.specs.Borrow.{Bor}
use Rattle.std.specs.List.{list_any}
use Rattle.wquery.specs.QueryTree.{view_item}
use Rattle.wquery.specs.declared.query.Item.{Item}
use Rattle.wscope.specs.Called.{has_unlike}
use Rattle.wscope.specs.Outputs.{IsIndex, has_two}
use Rattle.wscope.specs.Scope.{item_has_name}
use Rattle.wscope.specs.Sources.{written_out}
use Rattle.wscope.specs.Texts.{by_text}
use Rattle.wscope.specs.Types.{Titled}
use Rattle.wscope.specs.declared.called.Called.{Called}
use Rattle.wscope.proofs.Indexed.{found_some}
use Rattle.wscope.proofs.WrittenOut.{item_named}

pub named_by : (m : BTreeMap (Bor (List ℕ)) Called) (cs : List Titled) (xs ys : List Item) → xs ≡ ys
    → IsIndex m cs (written_out cs (map view_item xs)) → (n : Bor (List ℕ))
    → is_some (get by_text m n) ≡ list_any (item_has_name cs n.now) (map view_item ys)
named_by m cs xs ys e h n =
    found_some (get by_text m n) ∙ ap is_some (h.first n) ∙ sym (item_named n.now cs (map view_item xs))
    ∙ ap (λ (zs : List Item). list_any (item_has_name cs n.now) (map view_item zs)) e

pub two_by : (m : BTreeMap (Bor (List ℕ)) Called) (cs : List Titled) (xs ys : List Item) → xs ≡ ys
    → IsIndex m cs (written_out cs (map view_item xs)) → (n : Bor (List ℕ))
    → has_two (get by_text m n) ≡ has_unlike cs (map view_item ys) n.now
two_by m cs xs ys e h n = h.two n ∙ ap (λ (zs : List Item). has_unlike cs (map view_item zs) n.now) e
