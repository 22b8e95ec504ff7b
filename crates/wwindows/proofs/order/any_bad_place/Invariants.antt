use Rattle.std.proofs.Common.{◌≡◌, drop, map}
use Rattle.std.specs.List.{list_any}
use Rattle.wquery.specs.Tree.{view_key, KeyTree}
use Rattle.wwindows.specs.Order.{is_bad_place}
use Rattle.wwindows.proofs.order.any_bad_place.Given as goal

abbrev pub invariant-keys : goal.invariant-keys
invariant-keys l = list_any (λ (k : KeyTree). is_bad_place l.count k.expression) (map view_key l.order)
    ≡ list_any (λ (k : KeyTree). is_bad_place l.count k.expression) (map view_key (drop l.key-index l.order))
