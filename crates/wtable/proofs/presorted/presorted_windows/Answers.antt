use Rattle.std.proofs.Common.{◌≡◌, List, [], ◌∷◌, ◌++◌, ◌∙◌, ap, append_assoc, append-nil, arith, length, map, reverse, sym}
use Rattle.std.proofs.lemmas.List.{map-append, reverse-append}
use Rattle.std.specs.List.{AllByRecursion}
use Rattle.std.proofs.lemmas.List.Elements.{All-append, All-cons, All-nil, All-same, All-take, recursion_from_All}
use Rattle.wrows.specs.Laid.{rows_seen}
use Rattle.wtable.specs.TableOrders.{IsTableOrder, IsPresortedOf, told_of, told_presorted}
use Rattle.wtable.specs.declared.orders.TableOrder.{TableOrder}
use Rattle.wtable.proofs.presorted.presorted_windows.Goals as goal

last_of : (P : TableOrder → Type 0) (xs : List TableOrder) (x : TableOrder) → AllByRecursion P (xs ++ x ∷ []) → P x
last_of P [] x all = all.0
last_of P (y ∷ ys) x all = last_of P ys x all.1

module _ {X Y Z : Type 0} (f : X → Z) (g : Y → Z) where
  -- one more is told, of the last that was left
  one_told : (made more : List Y) (y : Y) (left rest : List X) (x : X) (whole : List Z) → more ≡ made ++ y ∷ []
      → left ≡ rest ++ x ∷ [] → g y ≡ f x → map g made ++ reverse (map f left) ≡ whole → map g more ++ reverse (map f rest) ≡ whole
  one_told made more y left rest x whole is split e before =
      ap (λ l. l ++ reverse (map f rest)) (ap (map g) is ∙ map-append g made (y ∷ []))
      ∙ append_assoc (map g made) (g y ∷ []) (reverse (map f rest))
      ∙ ap (λ z. map g made ++ z ∷ reverse (map f rest)) e
      ∙ ap (λ l. map g made ++ l) (sym (ap (λ l. reverse (map f l)) split ∙ ap reverse (map-append f rest (x ∷ []))
      ∙ reverse-append (map f rest) (f x ∷ []))) ∙ before

  all_told : (made : List Y) (left : List X) (whole : List Z) → length left ≡ 0 → map g made ++ reverse (map f left) ≡ whole
      → map g made ≡ whole
  all_told made [] whole none before = sym (append-nil (map g made)) ∙ before
  all_told made (x ∷ left) whole none before = absurd (omega (arith, none))

pub left-preserved : goal.left-preserved
left-preserved c = record {
  orders = λ condition segments is all.
      let before = c.left.invariant.orders condition segments is all in
      let P : TableOrder → Type 0 = IsTableOrder segments in
      let Q = IsPresortedOf (rows_seen c.args.kept.now.rows.items) in
      let rest = c.pop.new.self.items in
      let split : c.left.left.items ≡ rest ++ c.in-Some.order ∷ [] = c.in-Some.ensures.items in
      let last : P c.in-Some.order = last_of P rest c.in-Some.order (recursion_from_All P (rest ++ c.in-Some.order ∷ [])
      (All-same P (rest ++ c.in-Some.order ∷ []) c.left.left.items (sym split) before.0)) in (
        All-same P rest _ c.pop.ensures.rest (All-take P _ c.left.left.items before.0),
        All-same Q c.push.new.self.items _ c.in_ok-push.ensures.items (All-append Q c.left.presorted.items _ before.1
            (All-cons Q _ [] (c.in_ok-presorted_window.ensures.order condition segments is last) (All-nil Q))),
      );
  told = one_told (told_of c.args.kept.now) told_presorted c.left.presorted.items c.push.new.self.items c.in_ok-presorted_window.field-0
      c.left.left.items c.pop.new.self.items c.in-Some.order _ c.in_ok-push.ensures.items c.in-Some.ensures.items
      c.in_ok-presorted_window.ensures.told c.left.invariant.told;
}

pub returns-clause-told : goal.returns-clause-told
returns-clause-told c =
    let none : length c.left.left.items ≡ 0 = sym c.left.left.ok.0 ∙ c.in_default.ensures.cases.0 in
    all_told (told_of c.args.kept.now) told_presorted c.left.presorted.items c.left.left.items _ none c.left.invariant.told
