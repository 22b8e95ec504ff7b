use Rattle.std.proofs.Common.{◌≡◌, Bool, true, false, get_or, sym, ap, ◌∙◌, rules}
use Rattle.std.specs.Ordering.{is_eq}
use Rattle.std.specs.Prelude.{IsTrue}
use Rattle.wvalues.specs.declared.key.SortKey.{SortKey}
use Rattle.wvalues.specs.Meaning.{Meaning, Null}
use Rattle.wvalues.specs.Order.{key_cmp}
use Rattle.wframe.specs.KeyList.{list_in}
use Rattle.wframe.proofs.ValueFacts.{keys_then, equal_then, other_then, same_decides}
use Rattle.wframe.proofs.order.are_equal.Goals as goal

-- whether two values are the same is told of what they say, by whatever key
told_by : (k : SortKey) (told : Bool) (x y a b : Meaning) → x ≡ a → y ≡ b → (IsTrue told → x ≡ y) → (x ≡ y → IsTrue told)
    → told ≡ is_eq (key_cmp k a b)
told_by k told x y a b e f there back =
    same_decides k x y told there back ∙ ap (λ v. is_eq (key_cmp k v y)) e ∙ ap (λ v. is_eq (key_cmp k a v)) f

pub returns-then-not-is_same : goal.returns-then-not-is_same
returns-then-not-is_same c =
    let step = keys_then c.args.keys.now (list_in c.args.a.now) (list_in c.args.b.now) c.loop-i.i c.loop-i-test.true
    c.requires.a c.requires.b in
    let told : c.is_same.result ≡ is_eq (key_cmp step.0 (get_or (list_in c.args.a.now) c.loop-i.i Null)
    (get_or (list_in c.args.b.now) c.loop-i.i Null)) = told_by step.0 _ _ _ _ _ c.value.ensures c.value-in-loop-i.ensures
    c.is_same.ensures.0 c.is_same.ensures.1 in
    let other : c.is_same.result ≡ false = search rules in
    sym (sym c.loop-i.invariant ∙ ap is_eq step.1 ∙ other_then _ _ (sym told ∙ other))

pub loop-i-preserved : goal.loop-i-preserved
loop-i-preserved c =
    let step = keys_then c.args.keys.now (list_in c.args.a.now) (list_in c.args.b.now) c.loop-i.i c.loop-i-test.true
    c.requires.a c.requires.b in
    let told : c.is_same.result ≡ is_eq (key_cmp step.0 (get_or (list_in c.args.a.now) c.loop-i.i Null)
    (get_or (list_in c.args.b.now) c.loop-i.i Null)) = told_by step.0 _ _ _ _ _ c.value.ensures c.value-in-loop-i.ensures
    c.is_same.ensures.0 c.is_same.ensures.1 in
    let same : c.is_same.result ≡ true = search rules in
    sym (equal_then _ _ (sym told ∙ same)) ∙ ap is_eq (sym step.1) ∙ c.loop-i.invariant
