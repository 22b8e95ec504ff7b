-- The least row of a list, one row after another.
use Rattle.std.proofs.Common.{◌≡◌, ℕ, Bool, true, false, List, [], ◌∷◌, ◌++◌, Option, Some, None}
use Rattle.std.proofs.Common.{map, append_assoc, sym, ap, ◌∙◌, subst, refl, cond, get_or}
use Rattle.std.specs.Prelude.{All}
use Rattle.std.specs.List.{fold}
use Rattle.std.specs.Ordering.{is_lt, is_gt}
use Rattle.std.specs.Cmp.{IsTotalOrder}
use Rattle.std.specs.declared.cmp.Ordering.{Ordering}
use Rattle.std.proofs.lemmas.List.{append-nil}
use Rattle.std.proofs.lemmas.List.Elements.{All-nil, All-push, All-append, All-same}
use Rattle.wvalues.specs.Meaning.{Meaning, Null}
use Rattle.wslide.specs.Aggregates.{passes, fed, is_value, IsLeast, IsLeastBetween}
use Rattle.wslide.specs.Leasts.{leasts_joined, place_at, value_at, is_less_right}
use Rattle.wslide.specs.Lawful.{less_chain, less_upto, lt_is_gt}

own : (b : Bool) (v : Meaning) → is_value (cond b v Null) ≡ true → cond b v Null ≡ v
own true v h = refl
own false v h = absurd (cc)

differ : {P : Type 0} (b : Bool) → b ≡ false → b ≡ true → P
differ b e f = absurd (cc)

module _ {order : Meaning → Meaning → Ordering} (total : IsTotalOrder order) (values : List Meaning) (filter : Option (List Bool)) where
  -- a row that feeds a value feeds its own
  fed_own : (row : ℕ) → is_value (fed values filter row) ≡ true → fed values filter row ≡ value_at values row
  fed_own row h = own (passes filter row) (value_at values row) h

  -- the row after the list feeds nothing
  step_null : (seen : List ℕ) (x : ℕ) (least : Option ℕ) → is_value (fed values filter x) ≡ false
      → IsLeast order (fed values filter) seen least → IsLeast order (fed values filter) (seen ++ x ∷ []) least
  step_null seen x None e h = All-push (λ row. is_value (fed values filter row) ≡ false) seen x h e
  step_null seen x (Some i) e (left, right, h) = (
    left,
    right ++ x ∷ [],
    record {
      cut = ap (λ rows. rows ++ x ∷ []) h.cut ∙ append_assoc left (i ∷ right) (x ∷ []);
      feeds = h.feeds;
      before = h.before;
      after = All-push (λ row. is_value (fed values filter row) ≡ true
          → is_gt (order (fed values filter i) (fed values filter row)) ≡ false) right x h.after
          (λ t. differ (is_value (fed values filter x)) e t);
    },
  )

  -- the row after the list is its least
  step_first : (seen : List ℕ) (x : ℕ) → is_value (fed values filter x) ≡ true
      → All (λ row. is_value (fed values filter row) ≡ true → is_lt (order (fed values filter x) (fed values filter row))
      ≡ true) seen → IsLeast order (fed values filter) (seen ++ x ∷ []) (Some x)
  step_first seen x e h = (
    seen,
    [],
    record {
      cut = refl;
      feeds = e;
      before = h;
      after =
          All-nil (λ row. is_value (fed values filter row) ≡ true → is_gt (order (fed values filter x) (fed values filter row)) ≡ false);
    },
  )

  -- it comes before each row of the list, if it comes before the least
  all_less : (seen left right : List ℕ) (i x : ℕ) → IsLeastBetween order (fed values filter) seen left i right
      → is_lt (order (fed values filter x) (fed values filter i)) ≡ true
      → All (λ row. is_value (fed values filter row) ≡ true → is_lt (order (fed values filter x) (fed values filter row)) ≡ true) seen
  all_less seen left right i x h lt =
      let P = λ (row : ℕ). is_value (fed values filter row) ≡ true → is_lt (order (fed values filter x) (fed values filter row)) ≡ true in
      let feed = fed values filter in
      let lefts : All P left = λ k d b t. less_chain total (feed x) (feed i) (feed (get_or left k d)) lt (h.before k d b t) in
      let rights : All P right = λ k d b t. less_upto total (feed x) (feed i) (feed (get_or right k d)) lt (h.after k d b t) in
      All-same P seen (left ++ i ∷ right) h.cut (All-append P left (i ∷ right) lefts
      (All-append P (i ∷ []) right (All-push P [] i (All-nil P) (λ t. lt)) rights))

  step_later : (seen : List ℕ) (x i : ℕ) → is_value (fed values filter x) ≡ true
      → is_lt (order (fed values filter x) (fed values filter i)) ≡ false → IsLeast order (fed values filter) seen (Some i)
      → IsLeast order (fed values filter) (seen ++ x ∷ []) (Some i)
  step_later seen x i e ge (left, right, h) = (
    left,
    right ++ x ∷ [],
    record {
      cut = ap (λ rows. rows ++ x ∷ []) h.cut ∙ append_assoc left (i ∷ right) (x ∷ []);
      feeds = h.feeds;
      before = h.before;
      after = All-push (λ row. is_value (fed values filter row) ≡ true
          → is_gt (order (fed values filter i) (fed values filter row)) ≡ false) right x h.after
          (λ t. sym (lt_is_gt total (fed values filter x) (fed values filter i)) ∙ ge);
    },
  )

  -- whether the row after the list has a smaller value than the least
  step_less : (seen : List ℕ) (x i : ℕ) (b : Bool) → is_value (fed values filter x) ≡ true
      → is_less_right order values i x ≡ b → IsLeast order (fed values filter) seen (Some i)
      → IsLeast order (fed values filter) (seen ++ x ∷ []) (cond b (Some x) (Some i))
  step_less seen x i true e t (left, right, h) =
      let lt : is_lt (order (fed values filter x) (fed values filter i)) ≡ true = rw (fed_own x e, fed_own i h.feeds) t in
      step_first seen x e (all_less seen left right i x h lt)
  step_less seen x i false e t (left, right, h) =
      let ge : is_lt (order (fed values filter x) (fed values filter i)) ≡ false = rw (fed_own x e, fed_own i h.feeds) t in
      step_later seen x i e ge (left, right, h)

  step_value : (seen : List ℕ) (x : ℕ) (least : Option ℕ) → is_value (fed values filter x) ≡ true
      → IsLeast order (fed values filter) seen least
      → IsLeast order (fed values filter) (seen ++ x ∷ []) (leasts_joined order values least (Some x))
  step_value seen x None e h = step_first seen x e (λ k d b t. differ (is_value (fed values filter (get_or seen k d))) (h k d b) t)
  step_value seen x (Some i) e h = step_less seen x i (is_less_right order values i x) e refl h

  right_none : (least : Option ℕ) → leasts_joined order values least None ≡ least
  right_none None = refl
  right_none (Some i) = refl

  step_by : (seen : List ℕ) (x : ℕ) (least : Option ℕ) (b : Bool) → is_value (fed values filter x) ≡ b
      → IsLeast order (fed values filter) seen least
      → IsLeast order (fed values filter) (seen ++ x ∷ []) (leasts_joined order values least (cond b (Some x) None))
  step_by seen x least true e h = step_value seen x least e h
  step_by seen x least false e h = subst (IsLeast order (fed values filter) (seen ++ x ∷ [])) (sym (right_none least))
      (step_null seen x least e h)

  from : (seen rows : List ℕ) (least : Option ℕ) → IsLeast order (fed values filter) seen least
      → IsLeast order (fed values filter) (seen ++ rows) (fold (leasts_joined order values) least (map (place_at values filter) rows))
  from seen [] least h = subst (λ rows. IsLeast order (fed values filter) rows least) (sym (append-nil seen)) h
  from seen (x ∷ rows) least h =
      let next = leasts_joined order values least (place_at values filter x) in
      subst (λ all. IsLeast order (fed values filter) all (fold (leasts_joined order values) next
      (map (place_at values filter) rows))) (append_assoc seen (x ∷ []) rows)
      (from (seen ++ x ∷ []) rows next (step_by seen x least (is_value (fed values filter x)) refl h))

  -- the fold of the places is the least row
  pub least_row : (rows : List ℕ) → IsLeast order (fed values filter) rows (fold (leasts_joined order values) None
      (map (place_at values filter) rows))
  least_row rows = from [] rows None (All-nil (λ row. is_value (fed values filter row) ≡ false))
