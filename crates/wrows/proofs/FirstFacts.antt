-- The first rows by keys, wherever these lie, and what is asked for among them.
use Rattle.std.proofs.Common.{◌≡◌, ℕ, ◌+◌, ◌-◌, ◌<◌, ◌≤◌, List, [], length, map, take, min, Option, Result, Ok, Err, sym, ap, ◌∙◌, arith}
use Rattle.std.specs.Prelude.{All, IfSome, Some, None}
use Rattle.std.specs.Ordering.{on}
use Rattle.std.proofs.lemmas.List.{get_or-map}
use Rattle.wvalues.specs.declared.key.SortKey.{SortKey}
use Rattle.wvalues.specs.Meaning.{Meaning}
use Rattle.wvalues.specs.Order.{keys_cmp}
use Rattle.wframe.specs.Peers.{key_at}
use Rattle.wframe.specs.Places.{places}
use Rattle.wframe.specs.Sorting.{sorted}
use Rattle.wplan.specs.Formula.{Formula}
use Rattle.wrows.specs.declared.fault.AnswerFault.{AnswerFault}
use Rattle.wrows.specs.declared.fault.AnswerFault.TheVariants.{OutOfRange, TooManyRows, NoMemory}
use Rattle.wrows.specs.Outcomes.{◌>>=◌, Gives}
use Rattle.wrows.specs.Columns.{Row, lists_of}
use Rattle.wrows.specs.Plain.{at_most_limit, cut, numbers_by}
use Rattle.wrows.specs.Picked.{asked_of, first_of}
use Rattle.wrows.proofs.BesideFacts.{place_is}
use Rattle.wcodes.proofs.MoreSorting.{sorted_same}
use Rattle.wrows.proofs.PickFacts.{cut_below}
use Rattle.wrows.proofs.RowFacts.{length-places, places_below}
use Rattle.wrows.proofs.CutFacts.{cut_of_first, first_below, numbers_long}

-- rows sorted by a rule for their keys are sorted by the keys listed
pub sorted_listed : (order : List SortKey) (key : ℕ → List Meaning) (n : ℕ) → sorted (on key (keys_cmp order)) (places n)
    ≡ numbers_by order (map key (places n)) n
sorted_listed order key n =
    sorted_same (λ i. i < n) (on key (keys_cmp order)) (on (key_at (map key (places n))) (keys_cmp order))
    (λ i j h k. ap (λ a. keys_cmp order a (key j)) (listed i h) ∙ ap (keys_cmp order (key_at (map key (places n)) i)) (listed j k))
    (places n) (places_below 0 n n (omega arith))
  where
    listed : (i : ℕ) → i < n → key i ≡ key_at (map key (places n)) i
    listed i h =
        let room : i < length (places n) = omega (arith, h, length-places 0 n) in
        ap key (place_is n i h) ∙ sym (get_or-map key (places n) i i [] room)

abbrev numbers_or_none : Result (List ℕ) AnswerFault → List ℕ
numbers_or_none (Ok numbers) = numbers
numbers_or_none (Err fault) = []

module _ (order : List SortKey) (offset : ℕ) (limit : Option ℕ) (n from count : ℕ) (f : from ≡ min offset n)
    (c : count ≡ at_most_limit limit (n - from)) (within : from + count ≤ n) where
  abbrev firsts : Result (List (List Meaning)) AnswerFault → Result (List ℕ) AnswerFault
  firsts by = by >>= λ by. Ok (take (from + count) (numbers_by order by n))

  abbrev asked : Result (List (List Meaning)) AnswerFault → Result (List ℕ) AnswerFault
  asked by = by >>= λ by. Ok (cut offset limit (numbers_by order by n))

  numbers_in : (by : List (List Meaning)) (first : List ℕ) → firsts (Ok by) ≡ Ok first → first ≡ take (from + count) (numbers_by order by n)
  numbers_in by first e = sym (ap numbers_or_none e)

  asked_by : (by : Result (List (List Meaning)) AnswerFault) (first : List ℕ) → firsts by ≡ Ok first
      → asked by ≡ Ok (cut offset limit first)
  asked_by (Ok by) first e =
      ap Ok (sym (cut_of_first offset limit (numbers_by order by n) n from count (numbers_long order by n) f c within)
      ∙ ap (cut offset limit) (sym (numbers_in by first e)))
  asked_by (Err fault) first e = absurd (cc)

  below_by : (by : Result (List (List Meaning)) AnswerFault) (first : List ℕ) → firsts by ≡ Ok first
      → All (λ i. i < n) (cut offset limit first)
  below_by (Ok by) first e = cut_below n offset limit first (first_below order by n (from + count) first (numbers_in by first e))
  below_by (Err fault) first e = absurd (cc)

  refused_by : (by : Result (List (List Meaning)) AnswerFault) (fault : AnswerFault) → firsts by ≡ Err fault → asked by ≡ Err fault
  refused_by (Ok by) fault e = absurd (cc)
  refused_by (Err other) fault e = e

  module _ (keys : List Formula) (all : List Row) (long : length all ≡ n) where
    firsts_are : firsts (lists_of keys all) ≡ first_of keys order (from + count) all
    firsts_are = ap (λ k. lists_of keys all >>= λ by. Ok (take (from + count) (numbers_by order by k))) (sym long)

    asked_is : asked_of keys order offset limit all ≡ asked (lists_of keys all)
    asked_is = ap (λ k. lists_of keys all >>= λ by. Ok (cut offset limit (numbers_by order by k))) long

    -- what is asked for is cut from the first ones
    pub asked_of_first : (first : List ℕ) → first_of keys order (from + count) all ≡ Ok first
        → asked_of keys order offset limit all ≡ Ok (cut offset limit first)
    asked_of_first first e = asked_is ∙ asked_by (lists_of keys all) first (firsts_are ∙ e)

    pub asked_below : (first : List ℕ) → first_of keys order (from + count) all ≡ Ok first → All (λ i. i < n) (cut offset limit first)
    asked_below first e = below_by (lists_of keys all) first (firsts_are ∙ e)

    pub asked_refused : {X Y : Type 0} (view : X → List ℕ) (other : Y → List ℕ) (fault : AnswerFault)
        → Gives view (Err fault) (first_of keys order (from + count) all) → Gives other (Err fault) (asked_of keys order offset limit all)
    asked_refused view other OutOfRange e = asked_is ∙ refused_by (lists_of keys all) OutOfRange (firsts_are ∙ e)
    asked_refused view other TooManyRows e = asked_is ∙ refused_by (lists_of keys all) TooManyRows (firsts_are ∙ e)
    asked_refused view other NoMemory e = tt

-- what is found is what is meant
pub found_is : {V : Type 0} (items : V → List ℕ) (found : Option V) (first : List ℕ) (meant : Result (List ℕ) AnswerFault)
    → IfSome found (λ v. items v ≡ first) → meant ≡ Ok first → IfSome found (λ v. meant ≡ Ok (items v))
found_is items None first meant h e = tt
found_is items (Some v) first meant h e = e ∙ ap Ok (sym h)
