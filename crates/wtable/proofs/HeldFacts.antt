-- The rows of segments on which a condition is true.
use Rattle.std.proofs.Common.{◌≡◌, ℕ, ◌+◌, ◌<◌, ◌||◌, Bool, true, false, cond, List, [], ◌∷◌, ◌++◌, length, filter}
use Rattle.std.proofs.Common.{take, take-append-drop, drop, length-append, arith, take_all, get_or, append-nil, append_assoc, ◌≤◌}
use Rattle.std.proofs.Common.{Some, Result, Ok, Err, refl, sym, ap, ◌∙◌}
use Rattle.std.specs.List.{flat_map, list_any}
use Rattle.std.proofs.lemmas.List.{length_push}
use Rattle.std.proofs.lemmas.List.Elements.{filter-append, filter_more}
use Rattle.std.proofs.lemmas.List.Folds.{list_any-append, list_any_at, list_any_more}
use Rattle.wvalues.specs.Names.{NameParts}
use Rattle.wsegment.specs.Rows.{Content}
use Rattle.wplan.specs.Formula.{Formula}
use Rattle.weval.specs.NumberTests.{Decide, passes_all}
use Rattle.weval.specs.declared.comparing.NumberTest.{NumberTest}
use Rattle.wrows.specs.declared.fault.AnswerFault.{AnswerFault}
use Rattle.wrows.specs.declared.fault.AnswerFault.TheVariants.{OutOfRange}
use Rattle.wrows.specs.Columns.{Row, held_rows, holds_on, is_out_of_range}
use Rattle.wrows.specs.Outcomes.{Gives, unless}
use Rattle.wrows.proofs.RowFacts.{refused}
use Rattle.wtable.specs.Few.{GivesAtEnd}

-- one row more of a segment
pub in_range_more : (p : Row → Bool) (stored : List Row) (i : ℕ) (row : Row) → i < length stored → row ≡ get_or stored i []
    → list_any p (take i stored) ≡ false → p row ≡ false → list_any p (take (i + 1) stored) ≡ false
in_range_more p stored i row h e none here = list_any_more p stored i [] h ∙ ap (λ b. b || p (get_or stored i [])) none
    ∙ sym (ap p e) ∙ here

pub held_more : (p : Row → Bool) (stored old before after : List Row) (i : ℕ) (row : Row) → i < length stored
    → row ≡ get_or stored i [] → before ≡ old ++ filter p (take i stored) → after ≡ cond (p row) (before ++ row ∷ []) before
    → after ≡ old ++ filter p (take (i + 1) stored)
held_more p stored old before after i row h e so_far more =
    more ∙ one (p row) ∙ ap (λ l. l ++ cond (p row) (row ∷ []) []) so_far
    ∙ append_assoc old (filter p (take i stored)) (cond (p row) (row ∷ []) [])
    ∙ ap (λ r. old ++ (filter p (take i stored) ++ cond (p r) (r ∷ []) [])) e
    ∙ ap (λ l. old ++ l) (sym (filter_more p stored i [] h))
  where
    one : (b : Bool) → cond b (before ++ row ∷ []) before ≡ before ++ cond b (row ∷ []) []
    one true = refl
    one false = sym (append-nil before)

-- at most one row is held more
pub held_long : (b : Bool) (before after : List Row) (row : Row) → after ≡ cond b (before ++ row ∷ []) before
    → length after ≤ length before + 1
held_long true before after row e =
    let long : length after ≡ length before + 1 = ap length e ∙ length_push before row in
    omega (arith, long)
held_long false before after row e =
    let long : length after ≡ length before = ap length e in
    omega (arith, long)

-- a fault of a row is one of the segment
pub row_refused : (t : Formula) (stored : List Row) (i : ℕ) (row : Row) (fault : AnswerFault) → i < length stored
    → row ≡ get_or stored i [] → Gives {X = Unit {0}} {Y = Unit {0}} (λ u. u) (Err fault)
    (unless (is_out_of_range t row) OutOfRange (tt {0})) → Gives {X = Unit {0}} {Y = Unit {0}} (λ u. u) (Err fault)
    (unless (list_any (is_out_of_range t) stored) OutOfRange (tt {0}))
row_refused t stored i row fault h e gives =
    refused (λ u. u) fault (is_out_of_range t row) (list_any (is_out_of_range t) stored) (tt {0}) gives
    (λ here. list_any_at (is_out_of_range t) stored i [] h (ap (is_out_of_range t) (sym e) ∙ here))

-- all rows of a segment
pub none_at_fault : (t : Formula) (stored : List Row) (i : ℕ) → length stored ≤ i
    → list_any (is_out_of_range t) (take i stored) ≡ false
    → unless (list_any (is_out_of_range t) stored) OutOfRange (tt {0}) ≡ Ok (tt {0})
none_at_fault t stored i h none =
    ap (λ b. unless b OutOfRange (tt {0})) (ap (list_any (is_out_of_range t)) (sym (take_all i stored h)) ∙ none)

pub held_whole : (p : Row → Bool) (stored old now : List Row) (i : ℕ) → length stored ≤ i → now ≡ old ++ filter p (take i stored)
    → now ≡ old ++ filter p stored
held_whole p stored old now i h so_far = so_far ∙ ap (λ l. old ++ filter p l) (take_all i stored h)

-- where so many are held of a part of a segment, so many are of the whole
pub held_part : (p : Row → Bool) (stored old now : List Row) (i most : ℕ) → now ≡ old ++ filter p (take i stored)
    → most < length now → most < length old + length (filter p stored)
held_part p stored old now i most so_far many =
    let all : filter p stored ≡ filter p (take i stored) ++ filter p (drop i stored) =
    ap (filter p) (sym (take-append-drop i stored)) ∙ filter-append p (take i stored) (drop i stored) in
    omega (
      arith,
      many,
      ap length so_far,
      length-append old (filter p (take i stored)),
      ap length all,
      length-append (filter p (take i stored)) (filter p (drop i stored)),
    )

-- where tests decide a condition, it is out of range on no row, and true on those that pass them
pub none_decided : (tests : List NumberTest) (t : Formula) (rows : List Row) → Decide tests t → list_any (is_out_of_range t) rows ≡ false
none_decided tests t [] d = refl
none_decided tests t (row ∷ rows) d = ap (λ b. b || list_any (is_out_of_range t) rows) (d.in_range row)
    ∙ none_decided tests t rows d

pub rows_decided : (tests : List NumberTest) (t : Formula) (rows : List Row) → Decide tests t
    → filter (passes_all tests) rows ≡ filter (holds_on t) rows
rows_decided tests t [] d = refl
rows_decided tests t (row ∷ rows) d =
    ap (λ b. cond b (row ∷ filter (passes_all tests) rows) (filter (passes_all tests) rows)) (sym (d.truth row))
    ∙ ap (λ l. cond (holds_on t row) (row ∷ l) l) (rows_decided tests t rows d)

abbrev pub rows_left : List (NameParts × Content) → List Row
rows_left = flat_map (λ e. e.1.rows)

-- one segment more
pub in_range_left : (p : Row → Bool) (all : List Row) (segments left : List (NameParts × Content)) (e : NameParts × Content)
    → segments ≡ e ∷ left → list_any p (rows_left segments) ≡ list_any p all → list_any p e.1.rows ≡ false
    → list_any p (rows_left left) ≡ list_any p all
in_range_left p all segments left e is before none =
    sym (ap (λ b. b || list_any p (rows_left left)) none) ∙ sym (list_any-append p e.1.rows (rows_left left))
    ∙ sym (ap (λ l. list_any p (rows_left l)) is) ∙ before

pub held_left : (p : Row → Bool) (old now all : List Row) (segments left : List (NameParts × Content)) (e : NameParts
    × Content) → segments ≡ e ∷ left → old ++ filter p (rows_left segments) ≡ filter p all → now ≡ old ++ filter p e.1.rows
    → now ++ filter p (rows_left left) ≡ filter p all
held_left p old now all segments left e is before more =
    ap (λ l. l ++ filter p (rows_left left)) more ∙ append_assoc old (filter p e.1.rows) (filter p (rows_left left))
    ∙ ap (λ l. old ++ l) (sym (filter-append p e.1.rows (rows_left left))) ∙ ap (λ l. old ++ filter p (rows_left l)) (sym is) ∙ before

-- a row at fault is one of all
pub fault_left : (p : Row → Bool) (all : List Row) (segments left : List (NameParts × Content)) (e : NameParts × Content)
    → segments ≡ e ∷ left → list_any p (rows_left segments) ≡ list_any p all → list_any p e.1.rows ≡ true → list_any p all ≡ true
fault_left p all segments left e is before some =
    sym before ∙ ap (λ l. list_any p (rows_left l)) is ∙ list_any-append p e.1.rows (rows_left left)
    ∙ ap (λ b. b || list_any p (rows_left left)) some

-- the rows on which a condition is true, of which some are held and the others stand in the segments that are left
pub record HeldSoFar (t : Formula) (all held : List Row) (left : List (NameParts × Content)) : Type 0 where
  pub in_range : list_any (is_out_of_range t) (rows_left left) ≡ list_any (is_out_of_range t) all
  pub so_far : held ++ filter (holds_on t) (rows_left left) ≡ filter (holds_on t) all

module _ (t : Formula) (all : List Row) where
  pub none_held : (held : List Row) (segments left : List (NameParts × Content)) → held ≡ [] → left ≡ segments
      → rows_left segments ≡ all → HeldSoFar t all held left
  none_held held segments left none is rows = record {
    in_range = ap (λ l. list_any (is_out_of_range t) (rows_left l)) is ∙ ap (list_any (is_out_of_range t)) rows;
    so_far = ap (λ l. l ++ filter (holds_on t) (rows_left left)) none ∙ ap (λ l. filter (holds_on t) (rows_left l)) is
        ∙ ap (filter (holds_on t)) rows;
  }

  module _ (before : List Row) (segments left : List (NameParts × Content)) (e : NameParts × Content) (is : segments ≡ e ∷ left)
      (h : HeldSoFar t all before segments) where
    pub segment_held : (after : List Row) → list_any (is_out_of_range t) e.1.rows ≡ false
        → after ≡ before ++ filter (holds_on t) e.1.rows → HeldSoFar t all after left
    segment_held after none more = record {
      in_range = in_range_left (is_out_of_range t) all segments left e is h.in_range none;
      so_far = held_left (holds_on t) before after all segments left e is h.so_far more;
    }

    pub segment_many : (most : ℕ) → most < length before + length (filter (holds_on t) e.1.rows)
        → most < length (filter (holds_on t) all)
    segment_many most many =
        let p : Row → Bool = holds_on t in
        let here : filter p (rows_left segments) ≡ filter p e.1.rows ++ filter p (rows_left left) =
        ap (λ l. filter p (rows_left l)) is ∙ filter-append p e.1.rows (rows_left left) in
        omega (
          arith,
          many,
          ap length h.so_far,
          length-append before (filter p (rows_left segments)),
          ap length here,
          length-append (filter p e.1.rows) (filter p (rows_left left)),
        )

    pub segment_refused : {X : Type 0} (view : X → List Row) (fault : AnswerFault) → Gives {X = Unit {0}} {Y = Unit {0}} (λ u. u)
        (Err fault) (unless (list_any (is_out_of_range t) e.1.rows) OutOfRange (tt {0})) → Gives view (Err fault) (held_rows (Some t) all)
    segment_refused view fault gives =
        refused view fault (list_any (is_out_of_range t) e.1.rows) (list_any (is_out_of_range t) all) (filter (holds_on t) all) gives
        (fault_left (is_out_of_range t) all segments left e is h.in_range)

  pub all_held : (held : List Row) (left : List (NameParts × Content)) → left ≡ [] → HeldSoFar t all held left
      → held_rows (Some t) all ≡ Ok held
  all_held held left is h =
      let none : list_any (is_out_of_range t) all ≡ false =
      sym h.in_range ∙ ap (λ l. list_any (is_out_of_range t) (rows_left l)) is in
      let whole : filter (holds_on t) all ≡ held =
      sym h.so_far ∙ ap (λ l. held ++ filter (holds_on t) (rows_left l)) is ∙ append-nil held in
      ap (λ b. unless b OutOfRange (filter (holds_on t) all)) none ∙ ap (λ l. Ok l) whole

-- what is meant of a call that was done to the end
pub at_end : (all : Bool) (meant : Result (Unit {0}) AnswerFault) → GivesAtEnd (Ok all) meant → all ≡ true → meant ≡ Ok (tt {0})
at_end true meant gives whole = gives
at_end false meant gives whole = absurd (cc)
