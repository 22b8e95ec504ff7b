-- Steps of loops over rows, and cells by their rows.
use Rattle.std.proofs.Common.{◌≡◌, ℕ, zero, suc, ◌+◌, ◌*◌, ◌<◌, ◌≤◌, ◌||◌, Bool, true, false, cond, List, [], ◌∷◌, ◌++◌}
use Rattle.std.proofs.Common.{length, map, filter, take, drop, Result, Ok, Err, Option, Some, None, take_all, take_at}
use Rattle.std.proofs.Common.{drop_at, length-append, length-drop, min, ◌-◌, get_or, refl, sym, ap, ◌∙◌, arith}
use Rattle.std.specs.List.{list_any, flat_map, AllByRecursion}
use Rattle.std.proofs.lemmas.List.{take_more, map-append, flat_map_more}
use Rattle.std.proofs.lemmas.List.Folds.{list_any_more, list_any_at}
use Rattle.wvalues.specs.declared.value.Value.{Value}
use Rattle.wvalues.specs.declared.key.SortKey.{SortKey}
use Rattle.wvalues.specs.Meaning.{Meaning, meaning}
use Rattle.std.specs.Borrow.{Bor}
use Rattle.wsort.specs.LaidRows.{laid}
use Rattle.wrows.specs.Laid.{row_seen, rows_seen}
use Rattle.wframe.specs.Peers.{key_at}
use Rattle.wrows.specs.declared.fault.AnswerFault.{AnswerFault}
use Rattle.wrows.specs.declared.fault.AnswerFault.TheVariants.{OutOfRange, TooManyRows, NoMemory}
use Rattle.wrows.specs.Outcomes.{unless, Gives, ◌>>=◌}
use Rattle.wrows.specs.Plain.{numbers_by, ordered, cut, at_most_limit}
pub use Rattle.wcodes.proofs.NumberFacts.{map-map, places_more, places_below, length-places}
pub use Rattle.wsort.proofs.RowFacts.{length-laid, row_at, row_past, row_within, zero_length, row_wide}

pub any-map : {X Y : Type 0} (p : Y → Bool) (f : X → Y) (xs : List X) → list_any p (map f xs) ≡ list_any (λ x. p (f x)) xs
any-map p f [] = refl
any-map p f (x ∷ xs) = ap (λ b. p (f x) || b) (any-map p f xs)

pub filter-map : {X Y : Type 0} (p : Y → Bool) (f : X → Y) (xs : List X) → filter p (map f xs) ≡ map f (filter (λ x. p (f x)) xs)
filter-map p f [] = refl
filter-map p f (x ∷ xs) = elim (p (f x)) as (λ b. cond b (f x ∷ filter p (map f xs)) (filter p (map f xs))
    ≡ map f (cond b (x ∷ filter (λ x. p (f x)) xs) (filter (λ x. p (f x)) xs))) [
      | true ↦ ap (λ l. f x ∷ l) (filter-map p f xs)
      | false ↦ filter-map p f xs
    ]

unless_ok : {A : Type 0} (b : Bool) (fault : AnswerFault) (x y : A) → b ≡ false → x ≡ y → unless b fault x ≡ Ok y
unless_ok true fault x y h e = absurd (cc)
unless_ok false fault x y h e = ap Ok e

-- a loop over all rows kept those that pass a test, and none is at fault
pub kept_all : {X Y : Type 0} (p h : Y → Bool) (f : X → Y) (fault : AnswerFault) (xs ys : List X) (n : ℕ) → length xs ≤ n
    → list_any (λ x. p (f x)) (take n xs) ≡ false → ys ≡ filter (λ x. h (f x)) (take n xs)
    → unless (list_any p (map f xs)) fault (filter h (map f xs)) ≡ Ok (map f ys)
kept_all p h f fault xs ys n long none kept =
    let all : take n xs ≡ xs = take_all n xs long in
    unless_ok _ fault _ _ (any-map p f xs ∙ ap (list_any (λ x. p (f x))) (sym all) ∙ none)
    (filter-map h f xs ∙ ap (λ l. map f (filter (λ x. h (f x)) l)) (sym all) ∙ ap (map f) (sym kept))

-- a loop over all rows gave a value for each, and none is at fault
pub all_in_range : {X Y Z : Type 0} (p : Y → Bool) (g : Y → Z) (f : X → Y) (fault : AnswerFault) (xs : List X) (zs : List Z)
    (n : ℕ) → length xs ≤ n → list_any (λ x. p (f x)) (take n xs) ≡ false → zs ≡ map (λ x. g (f x)) (take n xs)
    → unless (list_any p (map f xs)) fault (map g (map f xs)) ≡ Ok zs
all_in_range p g f fault xs zs n long none listed =
    let all : take n xs ≡ xs = take_all n xs long in
    unless_ok _ fault _ _ (any-map p f xs ∙ ap (list_any (λ x. p (f x))) (sym all) ∙ none)
    (map-map g f xs ∙ ap (map (λ x. g (f x))) (sym all) ∙ sym listed)

map-front : (w : ℕ) (cells : List Value) → map meaning (take w cells) ≡ take w (map meaning cells)
map-front zero cells = refl
map-front (suc w) [] = refl
map-front (suc w) (x ∷ xs) = ap (λ l. meaning x ∷ l) (map-front w xs)

map-rest : (w : ℕ) (cells : List Value) → map meaning (drop w cells) ≡ drop w (map meaning cells)
map-rest zero cells = refl
map-rest (suc w) [] = refl
map-rest (suc w) (x ∷ xs) = map-rest w xs

-- rows that were laid one after another
pub laid_rows : {X : Type 0} (w : ℕ) (f : X → List Meaning) (xs : List X) → AllByRecursion (λ x. length (f x) ≡ w) xs
    → (cells : List Value) → map meaning cells ≡ flat_map f xs → laid w (length xs) cells ≡ map f xs
laid_rows w f [] wide cells e = refl
laid_rows w f (x ∷ xs) wide cells e =
    let first : map meaning (take w cells) ≡ f x = map-front w cells ∙ ap (take w) e ∙ take_at (f x) (flat_map f xs) w wide.0 in
    let others : map meaning (drop w cells) ≡ flat_map f xs = map-rest w cells ∙ ap (drop w) e ∙ drop_at (f x) (flat_map f xs) w wide.0 in
    ap (λ r. r ∷ laid w (length xs) (drop w cells)) first ∙ ap (λ l. f x ∷ l) (laid_rows w f xs wide.1 (drop w cells) others)

pub all_of_each : {X : Type 0} (P : X → Type 0) → ((x : X) → P x) → (xs : List X) → AllByRecursion P xs
all_of_each P h [] = tt
all_of_each P h (x ∷ xs) = (h x, all_of_each P h xs)

pub laid_length : {X : Type 0} (w : ℕ) (f : X → List Meaning) (xs : List X) → AllByRecursion (λ x. length (f x) ≡ w) xs
    → length (flat_map f xs) ≡ length xs * w
laid_length w f [] wide = let e : 0 ≡ 0 * w = omega arith in e
laid_length w f (x ∷ xs) wide =
    let one : length (f x ++ flat_map f xs) ≡ length (f x) + length (flat_map f xs) = length-append (f x) (flat_map f xs) in
    let more : length (flat_map f xs) ≡ length xs * w = laid_length w f xs wide.1 in
    let here : length (f x) ≡ w = wide.0 in
    let e : suc (length xs) * w ≡ w + length xs * w = omega arith in
    omega (arith, one, more, here, e)

pub none_of_all : {X Y : Type 0} (p : Y → Bool) (f : X → Y) (fault : AnswerFault) (xs : List X) (n : ℕ) → length xs ≤ n
    → list_any (λ x. p (f x)) (take n xs) ≡ false → unless (list_any p (map f xs)) fault (tt {0}) ≡ Ok (tt {0})
none_of_all p f fault xs n long none =
    unless_ok _ fault (tt {0}) (tt {0}) (any-map p f xs ∙ ap (list_any (λ x. p (f x))) (sym (take_all n xs long)) ∙ none) refl

pub added_all : {X Y Z : Type 0} (g : Y → Z) (f : X → Y) (xs : List X) (n : ℕ) (before after : List Z) → length xs ≤ n
    → after ≡ before ++ map (λ x. g (f x)) (take n xs) → after ≡ before ++ map g (map f xs)
added_all g f xs n before after long e = e ∙ ap (λ l. before ++ map (λ x. g (f x)) l) (take_all n xs long)
    ∙ ap (λ l. before ++ l) (sym (map-map g f xs))

pub any_next : {X : Type 0} (p : X → Bool) (xs : List X) (i : ℕ) (x : X) → i < length xs → x ≡ get_or xs i x
    → list_any p (take i xs) ≡ false → p x ≡ false → list_any p (take (i + 1) xs) ≡ false
any_next p xs i x h e none here = list_any_more p xs i x h ∙ ap (λ b. b || p (get_or xs i x)) none ∙ sym (ap p e) ∙ here

pub flat_next : {X Y : Type 0} (f : X → List Y) (xs : List X) (i : ℕ) (x : X) (before after : List Y) → i < length xs
    → x ≡ get_or xs i x → before ≡ flat_map f (take i xs) → after ≡ before ++ f x → after ≡ flat_map f (take (i + 1) xs)
flat_next f xs i x before after h e listed more =
    more ∙ ap (λ l. l ++ f x) listed ∙ flat_map_more f [] (take i xs) x ∙ ap (λ y. flat_map f (take i xs ++ y ∷ [])) e
    ∙ ap (flat_map f) (sym (take_more xs i x h))

pub ok_is_false : {A : Type 0} (b : Bool) (x y : A) → unless b OutOfRange x ≡ Ok y → b ≡ false
ok_is_false true x y h = absurd (cc)
ok_is_false false x y h = refl

-- a fault of one row is one of all
pub refused : {X Y : Type 0} (view : X → Y) (fault : AnswerFault) (b all : Bool) (x : Y)
    → Gives {X = Unit {0}} (λ u. u) (Err fault) (unless b OutOfRange (tt {0})) → (b ≡ true → all ≡ true)
    → Gives view (Err fault) (unless all OutOfRange x)
refused view OutOfRange true all x h at = let e : all ≡ true = at refl in rw e refl
refused view OutOfRange false all x h at = absurd (cc)
refused view TooManyRows true all x h at = absurd (cc)
refused view TooManyRows false all x h at = absurd (cc)
refused view NoMemory b all x h at = tt

-- the same, where the row gives something else than all do
pub refused_by : {A B X Y : Type 0} (inner : A → B) (view : X → Y) (fault : AnswerFault) (b all : Bool) (a : B) (x : Y)
    → Gives inner (Err fault) (unless b OutOfRange a) → (b ≡ true → all ≡ true) → Gives view (Err fault) (unless all OutOfRange x)
refused_by inner view OutOfRange true all a x h at = let e : all ≡ true = at refl in rw e refl
refused_by inner view OutOfRange false all a x h at = absurd (cc)
refused_by inner view TooManyRows true all a x h at = absurd (cc)
refused_by inner view TooManyRows false all a x h at = absurd (cc)
refused_by inner view NoMemory b all a x h at = tt

pub any_of_all : {X Y : Type 0} (p : Y → Bool) (f : X → Y) (xs : List X) (i : ℕ) (x : X) → i < length xs → x ≡ get_or xs i x
    → p (f x) ≡ true → list_any p (map f xs) ≡ true
any_of_all p f xs i x h e here = any-map p f xs ∙ list_any_at (λ x. p (f x)) xs i x h (sym (ap (λ x. p (f x)) e) ∙ here)

-- a fault of the first part is one of the whole
pub then_refused : {X Y A B : Type 0} (view : X → A) (whole : Y → B) (fault : AnswerFault) (first : Result A AnswerFault)
    (others : A → Result B AnswerFault) → Gives view (Err fault) first → Gives whole (Err fault) (first >>= others)
then_refused view whole OutOfRange first others h = ap (λ r. r >>= others) h
then_refused view whole TooManyRows first others h = ap (λ r. r >>= others) h
then_refused view whole NoMemory first others h = tt

pub then_ok : {A B : Type 0} (x : A) (first : Result A AnswerFault) (others : A → Result B AnswerFault) → first ≡ Ok x
    → first >>= others ≡ others x
then_ok x first others h = ap (λ r. r >>= others) h

pub take_least : {X : Type 0} (limit : ℕ) (xs : List X) → take (min limit (length xs)) xs ≡ take limit xs
take_least zero xs = let e : min 0 (length xs) ≡ 0 = omega arith in ap (λ n. take n xs) e
take_least (suc limit) [] = let e : min (suc limit) 0 ≡ 0 = omega arith in ap (λ n. take n []) e
take_least (suc limit) (x ∷ xs) =
    let e : min (suc limit) (suc (length xs)) ≡ suc (min limit (length xs)) = omega arith in
    ap (λ n. take n (x ∷ xs)) e ∙ ap (λ l. x ∷ l) (take_least limit xs)

pub drop_least : {X : Type 0} (offset : ℕ) (xs : List X) → drop (min offset (length xs)) xs ≡ drop offset xs
drop_least zero xs = let e : min 0 (length xs) ≡ 0 = omega arith in ap (λ n. drop n xs) e
drop_least (suc offset) [] = let e : min (suc offset) 0 ≡ 0 = omega arith in ap (λ n. drop n []) e
drop_least (suc offset) (x ∷ xs) =
    let e : min (suc offset) (suc (length xs)) ≡ suc (min offset (length xs)) = omega arith in
    ap (λ n. drop n (x ∷ xs)) e ∙ drop_least offset xs

pub cut_numbers : {X : Type 0} (offset : ℕ) (limit : Option ℕ) (xs : List X) (from count : ℕ)
    → from ≡ min offset (length xs) → count ≡ at_most_limit limit (length xs - from) → take count (drop from xs) ≡ cut offset limit xs
cut_numbers offset None xs from count e f =
    take_all count (drop from xs) (omega (arith, length-drop from xs, f)) ∙ ap (λ n. drop n xs) e ∙ drop_least offset xs
cut_numbers offset (Some limit) xs from count e f =
    let long : length (drop from xs) ≡ length xs - from = length-drop from xs in
    ap (λ n. take n (drop from xs)) (f ∙ ap (min limit) (sym long)) ∙ take_least limit (drop from xs)
    ∙ ap (take limit) (ap (λ n. drop n xs) e ∙ drop_least offset xs)

pub map-taken : {X Y : Type 0} (f : X → Y) (n : ℕ) (xs : List X) → map f (take n xs) ≡ take n (map f xs)
map-taken f zero xs = refl
map-taken f (suc n) [] = refl
map-taken f (suc n) (x ∷ xs) = ap (λ l. f x ∷ l) (map-taken f n xs)

pub map-dropped : {X Y : Type 0} (f : X → Y) (n : ℕ) (xs : List X) → map f (drop n xs) ≡ drop n (map f xs)
map-dropped f zero xs = refl
map-dropped f (suc n) [] = refl
map-dropped f (suc n) (x ∷ xs) = map-dropped f n xs

pub rows_wide : (w n : ℕ) (cells : List Value) → length cells ≡ n * w → (numbers : List ℕ)
    → AllByRecursion (λ i. i < n) numbers → AllByRecursion (λ i. length (get_or (laid w n cells) i []) ≡ w) numbers
rows_wide w n cells laid [] all = tt
rows_wide w n cells laid (i ∷ numbers) all = (row_wide w n cells i laid all.0, rows_wide w n cells laid numbers all.1)

pub same_at : {X : Type 0} (xs : List X) (i : ℕ) (d e : X) → i < length xs → get_or xs i d ≡ get_or xs i e
same_at [] i d e h = absurd (omega arith)
same_at (x ∷ xs) zero d e h = refl
same_at (x ∷ xs) (suc i) d e h = same_at xs i d e (omega arith)

pub map-cut : {X Y : Type 0} (f : X → Y) (offset : ℕ) (limit : Option ℕ) (xs : List X)
    → map f (cut offset limit xs) ≡ cut offset limit (map f xs)
map-cut f offset None xs = map-dropped f offset xs
map-cut f offset (Some limit) xs = map-taken f limit (drop offset xs) ∙ ap (take limit) (map-dropped f offset xs)

-- a row more that is lent
pub lent_more : (w n : ℕ) (cells : List Value) (i : ℕ) (rows : List (Bor (List Value))) (slice : Bor (List Value))
    (more : List (Bor (List Value))) → i < n → rows_seen rows ≡ take i (laid w n cells) → slice.now ≡ take w (drop (i * w) cells)
    → more ≡ rows ++ slice ∷ [] → rows_seen more ≡ take (i + 1) (laid w n cells)
lent_more w n cells i rows slice more h so_far is e =
    let within : i < length (laid w n cells) = omega (arith, length-laid w n cells) in
    ap rows_seen e ∙ map-append row_seen rows (slice ∷ []) ∙ ap (λ l. l ++ row_seen slice ∷ []) so_far
    ∙ ap (λ r. take i (laid w n cells) ++ r ∷ []) (ap (map meaning) is ∙ sym (row_at w n cells i h))
    ∙ sym (take_more (laid w n cells) i [] within)

-- the rows of some of the sorted numbers are a cut of the rows in order
pub cut_rows : (order : List SortKey) (keys listed rows : List (List Meaning)) (numbers : List ℕ) (offset : ℕ)
    (limit : Option ℕ) (from count : ℕ)
    → numbers ≡ numbers_by order keys (length listed) → from ≡ min offset (length numbers)
    → count ≡ at_most_limit limit (length numbers - from)
    → rows ≡ map (key_at listed) (take count (drop from numbers)) → cut offset limit (ordered order keys listed) ≡ rows
cut_rows order keys listed rows numbers offset limit from count is_sorted e f g =
    sym (map-cut (key_at listed) offset limit (numbers_by order keys (length listed)))
    ∙ ap (λ xs. map (key_at listed) (cut offset limit xs)) (sym is_sorted)
    ∙ ap (map (key_at listed)) (sym (cut_numbers offset limit numbers from count e f))
    ∙ sym g
