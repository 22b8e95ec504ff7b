-- The key lists of rows, however they are lent.
use Rattle.std.proofs.Common.{◌≡◌, ℕ, ◌-◌, ◌*◌, ◌<◌, List, [], length, map, take, drop, get_or, sym, ap, ◌∙◌, arith}
use Rattle.std.proofs.Common.{length-drop, length-take-le}
use Rattle.wvalues.specs.declared.value.Value.{Value}
use Rattle.std.specs.Prelude.{slice_range}
use Rattle.std.proofs.lemmas.List.{drop-map, get_or-map, length-map, take-map}
use Rattle.wvalues.specs.Meaning.{Meaning, meaning}
use Rattle.wframe.specs.Peers.{key_at}
use Rattle.wframe.specs.KeyList.{values_at}
use Rattle.wframe.specs.KeyLists.{AreListsOf, lists_of, rows_seen}
use Rattle.wframe.specs.declared.key_lists.KeyLists.{KeyLists}
use Rattle.wframe.specs.declared.key_lists.KeyLists.TheVariants.{Laid, Placed, Picked}
use Rattle.wframe.proofs.CellFacts.{length-rows_of, row_long}

pub length-lists : (l : KeyLists) (width n : ℕ) → AreListsOf l width n → length (lists_of l width n) ≡ n
length-lists (Laid l) width n are = length-rows_of width n l.cells.now
length-lists (Placed l) width n are =
    length-map l.numbers.now (λ number. values_at (meaning l.null.now) l.places.now (key_at (rows_seen l.rows.now) number)) ∙ are.counted
length-lists (Picked l) width n are =
    length-map l.numbers.now (λ number. map meaning (take width (drop (number * width) l.cells.now))) ∙ are.counted

-- a row has a value for each key
pub list_long : (l : KeyLists) (width n row : ℕ) → AreListsOf l width n → row < n → length (key_at (lists_of l width n) row) ≡ width
list_long (Laid l) width n row are h = row_long width n l.cells.now row are.laid h
list_long (Placed l) width n row are h =
    let list = λ (number : ℕ). values_at (meaning l.null.now) l.places.now (key_at (rows_seen l.rows.now) number) in
    let row_list : List Meaning = key_at (rows_seen l.rows.now) (get_or l.numbers.now row 0) in
    ap length (get_or-map list l.numbers.now row 0 [] (omega (arith, h, are.counted)))
    ∙ length-map l.places.now (λ place. get_or row_list place (meaning l.null.now)) ∙ are.wide
list_long (Picked l) width n row are h =
    let list = λ (number : ℕ). map meaning (take width (drop (number * width) l.cells.now)) in
    let number : ℕ = get_or l.numbers.now row 0 in
    let l_row : row < length l.numbers.now = omega (arith, h, are.counted) in
    ap length (get_or-map list l.numbers.now row 0 [] l_row)
    ∙ length-map (take width (drop (number * width) l.cells.now)) (λ (v : Value). meaning v)
    ∙ length-take-le width (drop (number * width) l.cells.now)
    (omega (arith, length-drop (number * width) l.cells.now, are.within row 0 l_row))

-- the lists of some of the numbers
pub map-slice : {A B : Type 0} (f : A → B) (xs : List A) (from to : ℕ) → map f (slice_range xs from to) ≡ slice_range (map f xs) from to
map-slice f xs from to = sym (take-map f (to - from) (drop from xs)) ∙ ap (take (to - from)) (sym (drop-map f from xs))
