-- The text of a table, line by line.
use Rattle.std.proofs.Common.{◌≡◌, ◌∙◌, ◌+◌, ◌-◌, ◌<◌, ◌≤◌, ◌++◌, ℕ, List, [], ◌∷◌, drop, get_or, length, map, take, sym, ap}
use Rattle.std.proofs.Common.{append_assoc, arith}
use Rattle.std.proofs.lemmas.Grind.{flat_map-append}
use Rattle.std.proofs.lemmas.List.{append-nil, drop-append-le, drop_at, get_or-take, length-take-le, take-append-drop, take-take, take_more}
use Rattle.std.proofs.lemmas.Simd.{map-map}
use Rattle.wvalues.specs.Meaning.{Meaning}
use Rattle.wprinted.specs.Printing.{field_text, line_text, lines_text, rows_between}
use Rattle.wprinted.proofs.BackLines.{drop-back}

-- the line of some fields that stand for these texts or values
pub line-of : {T X : Type 0} (print : X → List ℕ) (view : T → X) (fields : List T) (seen : List X) → map view fields ≡ seen
    → line_text (map (λ field. print (view field)) fields) ≡ line_text (map print seen)
line-of print view fields seen is = ap line_text (sym (map-map print view fields) ∙ ap (map print) is)

abbrev pub row_line : List Meaning → List ℕ
row_line row = line_text (map field_text row)

-- rows up to another one, and those from there on
between-join : (rows : List (List Meaning)) (from row end : ℕ) → from ≤ row → row ≤ end → end ≤ length rows
    → rows_between from row rows ++ rows_between row end rows ≡ rows_between from end rows
between-join rows from row end before behind within =
    let some : List (List Meaning) = take end rows in
    let long : length some ≡ end = length-take-le end rows within in
    let shorter : length (take row some) ≡ row = length-take-le row some (omega (arith, long, behind)) in
    ap (λ front. drop from front ++ drop row some) (sym (take-take row end rows behind))
    ∙ sym (drop-append-le from (take row some) (drop row some) (omega (arith, shorter, before)))
    ∙ ap (drop from) (take-append-drop row some)

-- their lines
pub lines-join : (rows : List (List Meaning)) (from row end : ℕ) → from ≤ row → row ≤ end → end ≤ length rows
    → lines_text (rows_between from row rows) ++ lines_text (rows_between row end rows) ≡ lines_text (rows_between from end rows)
lines-join rows from row end before behind within =
    sym (flat_map-append row_line (rows_between from row rows) (rows_between row end rows))
    ∙ ap lines_text (between-join rows from row end before behind within)

-- one more line behind those that are there
pub lines-more : (rows : List (List Meaning)) (from row : ℕ) (values : List Meaning) (header old new : List ℕ)
    → from ≤ row → row < length rows → values ≡ get_or rows row []
    → old ≡ header ++ lines_text (rows_between from row rows) → new ≡ old ++ row_line values
    → new ≡ header ++ lines_text (rows_between from (row + 1) rows)
lines-more rows from row values header old new ordered within is so_far written =
    let one : rows_between row (row + 1) rows ≡ values ∷ [] =
    ap (drop row) (take_more rows row [] within ∙ ap (λ last. take row rows ++ last ∷ []) (sym is))
    ∙ drop_at (take row rows) (values ∷ []) row (length-take-le row rows (omega (arith, within))) in
    let line : lines_text (rows_between row (row + 1) rows) ≡ row_line values = ap lines_text one ∙ append-nil (row_line values) in
    written ∙ ap (λ front. front ++ row_line values) so_far
    ∙ append_assoc header (lines_text (rows_between from row rows)) (row_line values)
    ∙ ap (λ last. header ++ (lines_text (rows_between from row rows) ++ last)) (sym line)
    ∙ ap (λ lines. header ++ lines) (lines-join rows from row (row + 1) ordered (omega arith) (omega (arith, within)))

-- one more line before those that are written
pub lines-back : (rows : List (List Meaning)) (row end : ℕ) (values : List Meaning) (old new : List ℕ) → 0 < row → row ≤ end
    → end ≤ length rows → values ≡ get_or rows (row - 1) [] → old ≡ lines_text (rows_between row end rows)
    → new ≡ row_line values ++ old → new ≡ lines_text (rows_between (row - 1) end rows)
lines-back rows row end values old new some ordered within is so_far written =
    let some_rows : List (List Meaning) = take end rows in
    let long : length some_rows ≡ end = length-take-le end rows within in
    let here : get_or some_rows (row - 1) [] ≡ values = get_or-take end rows (row - 1) [] (omega (arith, some, ordered)) ∙ sym is in
    written ∙ ap (λ behind. row_line values ++ behind) so_far
    ∙ ap lines_text (sym (drop-back some_rows row [] some (omega (arith, long, ordered))
    ∙ ap (λ first. first ∷ drop row some_rows) here))
