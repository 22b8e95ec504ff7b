use Rattle.std.proofs.Common.{◌≡◌, ◌++◌, ◌∷◌, Some}
use Rattle.std.specs.Fmt.{decimal}
use Rattle.wrecords.proofs.Words.{origin_no_space, number_no_space}
use Rattle.wrecords.proofs.form.read_content.Goals as goal

pub returns-in_default-clause-only : goal.returns-in_default-clause-only
returns-in_default-clause-only c = λ n len is number e. absurd (c.in_default.ensures.only n.origin
    (decimal n.number ++ (32 ∷ decimal len)) (origin_no_space n is) e)

pub returns-in_default-split_word-clause-only : goal.returns-in_default-split_word-clause-only
returns-in_default-split_word-clause-only c = λ n len is number e.
    let cut = c.in-Some.ensures.only n.origin (decimal n.number ++ (32 ∷ decimal len)) (origin_no_space n is) e in
    absurd (c.in_default-split_word.ensures.only (decimal n.number) (decimal len) (number_no_space n is) cut.1)

pub returns-in_default-name_of-clause-only : goal.returns-in_default-name_of-clause-only
returns-in_default-name_of-clause-only c = λ n len is number e.
    let cut = c.in-Some.ensures.only n.origin (decimal n.number ++ (32 ∷ decimal len)) (origin_no_space n is) e in
    let last = c.in-Some-split_word.ensures.only (decimal n.number) (decimal len) (number_no_space n is) cut.1 in
    absurd (c.in_default-name_of.not-Some n (c.name_of.ensures.only n is cut.0 last.0))

pub returns-in_default-read_number-clause-only : goal.returns-in_default-read_number-clause-only
returns-in_default-read_number-clause-only c = λ n len is number e.
    let cut = c.in-Some.ensures.only n.origin (decimal n.number ++ (32 ∷ decimal len)) (origin_no_space n is) e in
    let last = c.in-Some-split_word.ensures.only (decimal n.number) (decimal len) (number_no_space n is) cut.1 in
    absurd (c.in_default-read_number.not-Some len (c.read_number.ensures.only len number last.1))

pub returns-clause-only : goal.returns-clause-only
returns-clause-only c = λ n len is number e.
    let cut = c.in-Some.ensures.only n.origin (decimal n.number ++ (32 ∷ decimal len)) (origin_no_space n is) e in
    let last = c.in-Some-split_word.ensures.only (decimal n.number) (decimal len) (number_no_space n is) cut.1 in
    let name : c.in-Some-name_of.name ≡ n = cc (c.name_of.ensures.only n is cut.0 last.0, c.in-Some-name_of.is) in
    let length : c.in-Some-read_number.len ≡ len = cc (c.read_number.ensures.only len number last.1, c.in-Some-read_number.is) in
    λ i. Some (name i, length i)
