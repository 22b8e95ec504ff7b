use Rattle.std.proofs.Common.{◌≡◌}
use Rattle.std.specs.Fmt.{decimal}
use Rattle.wlines.proofs.Decimals.{no_space}
use Rattle.wscript.proofs.header_lines.split_number.Goals as goal

pub returns-in_err-first-clause-only : goal.returns-in_err-first-clause-only
returns-in_err-first-clause-only c = λ n rest fits e. absurd (c.in_err-first.ensures.only (decimal n) rest (no_space n fits) e)

pub returns-in_err-number-clause-only : goal.returns-in_err-number-clause-only
returns-in_err-number-clause-only c = λ n rest fits e.
    let cut = c.in_ok-first.ensures.only (decimal n) rest (no_space n fits) e in
    let none : ⊥ = cc (c.in_err-number.ensures.only n fits cut.0) in
    absurd none

pub returns-clause-only : goal.returns-clause-only
returns-clause-only c = λ n rest fits e.
    let cut = c.in_ok-first.ensures.only (decimal n) rest (no_space n fits) e in
    let read : c.in_ok-number.number ≡ n = cc (c.in_ok-number.ensures.only n fits cut.0) in
    (read, cut.1)
