use Rattle.std.proofs.Common.{sym, arith, false-eqb}
use Rattle.std.proofs.lemmas.Bool.{eqb-true}
use Rattle.wlexer.proofs.Steps.{quoted_name_found, empty_name, long_name}
use Rattle.wlexer.proofs.reading.quoted_name.Goals as goal
use Rattle.wlexer.proofs.reading.quoted_name.Goals.{then-is_empty-via-then-is_empty, then-is_empty-via-else-is_empty+then-is_too_long}

pub returns-then-is_empty-clause-none : goal.returns-then-is_empty-clause-none
returns-then-is_empty-clause-none c =
    let sized = c.in_ok-body.body.bytes.ok.0 in
    elim c.then-is_empty.branch [
      | then-is_empty-via-then-is_empty w ↦ let none = eqb-true _ 0 (sym w.if-is_empty.ensures) in
          empty_name c.in_ok-body.ensures.found (omega arith)
      | then-is_empty-via-else-is_empty+then-is_too_long w ↦ long_name c.in_ok-body.ensures.found (omega arith)
    ]

pub returns-clause-found : goal.returns-clause-found
returns-clause-found c =
    let some = false-eqb _ 0 c.if-is_empty.ensures in
    let sized = c.in_ok-body.body.bytes.ok.0 in
    quoted_name_found c.in_ok-body.ensures.found (omega arith) (omega arith) c.in_ok-name.ensures
