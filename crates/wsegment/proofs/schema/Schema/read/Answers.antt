use Rattle.std.proofs.Common.{◌≡◌, ◌∙◌, ◌⊎◌, ◌<◌, ◌≤◌, inl, inr, Ok, Err, true, false, length, sym, rules}
use Rattle.std.specs.List.{flat_map}
use Rattle.std.specs.String.{string_bytes}
use Rattle.wsegment.specs.Declaration.{Declaration, column_text}
use Rattle.wsegment.specs.Spelling.{repeats_name}
use Rattle.wsegment.specs.declared.schema_fault.SchemaFault.TheVariants as faults
use Rattle.wsegment.proofs.SchemaFacts.{declared, only}
use Rattle.wsegment.proofs.SpellingFacts.{table-unique}
use Rattle.wsegment.proofs.schema.Schema.read.Goals as goal
use Rattle.wsegment.proofs.schema.Schema.read.Goals.{then-is_empty-via-then-is_empty}
use Rattle.wsegment.proofs.schema.Schema.read.Goals.{then-is_empty-via-else-is_empty+then-len-gt-MAX_COLUMNS}

pub returns-in_default-2-clause-reads : goal.returns-in_default-2-clause-reads
returns-in_default-2-clause-reads c = λ d s.
    let found = rw c.in-Some.is at c.in_ok-table.ensures.found in
    let none = rw c.in_default-2.is at c.in_ok-columns.ensures.none in
    let u = table-unique (string_bytes c.in-Some.table) d.table c.in-Some.rest.now (flat_map column_text d.columns) found.0
    s.table (sym found.1 ∙ s.text) in
    none d.columns s.columns u.1

pub returns-in_default-2-clause-only : goal.returns-in_default-2-clause-only
returns-in_default-2-clause-only c = only c.args.bytes.now (Err faults.Syntax) (returns-in_default-2-clause-reads c)

pub returns-then-is_repeated-clause-reads : goal.returns-then-is_repeated-clause-reads
returns-then-is_repeated-clause-reads c =
    let table = rw c.in-Some.is at c.in_ok-table.ensures.found in
    let columns = rw c.in-Some-2.is at c.in_ok-columns.ensures.found in
    let d : Declaration = record { table = string_bytes c.in-Some.table; columns = c.in-Some-2.columns.items } in
    let twice : repeats_name d.columns ≡ true = sym (rw c.deref.ensures.value at c.in_ok-is_repeated.ensures) ∙ c.if-is_repeated.true in
    (d, record { short = c.if-bytes-gt-MAX_BYTES.false; table = table.0; columns = columns.0; text = rw (← columns.1) table.1 }, twice)

pub returns-then-is_repeated-clause-only : goal.returns-then-is_repeated-clause-only
returns-then-is_repeated-clause-only c = only c.args.bytes.now (Err faults.RepeatedColumn) (returns-then-is_repeated-clause-reads c)

pub returns-then-is_empty-clause-reads : goal.returns-then-is_empty-clause-reads
returns-then-is_empty-clause-reads c =
    let table = rw c.in-Some.is at c.in_ok-table.ensures.found in
    let columns = rw c.in-Some-2.is at c.in_ok-columns.ensures.found in
    let d : Declaration = record { table = string_bytes c.in-Some.table; columns = c.in-Some-2.columns.items } in
    let once : repeats_name d.columns ≡ false = sym (rw c.deref.ensures.value at c.in_ok-is_repeated.ensures) ∙ c.if-is_repeated.false in
    let count : (length d.columns ≡ 0) ⊎ (64 < length d.columns) = elim c.then-is_empty.branch [
      | then-is_empty-via-then-is_empty w ↦ inl (search rules)
      | then-is_empty-via-else-is_empty+then-len-gt-MAX_COLUMNS w ↦ inr (search rules)
    ] in (
      d,
      record {
        short = c.if-bytes-gt-MAX_BYTES.false;
        table = table.0;
        columns = columns.0;
        text =
            rw (← columns.1) table.1;
      },
      once,
      count,
    )

pub returns-then-is_empty-clause-only : goal.returns-then-is_empty-clause-only
returns-then-is_empty-clause-only c = only c.args.bytes.now (Err faults.ColumnCount) (returns-then-is_empty-clause-reads c)

pub returns-clause-only : goal.returns-clause-only
returns-clause-only c =
    let table = rw c.in-Some.is at c.in_ok-table.ensures.found in
    let columns = rw c.in-Some-2.is at c.in_ok-columns.ensures.found in
    let d : Declaration = record { table = string_bytes c.in-Some.table; columns = c.in-Some-2.columns.items } in
    let once : repeats_name d.columns ≡ false = sym (rw c.deref.ensures.value at c.in_ok-is_repeated.ensures) ∙ c.if-is_repeated.false in
    let some : 0 < length d.columns = search rules in
    let few : length d.columns ≤ 64 = search rules in
    rw c.in-Ok.ensures.ok (only c.args.bytes.now (Ok d) (declared d c.args.bytes.now c.if-bytes-gt-MAX_BYTES.false table.0
    columns.0 (rw (← columns.1) table.1) once some few))
