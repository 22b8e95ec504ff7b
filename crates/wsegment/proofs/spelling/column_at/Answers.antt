use Rattle.std.proofs.Common.{◌∙◌, ◌++◌, sym, append_assoc}
use Rattle.std.specs.String.{string_bytes}
use Rattle.wsegment.specs.Declaration.{kind_text}
use Rattle.wsegment.proofs.SpellingFacts.{kind-none, word-unique}
use Rattle.wsegment.proofs.spelling.column_at.Goals as goal

pub returns-in_default-kind_at-clause-none : goal.returns-in_default-kind_at-clause-none
returns-in_default-kind_at-clause-none c = λ column rest named e.
    let found = rw c.in-Some.is at c.in_ok-name.ensures.found in
    let u = word-unique column.name (string_bytes c.in-Some.name) (kind_text column.kind ++ rest) c.in-Some.rest.now named
    found.0 (kind-none column.kind rest) found.1 (sym (append_assoc column.name (kind_text column.kind) rest) ∙ sym e ∙ found.2) in
    c.in_default-kind_at.ensures column.kind rest (sym u.1)
