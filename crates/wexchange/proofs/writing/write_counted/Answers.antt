use Rattle.std.proofs.Common.{◌++◌, length}
use Rattle.std.proofs.lemmas.Result.{err_from_is_err_and}
use Rattle.std.specs.List.{flat_map}
use Rattle.std.specs.FinMap.{entries}
use Rattle.wexchange.specs.Files.{head, table_text, record_text, end_text}
use Rattle.wexchange.proofs.Fronts.{file_front, file_middle, file_end}
use Rattle.wexchange.specs.declared.version.Version.TheVariants.{Two}
use Rattle.wexchange.proofs.WholeReads.{on_err_then}
use Rattle.wexchange.proofs.writing.write_counted.Goals as goal

pub returns-in_err-write_start-clause-front : goal.returns-in_err-write_start-clause-front
returns-in_err-write_start-clause-front g c =
    let s = c.args.set.now in
    rw (err_from_is_err_and c.from_residual.result c.from_residual.ensures.1).1
    (file_front (g.W.Write.contents c.args.output.now.inner) (g.W.Write.contents c.write_start.new.output.inner)
    (head Two ++ table_text s.schema) (flat_map record_text (entries s.view)) (end_text (length (entries s.view)))
    c.in_err-write_start.ensures.front)

pub returns-in_err-write_records-clause-front : goal.returns-in_err-write_records-clause-front
returns-in_err-write_records-clause-front g c =
    let s = c.args.set.now in
    rw (err_from_is_err_and c.from_residual-in_err-write_records.result c.from_residual-in_err-write_records.ensures.1).1
    (file_middle (g.W.Write.contents c.args.output.now.inner) (g.W.Write.contents c.write_start.new.output.inner)
    (g.W.Write.contents c.write_records.new.output.inner) (head Two ++ table_text s.schema)
    (flat_map record_text (entries s.view)) (end_text (length (entries s.view))) c.in_ok-write_start.ensures.ok
    c.in_err-write_records.ensures.front)

pub returns-clause-front : goal.returns-clause-front
returns-clause-front g c =
    let s = c.args.set.now in
    on_err_then c.write_end.result _ _
    (λ front. file_end (g.W.Write.contents c.args.output.now.inner) (g.W.Write.contents c.write_start.new.output.inner)
    (g.W.Write.contents c.write_records.new.output.inner) (g.W.Write.contents c.write_end.new.output.inner)
    (head Two ++ table_text s.schema) (flat_map record_text (entries s.view)) (end_text (length (entries s.view)))
    c.in_ok-write_start.ensures.ok c.in_ok-write_records.ensures.ok (rw c.name_count.ensures.count at front))
    c.write_end.ensures.front
