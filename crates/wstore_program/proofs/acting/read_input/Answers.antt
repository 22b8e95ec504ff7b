use Rattle.std.proofs.Common.{◌∙◌, sym}
use Rattle.wstore_program.proofs.Performed.{path_is}
use Rattle.wstore_program.proofs.acting.read_input.Goals as goal

pub read_from-requires-clause-named : goal.read_from-requires-clause-named
read_from-requires-clause-named g c = path_is _ c.in-Some.path (sym c.input.ensures ∙ c.in-Some.is)
