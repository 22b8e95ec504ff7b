use Rattle.std.proofs.Common.{refl}
use Rattle.wstore_program.specs.Performing.{Bytes, NotCarriedOut, Unmade}
use Rattle.wstore_program.proofs.Performed.{ended_on_bytes, grown_is, lacks_of}
use Rattle.wstore_program.proofs.acting.perform_on_bytes.Goals as goal

pub finish-requires-clause-gives : goal.finish-requires-clause-gives
finish-requires-clause-gives g c = (
  c.requires.act,
  grown_is _ c.acted_on.result c.grown.result c.in-Ok-grown.first c.grown.ensures.made c.grown.ensures.refused c.in-Ok-grown.is
      c.acted_on.ensures,
)

pub returns-in-Err-grown-clause-ended : goal.returns-in-Err-grown-clause-ended
returns-in-Err-grown-clause-ended g c = NotCarriedOut _ _ (Bytes c.in-Ok.ensures.read)
    (Unmade (lacks_of c.acted_on.result c.grown.result c.in-Err-grown.fault c.grown.ensures.made c.grown.ensures.refused
    c.in-Err-grown.is) refl)

pub returns-clause-ended : goal.returns-clause-ended
returns-clause-ended g c = ended_on_bytes _ _ _ _ _ _ _ _ _ c.finish.result c.as_slice-other.ensures.value c.in-Ok.ensures.read
    c.finish.ensures.finished
