use Rattle.wlexer.proofs.Boundaries.{stretch_boundary}
use Rattle.wlexer.proofs.pieces.split_stretch.Goals as goal

pub split_at-requires : goal.split_at-requires
split_at-requires c = rw (c.stretch_len.ensures, c.as_bytes.ensures.value) (stretch_boundary c.args.stretch c.args.text.now c.utf8.text)
