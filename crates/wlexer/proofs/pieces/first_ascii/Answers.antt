use Rattle.std.proofs.Common.{◌∙◌, sym}
use Rattle.wlexer.proofs.Boundaries.{behind_first}
use Rattle.wlexer.proofs.pieces.first_ascii.Goals as goal

pub range_from-requires : goal.range_from-requires
range_from-requires c = λ _.
    behind_first c.args.text.now c.as_bytes.result.now _ c.utf8.text c.as_bytes.ensures.value c.in_ok-first.ensures.item.3
    (sym c.is_ascii.ensures ∙ c.if-not-is_ascii.false)
