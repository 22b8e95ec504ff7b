use Rattle.std.proofs.Common.{◌∙◌, sym}
use Rattle.wsegment.proofs.SpellingFacts.{name-is}
use Rattle.wsegment.proofs.spelling.is_name_text.Goals as goal

pub returns : goal.returns
returns c = name-is c.args.bytes.now _ c.if-is_empty.ensures (c.is_too_long.ensures.short c.if-is_too_long.false)
    (sym c.is_ascii_digit.ensures.value ∙ c.if-is_ascii_digit.false) c.are_name_bytes.ensures
