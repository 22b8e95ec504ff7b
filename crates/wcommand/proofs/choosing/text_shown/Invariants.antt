use Rattle.std.proofs.Common.{◌≡◌, ◌++◌, IsUtf8, chars, map, string_bytes, encode_utf8_all}
use Rattle.std.specs.Str.Iter.{chars_rest}
use Rattle.wcommand.specs.ShownTexts.{shown}
use Rattle.wcommand.proofs.choosing.text_shown.Given as goal

abbrev pub invariant-characters : goal.invariant-characters
invariant-characters l = IsUtf8 (chars_rest l.c-iterator)
    × (string_bytes l.shown_text ++ encode_utf8_all (map shown (chars (chars_rest l.c-iterator)))
    ≡ encode_utf8_all (map shown (chars l.fn.text)))
