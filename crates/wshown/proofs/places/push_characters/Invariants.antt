use Rattle.std.proofs.Common.{◌≡◌, ◌++◌, IsUtf8, chars, drop, string_bytes}
use Rattle.std.specs.Str.Iter.{chars_rest}
use Rattle.wshown.specs.Shown.{line_characters}
use Rattle.wshown.proofs.places.push_characters.Given as goal

abbrev pub invariant-characters : goal.invariant-characters
invariant-characters l = IsUtf8 (chars_rest l.c-iterator)
    × (string_bytes l.text ++ line_characters l.left (drop l.before (chars (chars_rest l.c-iterator)))
    ≡ string_bytes l.fn.text ++ line_characters 60 (drop l.fn.left_out (chars l.fn.line)))
