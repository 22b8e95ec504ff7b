use Rattle.std.proofs.Common.{◌≡◌, ◌++◌, IsUtf8, chars, string_bytes}
use Rattle.std.specs.Str.Iter.{chars_rest}
use Rattle.wshown.specs.Shown.{shown_characters, shown_text}
use Rattle.wshown.proofs.values.push_text.Given as goal

abbrev pub invariant-characters : goal.invariant-characters
invariant-characters l = IsUtf8 (chars_rest l.c-iterator)
    × (string_bytes l.text ++ shown_characters l.left (chars (chars_rest l.c-iterator)) ≡ string_bytes l.fn.text ++ shown_text l.fn.value)
