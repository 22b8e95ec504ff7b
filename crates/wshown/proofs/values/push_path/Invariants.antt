use Rattle.std.proofs.Common.{◌≡◌, ◌++◌, IsUtf8, chars, flat_map, string_bytes}
use Rattle.std.specs.Str.Iter.{chars_rest}
use Rattle.wshown.specs.Shown.{shown_character, shown_path}
use Rattle.wshown.proofs.values.push_path.Given as goal

abbrev pub invariant-characters : goal.invariant-characters
invariant-characters l = IsUtf8 (chars_rest l.c-iterator)
    × (string_bytes l.text ++ flat_map shown_character (chars (chars_rest l.c-iterator)) ≡ string_bytes l.fn.text ++ shown_path l.fn.path)
