use Rattle.std.proofs.Common.{◌≡◌, ◌++◌, map, take}
use Rattle.std.specs.List.{join_with_byte}
use Rattle.std.specs.Rc.{rc_str_bytes}
use Rattle.wprinted.specs.Printing.{comma, text_field}
use Rattle.wprinted.proofs.printing.push_names.Given as goal

abbrev pub invariant-loop-i : goal.invariant-loop-i
invariant-loop-i l = l.bytes.items ≡ l.fn.bytes.items ++ join_with_byte comma (map (λ name. text_field (rc_str_bytes name))
    (take l.i l.names))
